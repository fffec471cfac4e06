-- What is held after each event, and what is given up. Source: after Lucene's IndexFileDeleter.
use Rattle.std.specs.Prelude.{◌≡◌, ◌<◌, ◌+◌, ◌-◌, ◌^◌, ℕ, true, false, Some, None, List, [], ◌∷◌}
use Rattle.std.specs.Prelude.{◌++◌, length, map, All}
use Rattle.std.specs.List.{AllByRecursion, filter_map}
use Rattle.sg_paths.specs.Operations.{PlainOp}
use Rattle.index_holds.specs.declared.held.Held.{Held}
use Rattle.index_holds.specs.Entries.{Rise}
use Rattle.index_holds.specs.Holders.{is_held, with_current, with_holder, after_release}
use Rattle.index_holds.specs.Holders.{after_retire, given_up, HasHolder, HasRoom}
use Rattle.index_holds.specs.Holders.{IsCurrentAndHeld}
use Rattle.index_core.specs.Histories.{HistoryEvent, freeze, merge_begin, merge_end, merge_drop}
use Rattle.index_core.specs.Histories.{Record, View, Merge, is_among, begun_view, ended_view}
use Rattle.index_core.specs.Histories.{ended_merge, closed_merge, drawn_generation, merges_from}
use Rattle.index_core.specs.Histories as events
use Rattle.index_core.specs.Records.{with_event, drawn, current, open_views, open_merges}
use Rattle.index_core.specs.Records.{begun_merges, released}
use Rattle.index_core.specs.Generations.{merges_of}
use Rattle.index_core.specs.Calls.{beginning}
use Rattle.index_core.specs.HeldGenerations.{AreHolds, IsOnce, RisesFrom, WereDrawn}

-- the record with one event more, and with this journal
abbrev pub with_both : Record → HistoryEvent → List PlainOp → Record
with_both r e journal = record { history = r.history ++ e ∷ []; journal = journal }

-- the generations of all views and merges were drawn
pub record AreDrawn (r : Record) : Type 0 where
  pub views : AllByRecursion (λ v. WereDrawn r v.generations) (events.begun_views r.history)
  pub merges : AllByRecursion (λ m. WereDrawn r m.generations) (begun_merges r)

-- those of the views and merges that an event begins were drawn
pub record BeginsDrawn (r : Record) (e : HistoryEvent) : Type 0 where
  pub view : AllByRecursion (λ v. WereDrawn r v.generations) (filter_map begun_view (e ∷ []))
  pub merge : (n : ℕ)
      → AllByRecursion (λ m. WereDrawn r m.generations) (merges_from n (e ∷ []))

-- an event that accepts, builds, or applies deletes: it draws, begins and ends nothing
pub record IsQuiet (e : HistoryEvent) : Type 0 where
  pub draws : drawn_generation e ≡ None
  pub begins : begun_view e ≡ None
  pub ends : ended_view e ≡ None
  pub merges : (n : ℕ) → merges_from n (e ∷ []) ≡ []
  pub replaces : ended_merge e ≡ None
  pub closes : closed_merge e ≡ None

-- these generations are current
abbrev pub AreInUse : Record → List ℕ → Type 0
AreInUse r gens = (g : ℕ) → is_among g gens ≡ true → is_among g (current r) ≡ true

-- fewer views and merges are open than a count of holders can tell
abbrev pub AreFewOpen : Record → Type 0
AreFewOpen r = length (open_views r) + length (open_merges r) < 2 ^ 32 - 1

-- a merge is open and may end: alone under its number, with current generations
pub record MayEnd (r : Record) (m : Merge) : Type 0 where
  pub once : IsOnce (λ x. x.merge) m (open_merges r)
  pub alone : merges_of r m.merge ≡ m ∷ []
  pub in_use : AreInUse r m.generations

-- a generation is new: it wasn't drawn
abbrev pub IsNew : Record → ℕ → Type 0
IsNew r g = is_among g (drawn r) ≡ false

-- a view or a merge that begins adds a holder to each of its generations
pub record AddsHolders (r r' : Record) (gens : List ℕ) (hs : List Held) : Type 0 where
  pub room : All (HasRoom hs) gens
  pub holds : AreHolds r' (map (with_holder gens) hs)

-- a merge that is dropped gives back its generations, and none is given up
pub record DropsHolders (r r' : Record) (gens : List ℕ) (hs : List Held) : Type 0 where
  pub held : All (HasHolder hs) gens
  pub holds : AreHolds r' (after_release gens hs)
  pub kept : given_up hs (after_release gens hs) ≡ []

-- a merge that ends gives back its generations, which aren't current any more
pub record Retires (r : Record) (e : HistoryEvent) (gens : List ℕ) (hs : List Held) : Type 0 where
  pub held : All (IsCurrentAndHeld hs) gens
  pub freed : given_up hs (after_retire gens hs) ≡ released r e

-- What is held after each event but a view's end is as the record then says, and what is given up
-- is what it releases.
pub record CountsFollowEvents : Type 0 where
  pub drawn_still : (r : Record) (e : HistoryEvent) (journal : List PlainOp) → AreDrawn r
      → BeginsDrawn r e → AreDrawn (with_both r e journal)
  pub quiet : (r : Record) (e : HistoryEvent) (journal : List PlainOp) (hs : List Held)
      → IsQuiet e → AreHolds r hs → AreHolds (with_both r e journal) hs
  pub freezes : (r : Record) (caller g from upto : ℕ) (hs : List Held) → AreDrawn r → IsNew r g
      → AreHolds r hs
      → (is_held hs g ≡ false)
      × AreHolds (with_event r (freeze caller g from upto)) (with_current g hs)
  pub begins : (r : Record) (v : View) (hs : List Held)
      → is_among v.view (filter_map ended_view r.history) ≡ false → AreInUse r v.generations
      → AreFewOpen r → AreHolds r hs
      → AddsHolders r (with_event r (beginning v)) v.generations hs
  pub begins_merge : (r : Record) (caller merge : ℕ) (gens : List ℕ) (hs : List Held)
      → is_among merge (filter_map closed_merge r.history) ≡ false → AreInUse r gens
      → AreFewOpen r → AreHolds r hs
      → AddsHolders r (with_event r (merge_begin caller merge gens)) gens hs
  pub drops_merge : (r : Record) (caller : ℕ) (m : Merge) (hs : List Held) → MayEnd r m
      → AreHolds r hs
      → DropsHolders r (with_event r (merge_drop caller m.merge)) m.generations hs
  pub ends_merge : (r : Record) (caller : ℕ) (m : Merge) (gone : List ℕ) (hs : List Held)
      → MayEnd r m → AreDrawn r → RisesFrom 0 (drawn r) → Rise hs → AreHolds r hs
      → Retires r (merge_end caller m.merge None gone) m.generations hs
      × AreHolds (with_event r (merge_end caller m.merge None gone)) (after_retire m.generations hs)
  pub ends_with : (r : Record) (caller : ℕ) (m : Merge) (into : ℕ) (gone : List ℕ)
      (hs : List Held) → MayEnd r m → AreDrawn r → IsNew r into → RisesFrom 0 (drawn r) → Rise hs
      → AreHolds r hs
      → Retires r (merge_end caller m.merge (Some into) gone) m.generations hs
      × (is_held (after_retire m.generations hs) into ≡ false)
      × AreHolds (with_event r (merge_end caller m.merge (Some into) gone))
      (with_current into (after_retire m.generations hs))
