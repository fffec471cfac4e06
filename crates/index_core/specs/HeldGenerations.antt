-- Counts of holders as what a record says. Source: after Lucene's IndexFileDeleter, which counts
-- references to files.
use Rattle.std.specs.Prelude.{◌≡◌, ⊤, ℕ, ◌+◌, ◌≤◌, true, nat_eq, List, [], ◌∷◌, length, filter}
use Rattle.std.specs.Prelude.{All}
use Rattle.std.specs.List.{AllByRecursion}
use Rattle.index_holds.specs.declared.held.Held.{Held}
use Rattle.index_holds.specs.Entries.{Rise}
use Rattle.index_holds.specs.Holders.{is_held, after_release, given_up, HasHolder}
use Rattle.index_core.specs.Histories.{view_end, Record, View, is_among}
use Rattle.index_core.specs.Records.{with_event, drawn, current, open_views, open_merges}
use Rattle.index_core.specs.Records.{is_referenced, released}

-- how many open views and open merges hold a generation
abbrev pub holder_count : Record → ℕ → ℕ
holder_count r g =
    length (filter (λ v. is_among g v.generations) (open_views r))
    + length (filter (λ m. is_among g m.generations) (open_merges r))

-- an entry says of its generation what the record says
pub record IsEntryOf (r : Record) (h : Held) : Type 0 where
  pub in_use : h.current ≡ is_among h.generation (current r)
  pub held_by : h.holders ≡ holder_count r h.generation

-- the entries are those of the referenced generations, each as the record says
pub record AreHolds (r : Record) (entries : List Held) : Type 0 where
  pub each : AllByRecursion (IsEntryOf r) entries
  pub held : (g : ℕ) → is_held entries g ≡ is_referenced r g

-- numbers that rise strictly, from one on
abbrev pub RisesFrom : ℕ → List ℕ → Type 0
RisesFrom n [] = ⊤
RisesFrom n (g ∷ gs) = (n ≤ g) × RisesFrom (g + 1) gs

-- an item is in a list, alone under its number
pub record IsOnce {X : Type 0} (number : X → ℕ) (x : X) (xs : List X) : Type 0 where
  pub once : length (filter (λ y. nat_eq (number y) (number x)) xs) ≡ 1
  pub only : AllByRecursion (λ y. nat_eq (number y) (number x) ≡ true → y ≡ x) xs

-- generations that were drawn
abbrev pub WereDrawn : Record → List ℕ → Type 0
WereDrawn r gens = AllByRecursion (λ g. is_among g (drawn r) ≡ true) gens

-- Where a view ends, its generations have holders; what is given up is what the record releases,
-- and what is held afterwards is as the record then says.
abbrev pub EndedViewsRelease : Type 0
EndedViewsRelease =
    (r : Record) (entries : List Held) (caller : ℕ) (v : View) (gone : List ℕ)
    → IsOnce (λ w. w.view) v (open_views r) → WereDrawn r v.generations
    → RisesFrom 0 (drawn r) → Rise entries → AreHolds r entries
    → All (HasHolder entries) v.generations
    × AreHolds (with_event r (view_end caller v.view gone)) (after_release v.generations entries)
    × (given_up entries (after_release v.generations entries)
    ≡ released r (view_end caller v.view gone))
