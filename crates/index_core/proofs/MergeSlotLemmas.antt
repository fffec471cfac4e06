-- Slots of a merge go, and the one that it brings comes, by what the calls of the bodies say of
-- each field.
use Rattle.std.proofs.Common.{◌≡◌, ◌≤◌, ◌<◌, ◌+◌, ◌-◌, ℕ, Bool, true, false, cond, not, Option}
use Rattle.std.proofs.Common.{Some}
use Rattle.std.proofs.Common.{None, List, [], ◌∷◌, ◌++◌, map, refl, sym, ap, ◌∙◌}
use Rattle.std.proofs.Common.{Result, Ok, Err}
use Rattle.std.specs.Prelude.{filter, OnOk}
use Rattle.std.specs.List.Sorted.{IsStrictlyIncreasing, IsNonDecreasing}
use Rattle.std.proofs.lemmas.List.Sorted.{IsNonDecreasingBy-from_default}
use Rattle.std.proofs.lemmas.List.{map-append, append-nil}
use Rattle.sg_paths.specs.declared.op.Op.{Op}
use Rattle.sg_paths.specs.Operations.{PlainOp, PlainNumbered, PlainBatch}
use Rattle.segment.specs.Pieces.{PlainPiece}
use Rattle.index_holds.specs.declared.held.Held.{Held}
use Rattle.index_holds.specs.Holders.{after_release, after_retire, given_up, with_current}
use Rattle.index_holds.proofs.PlaceLemmas.{never_falls}
use Rattle.index_core.specs.Histories.{HistoryEvent, merge_end, view_end, is_among}
use Rattle.index_core.specs.EndedMerges.{merged_pieces}
use Rattle.index_core.specs.Slots.{PlainSlot, slot_piece, HasBatch, HaveBatches, without_slots}
use Rattle.index_core.specs.Fields.{IsClosed, retiring}
use Rattle.index_core.specs.Slots.{brought_slot}
use Rattle.index_core.specs.OwnLists.{PlainOwnList, without_list}
use Rattle.index_core.specs.Fields.{bringing, ending}
use Rattle.index_core.proofs.ListLemmas.{all_more}

-- ---- room

-- room changes with the slots and the open merges, and leaves a place for what is closed
pub closed_keeps : (frozen : ℕ) (closed : Option PlainBatch) (buffered : List Op)
    (batches batch_places slots slots' places places' spare spare' merging merging' : ℕ)
    → (slots + merging ≤ places → slots' + merging' ≤ places')
    → (slots + merging < places → slots' + merging' < places')
    → (merging ≤ spare → merging' ≤ spare') → (merging < spare → merging' < spare')
    → IsClosed frozen closed buffered batches batch_places slots places spare merging
    → IsClosed frozen closed buffered batches batch_places slots' places' spare' merging'
closed_keeps frozen None buffered batches batch_places slots slots' places places' spare spare'
    merging merging' most less few fewer is =
    (most is.0, few is.1)
closed_keeps frozen (Some b) buffered batches batch_places slots slots' places places' spare spare'
    merging merging' most less few fewer is =
    (less is.0, fewer is.1, is.2, is.3, is.4, is.5, is.6)

-- numbers that rise don't fall
pub never_fall : (xs : List ℕ) → IsStrictlyIncreasing xs → IsNonDecreasing xs
never_fall xs rises = IsNonDecreasingBy-from_default (λ (n : ℕ). n) xs 0 (never_falls xs rises)

-- what holds anyway holds where all is well
pub on_ok : {A E : Type 0} (r : Result A E) (P : Type 0) → P → OnOk r P
on_ok (Ok x) P p = p
on_ok (Err e) P p = tt

-- ---- slots

pub removed_pieces : (bs : List PlainBatch) (gens : List ℕ) (ss : List PlainSlot)
    → map (slot_piece bs) (without_slots gens ss)
    ≡ filter (λ p. not (is_among p.generation gens)) (map (slot_piece bs) ss)
removed_pieces bs gens [] = refl
removed_pieces bs gens (s ∷ ss) =
    by_test (is_among s.generation gens) (removed_pieces bs gens ss)
  where
    by_test : (b : Bool)
        → map (slot_piece bs) (without_slots gens ss)
        ≡ filter (λ p. not (is_among p.generation gens)) (map (slot_piece bs) ss)
        → map (slot_piece bs) (cond (not b) (s ∷ without_slots gens ss) (without_slots gens ss))
        ≡ cond (not b)
        (slot_piece bs s ∷ filter (λ p. not (is_among p.generation gens)) (map (slot_piece bs) ss))
        (filter (λ p. not (is_among p.generation gens)) (map (slot_piece bs) ss))
    by_test true e = e
    by_test false e = ap (λ (ps : List PlainPiece). slot_piece bs s ∷ ps) e

pub have_removed : (bs : List PlainBatch) (gens : List ℕ) (ss : List PlainSlot)
    → HaveBatches bs ss → HaveBatches bs (without_slots gens ss)
have_removed bs gens [] have = tt
have_removed bs gens (s ∷ ss) have =
    by_test (is_among s.generation gens) (have_removed bs gens ss have.1)
  where
    by_test : (b : Bool) → HaveBatches bs (without_slots gens ss)
        → HaveBatches bs (cond (not b) (s ∷ without_slots gens ss) (without_slots gens ss))
    by_test true later = later
    by_test false later = (have.0, later)

pub have_brought : (bs : List PlainBatch) (gens : List ℕ) (ss : List PlainSlot) (g upto : ℕ)
    (documents : List PlainNumbered) → HaveBatches bs ss
    → HaveBatches bs (without_slots gens ss ++ brought_slot g upto documents ∷ [])
have_brought bs gens ss g upto documents have =
    all_more (HasBatch bs) (without_slots gens ss) (brought_slot g upto documents)
    (have_removed bs gens ss have) (λ none. absurd (let no : false ≡ true = none in cc))

-- ---- the store

pub ended_store : (caller view : ℕ) (gens : List ℕ) (h h' : List HistoryEvent)
    (bs : List PlainBatch) (ps : List PlainPiece) (buffer : List PlainOp) (closed : Bool)
    (held held' : List Held) (views views' merges : List PlainOwnList)
    (view_places view_places' merge_places merges_begun opens : ℕ)
    (frozen drawn begun opened places places' : ℕ) → held' ≡ after_release gens held
    → h' ≡ h ++ view_end caller view (given_up held (after_release gens held)) ∷ []
    → views' ≡ without_list view views → view_places' ≡ view_places → places' ≡ places
    → record {
      history = h';
      batches = bs;
      pieces = ps;
      buffer = buffer;
      closed = closed;
      held = held';
      lists = record {
        views = views';
        merges = merges;
        view_places = view_places';
        merge_places = merge_places;
        merges_begun = merges_begun;
        merges_open = opens;
      };
      frozen_count = frozen;
      drawn_count = drawn;
      begun_count = begun;
      open_count = opened - 1;
      places = places';
    }
    ≡ ending caller view gens (record {
      history = h;
      batches = bs;
      pieces = ps;
      buffer = buffer;
      closed = closed;
      held = held;
      lists = record {
        views = views;
        merges = merges;
        view_places = view_places;
        merge_places = merge_places;
        merges_begun = merges_begun;
        merges_open = opens;
      };
      frozen_count = frozen;
      drawn_count = drawn;
      begun_count = begun;
      open_count = opened;
      places = places;
    })
ended_store caller view gens h h' bs ps buffer closed held held' views views' merges view_places
    view_places' merge_places merges_begun opens frozen drawn begun opened places places' held-is
    history lists room room' =
    rw (history, held-is, lists, room, room') refl

pub retired_store : (caller merge : ℕ) (gens : List ℕ) (h h' : List HistoryEvent)
    (bs : List PlainBatch) (ss ss' : List PlainSlot) (buffer : List PlainOp) (closed : Bool)
    (held held' : List Held) (views merges merges' : List PlainOwnList)
    (view_places merge_places merge_places' merges_begun opens opens' : ℕ)
    (frozen drawn begun opened places places' : ℕ)
    → ss' ≡ without_slots gens ss → held' ≡ after_retire gens held
    → h' ≡ h ++ merge_end caller merge None (given_up held (after_retire gens held)) ∷ []
    → merges' ≡ without_list merge merges → merge_places' ≡ merge_places → opens' ≡ opens - 1
    → places' ≡ places
    → record {
      history = h';
      batches = bs;
      pieces = map (slot_piece bs) ss';
      buffer = buffer;
      closed = closed;
      held = held';
      lists = record {
        views = views;
        merges = merges';
        view_places = view_places;
        merge_places = merge_places';
        merges_begun = merges_begun;
        merges_open = opens';
      };
      frozen_count = frozen;
      drawn_count = drawn;
      begun_count = begun;
      open_count = opened;
      places = places';
    }
    ≡ retiring caller merge gens (record {
      history = h;
      batches = bs;
      pieces = map (slot_piece bs) ss;
      buffer = buffer;
      closed = closed;
      held = held;
      lists = record {
        views = views;
        merges = merges;
        view_places = view_places;
        merge_places = merge_places;
        merges_begun = merges_begun;
        merges_open = opens;
      };
      frozen_count = frozen;
      drawn_count = drawn;
      begun_count = begun;
      open_count = opened;
      places = places;
    })
retired_store caller merge gens h h' bs ss ss' buffer closed held held' views merges merges'
    view_places merge_places merge_places' merges_begun opens opens' frozen drawn begun opened
    places places' slots-are held-is history lists room one room' =
    let pieces : map (slot_piece bs) ss' ≡ merged_pieces gens [] (map (slot_piece bs) ss) =
    ap (λ (zs : List PlainSlot). map (slot_piece bs) zs) slots-are ∙ removed_pieces bs gens ss
    ∙ sym (append-nil (filter (λ p. not (is_among p.generation gens)) (map (slot_piece bs) ss))) in
    rw (history, pieces, held-is, lists, room, one, room') refl

pub brought_store : (caller merge upto : ℕ) (gens : List ℕ) (documents : List PlainNumbered)
    (h h' : List HistoryEvent) (bs : List PlainBatch) (ss ss' : List PlainSlot)
    (buffer : List PlainOp) (closed : Bool) (held held' : List Held)
    (views merges merges' : List PlainOwnList)
    (view_places merge_places merge_places' merges_begun opens opens' : ℕ)
    (frozen drawn begun opened places places' : ℕ)
    → ss' ≡ without_slots gens ss ++ brought_slot (drawn + 1) upto documents ∷ []
    → held' ≡ with_current (drawn + 1) (after_retire gens held)
    → h' ≡ h ++ merge_end caller merge (Some (drawn + 1))
    (given_up held (after_retire gens held)) ∷ []
    → merges' ≡ without_list merge merges → merge_places' ≡ merge_places → opens' ≡ opens - 1
    → places' ≡ places
    → record {
      history = h';
      batches = bs;
      pieces = map (slot_piece bs) ss';
      buffer = buffer;
      closed = closed;
      held = held';
      lists = record {
        views = views;
        merges = merges';
        view_places = view_places;
        merge_places = merge_places';
        merges_begun = merges_begun;
        merges_open = opens';
      };
      frozen_count = frozen;
      drawn_count = drawn + 1;
      begun_count = begun;
      open_count = opened;
      places = places';
    }
    ≡ bringing caller merge upto gens documents (record {
      history = h;
      batches = bs;
      pieces = map (slot_piece bs) ss;
      buffer = buffer;
      closed = closed;
      held = held;
      lists = record {
        views = views;
        merges = merges;
        view_places = view_places;
        merge_places = merge_places;
        merges_begun = merges_begun;
        merges_open = opens;
      };
      frozen_count = frozen;
      drawn_count = drawn;
      begun_count = begun;
      open_count = opened;
      places = places;
    })
brought_store caller merge upto gens documents h h' bs ss ss' buffer closed held held' views merges
    merges' view_places merge_places merge_places' merges_begun opens opens' frozen drawn begun
    opened places places' slots-are held-is history lists room one room' =
    let slot = brought_slot (drawn + 1) upto documents in
    let pieces : map (slot_piece bs) ss'
    ≡ merged_pieces gens (slot_piece bs slot ∷ []) (map (slot_piece bs) ss) =
    ap (λ (zs : List PlainSlot). map (slot_piece bs) zs) slots-are
    ∙ map-append (slot_piece bs) (without_slots gens ss) (slot ∷ [])
    ∙ ap (λ (ps : List PlainPiece). ps ++ slot_piece bs slot ∷ []) (removed_pieces bs gens ss) in
    rw (history, pieces, held-is, lists, room, one, room') refl
