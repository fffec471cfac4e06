-- The store once the slot of a generation has changed, by what the calls of the bodies say of each
-- field.
use Rattle.std.proofs.Common.{◌≡◌, ℕ, Bool, true, false, cond, List, [], ◌∷◌, ◌++◌}
use Rattle.std.proofs.Common.{map, refl, sym, ◌∙◌, Option}
use Rattle.sg_paths.specs.declared.op.Op.{Op}
use Rattle.sg_paths.specs.Operations.{PlainOp, PlainNumbered, PlainBatch}
use Rattle.index_holds.specs.declared.held.Held.{Held}
use Rattle.index_core.specs.Histories.{HistoryEvent, built, live_docs_updated}
use Rattle.index_core.specs.Keeping.{has_unbuilt, has_behind}
use Rattle.index_core.specs.Slots.{PlainSlot, slot_piece, HasBatch, HaveBatches, with_slot}
use Rattle.index_core.specs.Slots.{has_slot}
use Rattle.index_core.specs.OwnLists.{PlainLists}
use Rattle.index_core.specs.Fields.{building}
use Rattle.index_core.specs.Fields.{IsClosed}
use Rattle.index_core.specs.Fields.{living}
use Rattle.index_core.specs.Slots.{lacks_segment, slot_built, lacks_deletes, slot_lived}
use Rattle.index_core.proofs.SlotLemmas.{unbuilt_same, behind_same, built_same, lived_same}
use Rattle.index_core.proofs.SlotLemmas.{places_stay}

-- ---- a segment

-- it isn't there
pub built_not : (caller g : ℕ) (documents : List PlainNumbered) (h : List HistoryEvent)
    (bs : List PlainBatch)
    (ss ss' : List PlainSlot) (buffer : List PlainOp) (closed : Bool) (held : List Held)
    (lists : PlainLists)
    (frozen drawn begun opened places : ℕ) → has_slot g lacks_segment ss ≡ false
    → ss' ≡ cond (has_slot g lacks_segment ss) (with_slot g (slot_built documents) ss) ss
    → record {
      history = h;
      batches = bs;
      pieces = map (slot_piece bs) ss';
      buffer = buffer;
      closed = closed;
      held = held;
      lists = lists;
      frozen_count = frozen;
      drawn_count = drawn;
      begun_count = begun;
      open_count = opened;
      places = places;
    }
    ≡ building caller g documents (record {
      history = h;
      batches = bs;
      pieces = map (slot_piece bs) ss;
      buffer = buffer;
      closed = closed;
      held = held;
      lists = lists;
      frozen_count = frozen;
      drawn_count = drawn;
      begun_count = begun;
      open_count = opened;
      places = places;
    })
built_not caller g documents h bs ss ss' buffer closed held lists frozen drawn begun opened places
    none same =
    let tells : has_unbuilt g (map (slot_piece bs) ss) ≡ false = sym (unbuilt_same bs g ss)
    ∙ none in
    let stay : ss' ≡ ss = same ∙ rw none refl in
    rw (stay, tells) refl

-- it is
pub built_done : (caller g : ℕ) (documents : List PlainNumbered) (h h' : List HistoryEvent)
    (bs : List PlainBatch)
    (ss ss' : List PlainSlot) (buffer : List PlainOp) (closed : Bool) (held : List Held)
    (lists : PlainLists)
    (frozen drawn begun opened places places' : ℕ) → has_slot g lacks_segment ss ≡ true
    → ss' ≡ cond (has_slot g lacks_segment ss) (with_slot g (slot_built documents) ss) ss
    → h' ≡ h ++ built caller g ∷ [] → places' ≡ places
    → record {
      history = h';
      batches = bs;
      pieces = map (slot_piece bs) ss';
      buffer = buffer;
      closed = closed;
      held = held;
      lists = lists;
      frozen_count = frozen;
      drawn_count = drawn;
      begun_count = begun;
      open_count = opened;
      places = places';
    }
    ≡ building caller g documents (record {
      history = h;
      batches = bs;
      pieces = map (slot_piece bs) ss;
      buffer = buffer;
      closed = closed;
      held = held;
      lists = lists;
      frozen_count = frozen;
      drawn_count = drawn;
      begun_count = begun;
      open_count = opened;
      places = places;
    })
built_done caller g documents h h' bs ss ss' buffer closed held lists frozen drawn begun opened
    places places' some same more room =
    let tells : has_unbuilt g (map (slot_piece bs) ss) ≡ true = sym (unbuilt_same bs g ss) ∙ some in
    let new : ss' ≡ with_slot g (slot_built documents) ss = same ∙ rw some refl in
    rw (new, more, room, tells) (rw (built_same bs g documents ss) refl)

-- ---- live docs

-- it isn't there
pub lived_not : (caller g upto : ℕ) (live_docs : List Bool) (h : List HistoryEvent)
    (bs : List PlainBatch)
    (ss ss' : List PlainSlot) (buffer : List PlainOp) (closed : Bool) (held : List Held)
    (lists : PlainLists)
    (frozen drawn begun opened places : ℕ) → has_slot g (lacks_deletes upto) ss ≡ false
    → ss' ≡ cond (has_slot g (lacks_deletes upto) ss) (with_slot g (slot_lived live_docs upto) ss)
    ss
    → record {
      history = h;
      batches = bs;
      pieces = map (slot_piece bs) ss';
      buffer = buffer;
      closed = closed;
      held = held;
      lists = lists;
      frozen_count = frozen;
      drawn_count = drawn;
      begun_count = begun;
      open_count = opened;
      places = places;
    }
    ≡ living caller g live_docs upto (record {
      history = h;
      batches = bs;
      pieces = map (slot_piece bs) ss;
      buffer = buffer;
      closed = closed;
      held = held;
      lists = lists;
      frozen_count = frozen;
      drawn_count = drawn;
      begun_count = begun;
      open_count = opened;
      places = places;
    })
lived_not caller g upto live_docs h bs ss ss' buffer closed held lists frozen drawn begun opened
    places none same =
    let tells : has_behind g upto (map (slot_piece bs) ss) ≡ false = sym (behind_same bs g upto
    ss) ∙ none in
    let stay : ss' ≡ ss = same ∙ rw none refl in
    rw (stay, tells) refl

-- it is
pub lived_done : (caller g upto : ℕ) (live_docs : List Bool) (h h' : List HistoryEvent)
    (bs : List PlainBatch)
    (ss ss' : List PlainSlot) (buffer : List PlainOp) (closed : Bool) (held : List Held)
    (lists : PlainLists)
    (frozen drawn begun opened places places' : ℕ) → has_slot g (lacks_deletes upto) ss ≡ true
    → ss' ≡ cond (has_slot g (lacks_deletes upto) ss) (with_slot g (slot_lived live_docs upto) ss)
    ss
    → h' ≡ h ++ live_docs_updated caller g upto ∷ [] → places' ≡ places
    → record {
      history = h';
      batches = bs;
      pieces = map (slot_piece bs) ss';
      buffer = buffer;
      closed = closed;
      held = held;
      lists = lists;
      frozen_count = frozen;
      drawn_count = drawn;
      begun_count = begun;
      open_count = opened;
      places = places';
    }
    ≡ living caller g live_docs upto (record {
      history = h;
      batches = bs;
      pieces = map (slot_piece bs) ss;
      buffer = buffer;
      closed = closed;
      held = held;
      lists = lists;
      frozen_count = frozen;
      drawn_count = drawn;
      begun_count = begun;
      open_count = opened;
      places = places;
    })
lived_done caller g upto live_docs h h' bs ss ss' buffer closed held lists frozen drawn begun opened
    places places' some same
    more room =
    let tells : has_behind g upto (map (slot_piece bs) ss) ≡ true = sym (behind_same bs g upto ss)
    ∙ some in
    let new : ss' ≡ with_slot g (slot_lived live_docs upto) ss = same ∙ rw some refl in
    rw (new, more, room, tells) (rw (lived_same bs g upto live_docs ss) refl)

-- ---- the table

-- each slot has its batch still
pub slots_stay : (bs : List PlainBatch) (g : ℕ) (t : PlainSlot → Bool)
    (f : PlainSlot → PlainSlot) → ((s : PlainSlot) → HasBatch bs s → HasBatch bs (f s))
    → (ss ss' : List PlainSlot)
    → ss' ≡ cond (has_slot g t ss) (with_slot g f ss) ss → HaveBatches bs ss
    → HaveBatches bs ss'
slots_stay bs g t f still ss ss' is have = rw is (by_cases (has_slot g t ss))
  where
    by_cases : (b : Bool) → HaveBatches bs (cond b (with_slot g f ss) ss)
    by_cases true = places_stay bs g f still ss have
    by_cases false = have

-- room stays
pub closed_stays : (frozen : ℕ) (closed : Option PlainBatch) (buffered : List Op)
    (batches batch_places slots slots' slot_places slot_places' spare merging : ℕ)
    → slots' ≡ slots → slot_places' ≡ slot_places
    → IsClosed frozen closed buffered batches batch_places slots slot_places spare merging
    → IsClosed frozen closed buffered batches batch_places slots' slot_places' spare merging
closed_stays frozen closed buffered batches batch_places slots slots' slot_places slot_places'
    spare merging same room is =
    rw (same, room) is
