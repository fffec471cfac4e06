-- Slots and batches, by what the calls of the bodies say of each field.
use Rattle.std.proofs.Common.{◌≡◌, ℕ, zero, suc, ◌+◌, ◌<◌, ◌≤◌, Bool, true, false, List, [], ◌∷◌}
use Rattle.std.proofs.Common.{◌++◌}
use Rattle.std.proofs.Common.{length, map, drop, min, refl, sym, ◌∙◌, ap, arith, Option, Some, None}
use Rattle.std.specs.Prelude.{slice_index_or, nat_le, is_none, if◌then◌else◌}
use Rattle.std.proofs.lemmas.Bool.Decides.{nat_tests}
use Rattle.std.proofs.lemmas.List.{map-append, append-nil, drop-append-le}
use Rattle.sg_paths.specs.declared.op.Op.{Op}
use Rattle.sg_paths.specs.Operations.{PlainBatch, PlainNumbered}
use Rattle.segment.specs.Pieces.{PlainPiece, PieceBody, unbuilt}
use Rattle.index_holds.specs.declared.held.Held.{Held}
use Rattle.index_holds.specs.Holders.{with_current}
use Rattle.index_core.specs.declared.event.Event.{Event}
use Rattle.index_core.specs.Histories.{HistoryEvent, freeze, event_of}
use Rattle.index_core.specs.Keeping.{least_applied, known_batches}
use Rattle.index_core.specs.Fields.{Stored, all_pieces, all_batches, next_piece, next_batch}
use Rattle.index_core.specs.Fields.{freezing, buffer_of, is_closed, IsClosed}
use Rattle.index_core.specs.Slots.{PlainSlot, slot_piece}
use Rattle.index_core.specs.Slots.{body_at, no_batch, HasBatch, HaveBatches}
use Rattle.index_core.specs.OwnLists.{PlainLists}

-- one event more, as the history has it
pub mapped_one : (events more : List Event) (event : Event)
    → more ≡ events ++ event ∷ []
    → map event_of more ≡ map event_of events ++ event_of event ∷ []
mapped_one events more event pushed = rw pushed (map-append event_of events (event ∷ []))

-- a batch stands where it stood
stands : (bs : List PlainBatch) (b : PlainBatch) (n : ℕ) → n < length bs
    → slice_index_or (bs ++ b ∷ []) n no_batch ≡ slice_index_or bs n no_batch
stands [] b n within = absurd (omega (arith, within))
stands (x ∷ bs) b zero within = refl
stands (x ∷ bs) b (suc n) within = stands bs b n (omega (arith, within))

-- the new one at the end
at_end : (bs : List PlainBatch) (b : PlainBatch)
    → slice_index_or (bs ++ b ∷ []) (length bs) no_batch ≡ b
at_end [] b = refl
at_end (x ∷ bs) b = at_end bs b

body_same : (bs : List PlainBatch) (b : PlainBatch) (n : ℕ) (ds : Option (List PlainNumbered))
    → (is_none ds ≡ true → n < length bs) → body_at (bs ++ b ∷ []) n ds ≡ body_at bs n ds
body_same bs b n None within = ap unbuilt (stands bs b n (within refl))
body_same bs b n (Some ds) within = refl

body_stands : (bs : List PlainBatch) (b : PlainBatch) (s : PlainSlot) → HasBatch bs s
    → slot_piece (bs ++ b ∷ []) s ≡ slot_piece bs s
body_stands bs b s within =
    ap (λ (body : PieceBody). record {
      generation = s.generation;
      body = body;
      live_docs = s.live_docs;
      applied = s.applied;
    }) (body_same bs b s.at s.documents within)

pieces_stand : (bs : List PlainBatch) (b : PlainBatch) (slots : List PlainSlot)
    → HaveBatches bs slots
    → map (slot_piece (bs ++ b ∷ [])) slots ≡ map (slot_piece bs) slots
pieces_stand bs b [] have = refl
pieces_stand bs b (s ∷ slots) have =
    rw (body_stands bs b s have.0)
    (ap (λ (ps : List PlainPiece). slot_piece bs s ∷ ps) (pieces_stand bs b slots have.1))

-- one batch more, and its slot
pub pieces_more : (bs : List PlainBatch) (b : PlainBatch) (slots : List PlainSlot) (g applied : ℕ)
    → HaveBatches bs slots
    → map (slot_piece (bs ++ b ∷ [])) (slots ++ record {
      generation = g;
      at = length bs;
      documents = None;
      live_docs = None;
      applied = applied;
    } ∷ [])
    ≡ map (slot_piece bs) slots ++ record {
      generation = g;
      body = unbuilt b;
      live_docs = None;
      applied = applied;
    } ∷ []
pieces_more bs b slots g applied have =
    map-append (slot_piece (bs ++ b ∷ [])) slots _
    ∙ rw (pieces_stand bs b slots have) (rw (at_end bs b) refl)

-- the store once the closed batch is frozen
pub frozen_store : (caller : ℕ) (h h' : List HistoryEvent) (bs bs' : List PlainBatch)
    (slots slots' : List PlainSlot) (b : PlainBatch) (closed later : Option PlainBatch)
    (buffered : List Op) (held held' : List Held) (lists : PlainLists)
    (frozen drawn begun opened places places' count room slot_count rooms spare merging : ℕ)
    (at from upto : ℕ)
    → closed ≡ Some b → later ≡ None
    → IsClosed frozen closed buffered count room slot_count rooms spare merging
    → HaveBatches bs slots
    → from ≡ b.from → upto ≡ b.upto
    → h' ≡ h ++ freeze caller (drawn + 1) from upto ∷ [] → bs' ≡ bs ++ b ∷ []
    → slots' ≡ slots ++ record {
      generation = drawn + 1;
      at = at;
      documents = None;
      live_docs = None;
      applied = frozen;
    } ∷ []
    → at ≡ length bs → places' ≡ places → held' ≡ with_current (drawn + 1) held
    → record {
      history = h';
      batches = bs';
      pieces = map (slot_piece bs') slots';
      buffer = buffer_of later buffered;
      closed = is_closed later;
      held = held';
      lists = lists;
      frozen_count = upto;
      drawn_count = drawn + 1;
      begun_count = begun;
      open_count = opened;
      places = places';
    }
    ≡ freezing caller (record {
      history = h;
      batches = bs;
      pieces = map (slot_piece bs) slots;
      buffer = buffer_of closed buffered;
      closed = is_closed closed;
      held = held;
      lists = lists;
      frozen_count = frozen;
      drawn_count = drawn;
      begun_count = begun;
      open_count = opened;
      places = places;
    })
frozen_store caller h h' bs bs' slots slots' b closed later buffered held held' lists frozen drawn
    begun opened places places' count room slot_count rooms spare merging at from upto some none is
    have from-is upto-is history batches slots-are at-is room-is held-is =
    let all = rw some at is in
    let whole : b.operations ++ [] ≡ b.operations = append-nil b.operations in
    rw (history, batches, slots-are, at-is, some, none, room-is, held-is, from-is, upto-is)
    (rw (pieces_more bs b slots (drawn + 1) frozen have)
    (rw all.2 (rw whole (rw (← all.5) (rw (← all.4) refl)))))

-- the least applied is at most the last's
least_below : (most : ℕ) (ps : List PlainPiece) → least_applied most ps ≤ most
least_below most [] = omega arith
least_below most (p ∷ ps) =
    let later = least_below (min most p.applied) ps in omega (arith, later)

pub least_of_last : (most : ℕ) (ps : List PlainPiece) (p : PlainPiece)
    → least_applied most (ps ++ p ∷ []) ≤ p.applied
least_of_last most [] p = omega arith
least_of_last most (q ∷ ps) p = least_of_last (min most q.applied) ps p

-- a batch behind isn't known
known_more : (least : ℕ) (bs : List PlainBatch) (b : PlainBatch) → nat_le b.upto least ≡ false
    → known_batches least (bs ++ b ∷ []) ≡ known_batches least bs
known_more least [] b over = rw over refl
known_more least (x ∷ bs) b over = rw (known_more least bs b over) refl

known_within : (least : ℕ) (bs : List PlainBatch) → known_batches least bs ≤ length bs
known_within least [] = omega arith
known_within least (b ∷ bs) = by_cases (nat_le b.upto least) (known_within least bs)
  where
    by_cases : (c : Bool) → known_batches least bs ≤ length bs
        → (if c then known_batches least bs + 1 else 0) ≤ length (b ∷ bs)
    by_cases true h = omega (arith, h)
    by_cases false h = omega arith

pub unknown_more : (least : ℕ) (bs : List PlainBatch) (b : PlainBatch) → least < b.upto
    → drop (known_batches least bs) bs ++ b ∷ []
    ≡ drop (known_batches least (bs ++ b ∷ [])) (bs ++ b ∷ [])
unknown_more least bs b over =
    let test : nat_le b.upto least ≡ false = grind (arith, nat_tests, over) in
    rw (known_more least bs b test)
    (sym (drop-append-le (known_batches least bs) bs (b ∷ []) (known_within least bs)))

-- what the closed batch is
pub closed_is : (frozen : ℕ) (closed : Option PlainBatch) (buffered : List Op)
    (count room slot_count rooms spare merging : ℕ) (b : PlainBatch) → closed ≡ Some b
    → IsClosed frozen closed buffered count room slot_count rooms spare merging
    → b ≡ record {
      from = frozen + 1;
      upto = frozen + length (buffer_of closed buffered);
      operations = buffer_of closed buffered;
    }
closed_is frozen closed buffered count room slot_count rooms spare merging b some is =
    let all = rw some at is in
    let whole : b.operations ++ [] ≡ b.operations = append-nil b.operations in
    rw some (rw all.2 (rw whole (rw (← all.5) (rw (← all.4) refl))))

pub least_closed : (s : Stored) (least upto : ℕ) (ps : List PlainPiece)
    → least ≡ least_applied upto ps
    → ps ≡ all_pieces s → s.closed ≡ true → 0 < length s.buffer
    → least < s.frozen_count + length s.buffer
least_closed s least upto ps is all closed some =
    let pieces : ps ≡ s.pieces ++ next_piece s ∷ [] = rw closed at all in
    let below = least_of_last upto s.pieces (next_piece s) in
    let same : least ≡ least_applied upto (s.pieces ++ next_piece s ∷ []) =
    is ∙ ap (least_applied upto) pieces in
    omega (arith, below, same, some)

pub shared_one : (s : Stored) (b : PlainBatch) (least : ℕ) (xs ys : List PlainBatch)
    → s.closed ≡ true → b ≡ next_batch s → least < s.frozen_count + length s.buffer
    → ys ≡ drop (known_batches least s.batches) s.batches → xs ≡ ys ++ b ∷ []
    → xs ≡ drop (known_batches least (all_batches s)) (all_batches s)
shared_one s b least xs ys closed is over ys-is xs-is =
    rw closed (xs-is ∙ rw (ys-is, is) (unknown_more least s.batches (next_batch s) over))

pub shared_none : (s : Stored) (least : ℕ) (xs : List PlainBatch) → s.closed ≡ false
    → xs ≡ drop (known_batches least s.batches) s.batches
    → xs ≡ drop (known_batches least (all_batches s)) (all_batches s)
shared_none s least xs none is = rw none is
