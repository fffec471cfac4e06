-- How the core keeps its record in its fields. No public clause cites it. Source: this project's
-- own.
use Rattle.std.specs.Prelude.{◌≡◌, ◌≤◌, ◌<◌, ⊤, ℕ, ◌+◌, ◌-◌, Bool, true, false, nat_lt, Option}
use Rattle.std.specs.Prelude.{Some, None, if◌then◌else◌, List, [], ◌∷◌, ◌++◌, length, map, filter}
use Rattle.std.specs.Prelude.{All}
use Rattle.std.specs.List.{filter_map, flat_map, AllByRecursion}
use Rattle.sg_paths.specs.declared.op.Op.{Op}
use Rattle.sg_paths.specs.Operations.{PlainOp, PlainNumbered, PlainBatch, plain_op}
use Rattle.segment.specs.Pieces.{unbuilt, segment, PlainPiece}
use Rattle.index_holds.specs.declared.held.Held.{Held}
use Rattle.index_holds.specs.Entries.{Rise}
use Rattle.index_holds.specs.Holders.{with_current, with_holder, after_release, after_retire}
use Rattle.index_holds.specs.Holders.{given_up}
use Rattle.merge_plan.specs.declared.size.Size.{Size}
use Rattle.index_core.specs.declared.limits.TheConstants.{MOST_OPERATIONS, BATCH_OPERATIONS}
use Rattle.index_core.specs.declared.limits.TheConstants.{MOST_OPEN_VIEWS}
use Rattle.index_core.specs.Histories.{HistoryEvent, accept, freeze, begin, built}
use Rattle.index_core.specs.Histories.{live_docs_updated, merge_begin, merge_end, merge_drop}
use Rattle.index_core.specs.Histories.{view_end, Record, View, frozen, drawn, begun_views}
use Rattle.index_core.specs.Histories.{open_views, ended_view}
use Rattle.index_core.specs.Records.{current}
use Rattle.index_core.specs.Generations.{is_built}
use Rattle.index_core.specs.Merges.{size_of}
use Rattle.index_core.specs.LegalHistories.{IsLegal}
use Rattle.index_core.specs.PlannedMerges.{IsWithinSegment}
use Rattle.index_core.specs.CurrentPieces.{is_segment}
use Rattle.index_core.specs.EndedMerges.{merged_pieces}
use Rattle.index_core.specs.Keeping.{IsPlain, AreCurrent, with_piece, with_segment, with_live_docs}
use Rattle.index_core.specs.Keeping.{has_unbuilt, has_behind}
use Rattle.index_core.specs.HeldGenerations.{AreHolds, RisesFrom}
use Rattle.index_core.specs.HeldEvents.{AreDrawn}
use Rattle.index_core.specs.Slots.{batched, AreBatchesFrom, piece_size}
use Rattle.index_core.specs.OwnLists.{PlainLists, no_lists, with_view_list, without_view_list}
use Rattle.index_core.specs.OwnLists.{with_merge_list, without_merge_list, AreLists}

-- ---- the store

-- the operations of a batch, if there is one
abbrev pub closed_operations : Option PlainBatch → List PlainOp
closed_operations None = []
closed_operations (Some batch) = batch.operations

-- what is buffered: all of it in a closed batch, or none
abbrev pub buffer_of : Option PlainBatch → List Op → List PlainOp
buffer_of closed buffered = closed_operations closed ++ map plain_op buffered

-- whether what is buffered is a batch
abbrev pub is_closed : Option PlainBatch → Bool
is_closed None = false
is_closed (Some batch) = true

-- a closed batch holds all that is buffered, is numbered, and has its places among the batches, the
-- slots and what is held, beside those of what open merges bring
abbrev pub IsClosed : ℕ → Option PlainBatch → List Op
    → (batches batch_places slots slot_places spare merging : ℕ) → Type 0
IsClosed frozen None buffered batches batch_places slots slot_places spare merging =
    (slots + merging ≤ slot_places) × (merging ≤ spare)
IsClosed frozen (Some b) buffered batches batch_places slots slot_places spare merging =
    (slots + merging < slot_places) × (merging < spare)
    × (buffered ≡ []) × (0 < length b.operations) × (b.from ≡ frozen + 1)
    × (b.upto ≡ frozen + length b.operations) × (batches < batch_places)

-- the fields as plain data: all that is buffered may be closed, so many operations are frozen, so
-- many generations were drawn, so many views were begun and are open, and so many events fit
-- without new memory
pub record Stored : Type 0 where
  pub history : List HistoryEvent
  pub batches : List PlainBatch
  pub pieces : List PlainPiece
  pub buffer : List PlainOp
  pub closed : Bool
  pub held : List Held
  pub lists : PlainLists
  pub frozen_count : ℕ
  pub drawn_count : ℕ
  pub begun_count : ℕ
  pub open_count : ℕ
  pub places : ℕ

-- the store of a new core
abbrev pub empty_store : Stored
empty_store = record {
  history = [];
  batches = [];
  pieces = [];
  buffer = [];
  closed = false;
  held = [];
  lists = no_lists;
  frozen_count = 0;
  drawn_count = 0;
  begun_count = 0;
  open_count = 0;
  places = 0;
}

-- with another number of places for events
abbrev pub with_places : ℕ → Stored → Stored
with_places places s = record s { places = places }

-- with other numbers of places for the lists of views and of merges
abbrev pub with_list_places : ℕ → ℕ → Stored → Stored
with_list_places views merges s =
    let ls = s.lists in
    record s { lists = record ls { view_places = views; merge_places = merges } }

-- with what is buffered as a batch, or not
abbrev pub with_closed : Bool → Stored → Stored
with_closed closed s = record s { closed = closed }

-- one operation more is buffered
abbrev pub accepting : ℕ → PlainOp → Stored → Stored
accepting caller operation s = record s {
  history = s.history ++ accept caller (s.frozen_count + length s.buffer + 1) ∷ [];
  buffer = s.buffer ++ operation ∷ [];
}

-- the batch of what is buffered
abbrev pub next_batch : Stored → PlainBatch
next_batch s = record {
  from = s.frozen_count + 1;
  upto = s.frozen_count + length s.buffer;
  operations = s.buffer;
}

-- it, under the next generation
abbrev pub next_piece : Stored → PlainPiece
next_piece s = record {
  generation = s.drawn_count + 1;
  body = unbuilt (next_batch s);
  live_docs = None;
  applied = s.frozen_count;
}

-- what is buffered is frozen
abbrev pub freezing : ℕ → Stored → Stored
freezing caller s = record s {
  history = s.history
      ++ freeze caller (s.drawn_count + 1) (s.frozen_count + 1)
      (s.frozen_count + length s.buffer) ∷ [];
  batches = s.batches ++ next_batch s ∷ [];
  pieces = s.pieces ++ next_piece s ∷ [];
  buffer = [];
  closed = false;
  held = with_current (s.drawn_count + 1) s.held;
  frozen_count = s.frozen_count + length s.buffer;
  drawn_count = s.drawn_count + 1;
}

-- one operation more is buffered, and all is frozen where the buffer is then full
abbrev pub accepting_one : ℕ → PlainOp → Stored → Stored
accepting_one caller operation s =
    if nat_lt (length s.buffer + 1) BATCH_OPERATIONS then accepting caller operation s
    else freezing caller (accepting caller operation s)

-- the closed batch is frozen, if there is one
abbrev pub freezing_all : ℕ → Stored → Stored
freezing_all caller s = if s.closed then freezing caller s else s

-- the pieces, with the closed batch as one of them
abbrev pub all_pieces : Stored → List PlainPiece
all_pieces s = if s.closed then s.pieces ++ next_piece s ∷ [] else s.pieces

-- the batches, with the closed batch as one of them
abbrev pub all_batches : Stored → List PlainBatch
all_batches s = if s.closed then s.batches ++ next_batch s ∷ [] else s.batches

-- the view that begins where nothing is buffered
abbrev pub new_view : ℕ → Stored → View
new_view caller s = record {
  caller = caller;
  view = s.begun_count + 1;
  upto = s.frozen_count;
  generations = map (λ piece. piece.generation) s.pieces;
}

-- it has begun
abbrev pub viewing : ℕ → List ℕ → Stored → Stored
viewing caller generations s = record s {
  history = s.history ++ begin caller (s.begun_count + 1) s.frozen_count generations ∷ [];
  held = map (with_holder generations) s.held;
  lists = with_view_list (s.begun_count + 1) generations s.lists;
  begun_count = s.begun_count + 1;
  open_count = s.open_count + 1;
}

-- a view of these generations has ended
abbrev pub ending : ℕ → ℕ → List ℕ → Stored → Stored
ending caller view generations s =
    let held_after = after_release generations s.held in
    record s {
      history = s.history ++ view_end caller view (given_up s.held held_after) ∷ [];
      held = held_after;
      lists = without_view_list view s.lists;
      open_count = s.open_count - 1;
    }

-- one event more, and other pieces
abbrev pub noting : HistoryEvent → List PlainPiece → Stored → Stored
noting event pieces s = record s { history = s.history ++ event ∷ []; pieces = pieces }

-- a generation has its segment, where it had none
abbrev pub building : ℕ → ℕ → List PlainNumbered → Stored → Stored
building caller g documents s =
    if has_unbuilt g s.pieces
    then noting (built caller g) (with_piece g (with_segment documents) s.pieces) s else s

-- deletes are applied to a generation through so many operations, where they were through fewer
abbrev pub living : ℕ → ℕ → List Bool → ℕ → Stored → Stored
living caller g live_docs upto s =
    if has_behind g upto s.pieces
    then noting (live_docs_updated caller g upto)
    (with_piece g (with_live_docs live_docs upto) s.pieces) s
    else s

-- the sizes of all pieces with their segments
abbrev pub sizes_of : Stored → List Size
sizes_of s =
    map (piece_size (flat_map (λ l. l.generations) s.lists.merges))
    (filter (λ p. is_segment p.body) s.pieces)

-- each generation that may be merged is within a segment's limits
abbrev pub AreSizesWithin : Record → Type 0
AreSizesWithin r =
    AllByRecursion IsWithinSegment (map (size_of r) (filter (is_built r) (current r)))

-- a merge of these generations has begun
abbrev pub merging : ℕ → List ℕ → Stored → Stored
merging caller generations s = record s {
  history = s.history ++ merge_begin caller (s.lists.merges_begun + 1) generations ∷ [];
  held = map (with_holder generations) s.held;
  lists = with_merge_list generations s.lists;
}

-- one was dropped
abbrev pub dropping : ℕ → ℕ → List ℕ → Stored → Stored
dropping caller merge generations s = record s {
  history = s.history ++ merge_drop caller merge ∷ [];
  held = after_release generations s.held;
  lists = without_merge_list merge s.lists;
}

-- one has ended, and brought nothing
abbrev pub retiring : ℕ → ℕ → List ℕ → Stored → Stored
retiring caller merge generations s =
    let held_after = after_retire generations s.held in
    record s {
      history = s.history ++ merge_end caller merge None (given_up s.held held_after) ∷ [];
      pieces = merged_pieces generations [] s.pieces;
      held = held_after;
      lists = without_merge_list merge s.lists;
    }

-- the piece that one brings
abbrev pub brought : ℕ → List PlainNumbered → Stored → PlainPiece
brought upto documents s = record {
  generation = s.drawn_count + 1;
  body = segment documents;
  live_docs = None;
  applied = upto;
}

-- one has ended, and brought these documents
abbrev pub bringing : ℕ → ℕ → ℕ → List ℕ → List PlainNumbered → Stored → Stored
bringing caller merge upto generations documents s =
    let held_after = after_retire generations s.held in
    record s {
      history = s.history
          ++ merge_end caller merge (Some (s.drawn_count + 1)) (given_up s.held held_after) ∷ [];
      pieces = merged_pieces generations (brought upto documents s ∷ []) s.pieces;
      held = with_current (s.drawn_count + 1) held_after;
      lists = without_merge_list merge s.lists;
      drawn_count = s.drawn_count + 1;
    }

-- the record that it keeps: the journal is what the batches hold, and what is buffered
abbrev pub record_of : Stored → Record
record_of s = record { history = s.history; journal = batched s.batches ++ s.buffer }

-- ---- the core

-- views with consecutive numbers, the first of which is n
abbrev pub AreViewsFrom : ℕ → List View → Type 0
AreViewsFrom n [] = ⊤
AreViewsFrom n (v ∷ later) = (v.view ≡ n) × AreViewsFrom (n + 1) later

-- what holds of the views of a history, so many of which were begun and are open
pub record AreViews (history : List HistoryEvent) (begun opened : ℕ) : Type 0 where
  pub count : length (begun_views history) ≡ begun
  pub numbers : AreViewsFrom 1 (begun_views history)
  pub few : begun ≤ length history
  pub ended_were_begun : All (λ n. n ≤ begun) (filter_map ended_view history)
  pub open_count : length (open_views history) ≡ opened
  pub most_open : opened ≤ MOST_OPEN_VIEWS

-- what holds of the batches and the counts
pub record AreFields (k : Stored) : Type 0 where
  pub numbered : AreBatchesFrom 1 k.batches
  pub frozen_upto_last : frozen k.history ≡ k.frozen_count
  pub frozen_operations : length (batched k.batches) ≡ k.frozen_count
  pub drawn_generations : length (drawn k.history) ≡ k.drawn_count
  pub most_operations : k.frozen_count + length k.buffer ≤ MOST_OPERATIONS
  pub views : AreViews k.history k.begun_count k.open_count
  pub own_lists : AreLists k.history k.lists
  pub room : length k.history + k.open_count + k.lists.merges_open ≤ k.places

-- what holds of what is held: it is as the record says, and views have drawn generations, rising
pub record AreHeld (r : Record) (held : List Held) : Type 0 where
  pub counts : AreHolds r held
  pub rise : Rise held
  pub drawn_before : AreDrawn r
  pub drawn_rise : RisesFrom 0 (drawn r.history)
  pub views_rise : AllByRecursion (λ v. RisesFrom 0 v.generations) (begun_views r.history)

-- what always holds of the store of a core
pub record IsKept (k : Stored) : Type 0 where
  pub legal : IsLegal (record_of k)
  pub fields : AreFields k
  pub plain : IsPlain (record_of k)
  pub pieces : AreCurrent (record_of k) k.pieces
  pub held : AreHeld (record_of k) k.held
