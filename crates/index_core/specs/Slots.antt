-- Batches, the slots of the table of current pieces, and their sizes. No public clause cites this
-- module. Source: this project's own.
use Rattle.std.specs.Prelude.{◌≡◌, ◌<◌, ⊤, ℕ, ◌+◌, Bool, true, not, nat_lt, nat_eq, ◌&&◌, Option}
use Rattle.std.specs.Prelude.{Some, None, is_none, is_some, option_map, if◌then◌else◌, List, []}
use Rattle.std.specs.Prelude.{◌∷◌, length, map, filter, sum_by, slice_index_or}
use Rattle.std.specs.List.{flat_map, list_any, AllByRecursion}
use Rattle.sg_paths.specs.Operations.{PlainOp, PlainNumbered, PlainBatch}
use Rattle.sg_paths.specs.Paths.{paths}
use Rattle.seg_live.specs.LiveDocs.{live_count}
use Rattle.segment.specs.Pieces.{PieceBody, unbuilt, segment, PlainPiece, piece_documents}
use Rattle.segment.specs.Pieces.{live_docs_or_all}
use Rattle.merge_plan.specs.declared.size.Size.{Size}
use Rattle.index_core.specs.Histories.{is_among}

-- a generation: the place of its batch, and its segment and live docs where it has them
pub record PlainSlot : Type 0 where
  pub generation : ℕ
  pub at : ℕ
  pub documents : Option (List PlainNumbered)
  pub live_docs : Option (List Bool)
  pub applied : ℕ

-- no batch
abbrev pub no_batch : PlainBatch
no_batch = record { from = 0; upto = 0; operations = [] }

-- what a generation is made of: its segment, or else the batch at a place
abbrev pub body_at : List PlainBatch → ℕ → Option (List PlainNumbered) → PieceBody
body_at batches at None = unbuilt (slice_index_or batches at no_batch)
body_at batches at (Some documents) = segment documents

-- a slot as a piece
abbrev pub slot_piece : List PlainBatch → PlainSlot → PlainPiece
slot_piece batches s = record {
  generation = s.generation;
  body = body_at batches s.at s.documents;
  live_docs = s.live_docs;
  applied = s.applied;
}

-- the place of a slot without a segment has a batch
abbrev pub HasBatch : List PlainBatch → PlainSlot → Type 0
HasBatch batches s = is_none s.documents ≡ true → s.at < length batches

abbrev pub HaveBatches : List PlainBatch → List PlainSlot → Type 0
HaveBatches batches slots = AllByRecursion (HasBatch batches) slots

-- the operations of batches, in order
abbrev pub batched : List PlainBatch → List PlainOp
batched batches = flat_map (λ b. b.operations) batches

-- batches of consecutive operations, the first of which has the number n
abbrev pub AreBatchesFrom : ℕ → List PlainBatch → Type 0
AreBatchesFrom n [] = ⊤
AreBatchesFrom n (b ∷ later) =
    (b.from ≡ n) × (b.upto + 1 ≡ n + length b.operations)
    × AreBatchesFrom (n + length b.operations) later

-- slots, where that of a generation is changed
abbrev pub with_slot : ℕ → (PlainSlot → PlainSlot) → List PlainSlot → List PlainSlot
with_slot g change slots = map (λ s. if nat_eq s.generation g then change s else s) slots

-- whether the slot of a generation passes a test
abbrev pub has_slot : ℕ → (PlainSlot → Bool) → List PlainSlot → Bool
has_slot g test slots = list_any (λ s. nat_eq s.generation g && test s) slots

-- whether it has no segment
abbrev pub lacks_segment : PlainSlot → Bool
lacks_segment s = is_none s.documents

-- it has its segment
abbrev pub slot_built : List PlainNumbered → PlainSlot → PlainSlot
slot_built documents s = record s { documents = Some documents }

-- whether it has a segment, to which deletes are applied through fewer operations
abbrev pub lacks_deletes : ℕ → PlainSlot → Bool
lacks_deletes upto s = is_some s.documents && nat_lt s.applied upto

-- deletes are applied to it through so many operations
abbrev pub slot_lived : List Bool → ℕ → PlainSlot → PlainSlot
slot_lived live_docs upto s = record s { live_docs = Some live_docs; applied = upto }

-- the slot of what a merge brings: deletes are applied to it through the operations of the merge
abbrev pub brought_slot : ℕ → ℕ → List PlainNumbered → PlainSlot
brought_slot generation upto documents = record {
  generation = generation;
  at = 0;
  documents = Some documents;
  live_docs = None;
  applied = upto;
}

-- slots but those of these generations
abbrev pub without_slots : List ℕ → List PlainSlot → List PlainSlot
without_slots generations slots = filter (λ s. not (is_among s.generation generations)) slots

-- ---- sizes

-- the size of a generation with these documents and live docs, where merges hold some
abbrev pub sized : List ℕ → ℕ → List PlainNumbered → Option (List Bool) → Size
sized merged generation documents live_docs = record {
  generation = generation;
  documents = length documents;
  live = live_count (live_docs_or_all documents live_docs);
  paths = sum_by (λ d. length (paths d.document)) documents;
  held = is_among generation merged;
}

-- of a slot, if it has its segment
abbrev pub slot_size : List ℕ → PlainSlot → Option Size
slot_size merged s =
    option_map (λ documents. sized merged s.generation documents s.live_docs) s.documents

-- of a piece
abbrev pub piece_size : List ℕ → PlainPiece → Size
piece_size merged p = sized merged p.generation (piece_documents p) p.live_docs
