-- What the current pieces of an index are, by its record, and what their calls do to it. Source:
-- Lucene's segment infos.
use Rattle.std.specs.Prelude.{◌≡◌, ◌≤◌, ⊤, ℕ, Bool, true, false, not, nat_lt, ◌&&◌}
use Rattle.std.specs.Prelude.{if◌then◌else◌, Option, None, List, map}
use Rattle.std.specs.List.{AllByRecursion, list_any}
use Rattle.sg_paths.specs.Operations.{PlainBatch}
use Rattle.segment.specs.Pieces.{PieceBody, unbuilt, segment, PlainPiece, piece_documents}
use Rattle.segment.specs.Views.{PlainParts, AreParts, IsApplied, IsBuildableBody}
use Rattle.index_core.specs.Histories.{built, live_docs_updated, Record, is_among}
use Rattle.index_core.specs.Records.{with_event, frozen, current}
use Rattle.index_core.specs.Generations.{documents_of, applied, is_built}

-- whether it has its segment
abbrev pub is_segment : PieceBody → Bool
is_segment (unbuilt batch) = false
is_segment (segment documents) = true

-- an unbuilt batch has no live docs
abbrev pub IsFresh : PieceBody → Option (List Bool) → Type 0
IsFresh (unbuilt batch) live_docs = live_docs ≡ None
IsFresh (segment documents) live_docs = ⊤

-- a piece is what the record says of its generation
pub record IsPieceOf (r : Record) (p : PlainPiece) : Type 0 where
  pub documents : piece_documents p ≡ documents_of r p.generation
  pub applied_through : p.applied ≡ applied r p.generation
  pub has_segment : is_built r p.generation ≡ is_segment p.body
  pub live_docs : IsApplied r.journal p
  pub fresh : IsFresh p.body p.live_docs
  pub known : p.applied ≤ frozen r
  pub buildable : IsBuildableBody p.body

-- each batch has an operation that some piece doesn't know
abbrev pub AreNeeded : List PlainPiece → List PlainBatch → Type 0
AreNeeded pieces batches =
    AllByRecursion (λ b. list_any (λ p. nat_lt p.applied b.upto) pieces ≡ true) batches

-- parts are those of all that is frozen: the current generations, each as the record says, with no
-- batch that all of them know
pub record AreOf (r : Record) (parts : PlainParts) : Type 0 where
  pub parts_of : AreParts r.journal parts
  pub each : AllByRecursion (IsPieceOf r) parts.pieces
  pub documents : map piece_documents parts.pieces ≡ map (documents_of r) parts.generations
  pub generations : parts.generations ≡ current r
  pub upto : parts.upto ≡ frozen r
  pub needed : AreNeeded parts.pieces parts.batches

-- whether a generation is current and has no segment
abbrev pub is_unbuilt : Record → ℕ → Bool
is_unbuilt r g = is_among g (current r) && not (is_built r g)

-- a generation has its segment from now on, where it had none
abbrev pub after_built : ℕ → ℕ → Record → Record
after_built caller g r = if is_unbuilt r g then with_event r (built caller g) else r

-- whether a generation is current and has its segment, to which deletes are applied through fewer
-- operations
abbrev pub is_behind : Record → ℕ → ℕ → Bool
is_behind r g upto = is_among g (current r) && (is_built r g && nat_lt (applied r g) upto)

-- deletes are applied to a generation through so many operations, where they were through fewer
abbrev pub after_lived : ℕ → ℕ → ℕ → Record → Record
after_lived caller g upto r =
    if is_behind r g upto then with_event r (live_docs_updated caller g upto) else r
