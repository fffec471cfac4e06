-- What always holds of the current pieces, and how they change. No public clause cites it. Source:
-- this project's own.
use Rattle.std.specs.Prelude.{◌≡◌, ◌≤◌, ◌<◌, ⊤, ℕ, ◌+◌, Bool, not, nat_eq, nat_lt, nat_le, ◌&&◌}
use Rattle.std.specs.Prelude.{if◌then◌else◌, min, Some, None, List, [], ◌∷◌, length, map, filter}
use Rattle.std.specs.Prelude.{drop}
use Rattle.std.specs.List.{AllByRecursion, filter_map, list_any}
use Rattle.sg_paths.specs.Operations.{PlainNumbered, PlainBatch, documents_from}
use Rattle.sg_paths.specs.LiveDocuments.{is_deleted, live_documents}
use Rattle.segment.specs.Items.{HaveSameItems}
use Rattle.segment.specs.Pieces.{unbuilt, segment, PlainPiece}
use Rattle.segment.specs.Views.{all_documents}
use Rattle.index_core.specs.declared.limits.TheConstants.{MOST_OPERATIONS}
use Rattle.index_core.specs.Histories.{Record, Merge, is_among, frozen_upto, built_generation}
use Rattle.index_core.specs.Histories.{closed_merge}
use Rattle.index_core.specs.Records.{accepted, frozen, drawn, next_generation, begun_merges}
use Rattle.index_core.specs.Records.{next_merge, open_merges, current}
use Rattle.index_core.specs.CurrentPieces.{is_segment, IsPieceOf}
use Rattle.index_core.specs.HeldGenerations.{RisesFrom}
use Rattle.index_core.specs.HeldEvents.{AreInUse}
use Rattle.index_core.specs.EndedMerges.{holding}

-- the pieces are the current generations in order, each is what the record says, and the live ones
-- of all their documents are the live ones of what is frozen, each once
pub record AreCurrent (r : Record) (pieces : List PlainPiece) : Type 0 where
  pub generations : map (λ p. p.generation) pieces ≡ current r
  pub rising : RisesFrom 1 (map (λ p. p.generation) pieces)
  pub each : AllByRecursion (IsPieceOf r) pieces
  pub live : HaveSameItems (filter (λ d. not (is_deleted r.journal (frozen r) d))
      (all_documents pieces)) (live_documents r.journal (frozen r))

-- merges with consecutive numbers, the first of which is n
abbrev pub AreMergesFrom : ℕ → List Merge → Type 0
AreMergesFrom n [] = ⊤
AreMergesFrom n (m ∷ later) = (m.merge ≡ n) × AreMergesFrom (n + 1) later

-- each document is held by at most one current generation
abbrev pub AreHeldOnce : Record → Type 0
AreHeldOnce r = AllByRecursion (λ d. holding r d (current r) ≤ 1) (documents_from 1 r.journal)

-- Merges are numbered, of frozen operations, with rising generations; those that ended or were
-- dropped were begun. The generations of the open ones are current, each in one of them, and each
-- document is held once.
pub record AreMerges (r : Record) : Type 0 where
  pub numbers : AreMergesFrom 1 (begun_merges r)
  pub closed_before : AllByRecursion (λ n. n < next_merge r) (filter_map closed_merge r.history)
  pub within : AllByRecursion (λ m. m.upto ≤ frozen r) (begun_merges r)
  pub rise : AllByRecursion (λ m. RisesFrom 0 m.generations) (begun_merges r)
  pub in_use : AllByRecursion (λ m. AreInUse r m.generations) (open_merges r)
  pub apart : (g : ℕ) → length (filter (λ m. is_among g m.generations) (open_merges r)) ≤ 1
  pub once : AreHeldOnce r

-- a record whose freezes are of accepted operations, and whose generations were drawn in turn
pub record IsPlain (r : Record) : Type 0 where
  pub numbered : length r.journal ≡ accepted r
  pub merges : AreMerges r
  pub frozen_before : AllByRecursion (λ n. n ≤ frozen r) (filter_map frozen_upto r.history)
  pub frozen_within : frozen r ≤ length r.journal
  pub drawn_before : AllByRecursion (λ g. g < next_generation r) (drawn r)
  pub built_before : AllByRecursion (λ g. g < next_generation r)
      (filter_map built_generation r.history)
  pub most : length r.journal ≤ MOST_OPERATIONS

-- ---- changes of the pieces of a generation

-- pieces, where those of a generation are changed
abbrev pub with_piece : ℕ → (PlainPiece → PlainPiece) → List PlainPiece → List PlainPiece
with_piece g change pieces = map (λ p. if nat_eq p.generation g then change p else p) pieces

-- a piece with its segment
abbrev pub with_segment : List PlainNumbered → PlainPiece → PlainPiece
with_segment documents p = record p { body = segment documents }

-- a piece with the live docs after so many operations
abbrev pub with_live_docs : List Bool → ℕ → PlainPiece → PlainPiece
with_live_docs live_docs upto p = record p { live_docs = Some live_docs; applied = upto }

-- whether there is a piece of that generation without a segment
abbrev pub has_unbuilt : ℕ → List PlainPiece → Bool
has_unbuilt g pieces = list_any (λ p. nat_eq p.generation g && not (is_segment p.body)) pieces

-- whether there is a piece of that generation with a segment, to which fewer operations are applied
abbrev pub has_behind : ℕ → ℕ → List PlainPiece → Bool
has_behind g upto pieces =
    list_any (λ p. nat_eq p.generation g && (is_segment p.body && nat_lt p.applied upto)) pieces

-- the piece that a freeze makes of what is buffered
abbrev pub buffered_piece : Record → PlainPiece
buffered_piece r = record {
  generation = next_generation r;
  body = unbuilt (record {
    from = frozen r + 1;
    upto = length r.journal;
    operations = drop (frozen r) r.journal;
  });
  live_docs = None;
  applied = frozen r;
}

-- ---- which batches a view needs

-- the least number of applied operations of pieces, or the given one where it is less
abbrev pub least_applied : ℕ → List PlainPiece → ℕ
least_applied most [] = most
least_applied most (p ∷ ps) = least_applied (min most p.applied) ps

-- how many of the first batches end at a number or before it
abbrev pub known_batches : ℕ → List PlainBatch → ℕ
known_batches least [] = 0
known_batches least (b ∷ bs) = if nat_le b.upto least then known_batches least bs + 1 else 0
