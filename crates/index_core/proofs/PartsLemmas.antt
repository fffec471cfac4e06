-- What is shared of the current pieces and the batches are the parts of a view.
use Rattle.std.proofs.Common.{◌≡◌, ◌≤◌, ◌<◌, ◌+◌, ◌^◌, ℕ, Bool, true, false, cond}
use Rattle.std.proofs.Common.{List, [], ◌∷◌, ◌++◌, length, map, take, drop, refl, sym, ap, ◌∙◌}
use Rattle.std.proofs.Common.{subst, arith, min, add-one, append_assoc}
use Rattle.std.proofs.Math.Seq.{drop-append_seam}
use Rattle.std.specs.Prelude.{nat_le}
use Rattle.std.specs.List.{AllByRecursion}
use Rattle.std.proofs.lemmas.Bool.Decides.{nat_tests}
use Rattle.std.proofs.lemmas.List.{length-append, length-map, take_at}
use Rattle.sg_paths.specs.Operations.{PlainOp, PlainNumbered, PlainBatch}
use Rattle.sg_paths.specs.Batches.{AreConsecutive}
use Rattle.segment.specs.Pieces.{PlainPiece, piece_documents, live_docs_or_all}
use Rattle.segment.specs.Views.{PlainParts, IsApplied, AreCovered, AreBuildable, IsBuildablePiece}
use Rattle.index_core.specs.Histories.{Record}
use Rattle.index_core.specs.Records.{frozen}
use Rattle.index_core.specs.Generations.{documents_of}
use Rattle.index_core.specs.CurrentPieces.{IsPieceOf, AreOf}
use Rattle.index_core.specs.Keeping.{AreCurrent, least_applied, known_batches}
use Rattle.index_core.specs.Slots.{batched, AreBatchesFrom}
use Rattle.index_core.proofs.ListLemmas.{all_weaker}
use Rattle.index_core.proofs.NeededLemmas.{needed}

least_known : (most : ℕ) (ps : List PlainPiece) → (least_applied most ps ≤ most)
    × AllByRecursion (λ p. least_applied most ps ≤ p.applied) ps
least_known most [] = (omega arith, tt)
least_known most (p ∷ ps) =
    let later = least_known (min most p.applied) ps in
    (omega (arith, later.0), (omega (arith, later.0), later.1))

consecutive : (n : ℕ) (bs : List PlainBatch) → AreBatchesFrom n bs → AreConsecutive n bs
consecutive n [] numbered = tt
consecutive n (b ∷ bs) numbered =
    (numbered.0, consecutive (n + length b.operations) bs numbered.2)

-- batches without those that are known hold what comes behind these
record Behind (n least : ℕ) (bs : List PlainBatch) (k : ℕ) : Type 0 where
  front : List PlainOp
  split : batched bs ≡ front ++ batched (drop k bs)
  known : n + length front ≤ least
  numbered : AreBatchesFrom (n + length front + 1) (drop k bs)

numbered_at : (m n : ℕ) (bs : List PlainBatch) → m ≡ n → AreBatchesFrom m bs → AreBatchesFrom n bs
numbered_at m n bs same h = subst (λ (x : ℕ). AreBatchesFrom x bs) same h

behind : (n least : ℕ) (bs : List PlainBatch) → AreBatchesFrom (n + 1) bs → n ≤ least
    → Behind n least bs (known_batches least bs)
behind n least [] numbered within = record {
  front = [];
  split = refl;
  known = omega (arith, within);
  numbered = tt;
}
behind n least (b ∷ bs) numbered within =
    by_cases (nat_le b.upto least) refl (λ m h k. behind m least bs h k)
  where
    by_cases : (c : Bool) → nat_le b.upto least ≡ c
        → ((m : ℕ) → AreBatchesFrom (m + 1) bs → m ≤ least
        → Behind m least bs (known_batches least bs))
        → Behind n least (b ∷ bs) (cond c (known_batches least bs + 1) 0)
    by_cases false is again = record {
      front = [];
      split = refl;
      known = omega (arith, within);
      numbered = numbered_at (n + 1) (n + length {A = PlainOp} [] + 1) (b ∷ bs) (omega arith)
          numbered;
    }
    by_cases true is again =
        let m : ℕ = n + length b.operations in
        let upto : b.upto ≤ least = grind (arith, nat_tests, is) in
        let at : n + 1 + length b.operations ≡ m + 1 = omega arith in
        let there = again m
        (numbered_at (n + 1 + length b.operations) (m + 1) bs at numbered.2)
        (omega (arith, upto, numbered.1)) in
        let long = length-append b.operations there.front in
        let more : drop (known_batches least bs + 1) (b ∷ bs) ≡ drop (known_batches least bs) bs =
        rw (add-one (known_batches least bs)) refl in
        record {
          front = b.operations ++ there.front;
          split =
              ap (λ (ops : List PlainOp). b.operations ++ ops) there.split
              ∙ sym (append_assoc b.operations there.front
              (batched (drop (known_batches least bs) bs)))
              ∙ ap (λ (xs : List PlainBatch). (b.operations ++ there.front) ++ batched xs)
              (sym more);
          known = omega (arith, long, there.known);
          numbered = subst (AreBatchesFrom (n + length (b.operations ++ there.front) + 1))
              (sym more)
              (numbered_at (m + length there.front + 1)
              (n + length (b.operations ++ there.front) + 1)
              (drop (known_batches least bs) bs) (omega (arith, long)) there.numbered);
        }

known_each : (r : Record) (start least : ℕ) (ps : List PlainPiece) → start ≤ least
    → AllByRecursion (λ p. least ≤ p.applied) ps → AllByRecursion (IsPieceOf r) ps
    → AllByRecursion (λ p. (start ≤ p.applied) × (p.applied ≤ frozen r)) ps
known_each r start least [] within known are = tt
known_each r start least (p ∷ ps) within known are = (
  (omega (arith, within, known.0), are.0.known),
  known_each r start least ps within known.1 are.1,
)

documents_each : (r : Record) (ps : List PlainPiece) → AllByRecursion (IsPieceOf r) ps
    → map piece_documents ps ≡ map (documents_of r) (map (λ p. p.generation) ps)
documents_each r [] are = refl
documents_each r (p ∷ ps) are =
    ap (λ (ds : List PlainNumbered). ds ∷ map piece_documents ps) are.0.documents
    ∙ ap (λ (dss : List (List PlainNumbered)). documents_of r p.generation ∷ dss)
    (documents_each r ps are.1)

-- there are as many live docs as documents
counted : (journal : List PlainOp) (p : PlainPiece) → IsApplied journal p
    → length (live_docs_or_all (piece_documents p) p.live_docs) ≡ length (piece_documents p)
counted journal p is =
    ap (λ (bs : List Bool). length bs) is ∙ length-map (piece_documents p) _

buildable : (r : Record) (p : PlainPiece) → IsPieceOf r p → IsBuildablePiece p
buildable r p is = record { body = is.buildable; live_docs = counted r.journal p is.live_docs }

-- the current pieces and the batches that are frozen, in front of what is buffered
pub record AreShared (r : Record) (ps : List PlainPiece) (bs : List PlainBatch)
    (buffer : List PlainOp) : Type 0 where
  pub pieces : AreCurrent r ps
  pub numbered : AreBatchesFrom 1 bs
  pub journal : r.journal ≡ batched bs ++ buffer
  pub all_frozen : frozen r ≡ length (batched bs)
  pub few : length ps < 2 ^ 32

-- the parts of a view of them
abbrev pub shared_parts : ℕ → Record → List PlainPiece → List PlainBatch → PlainParts
shared_parts number r ps bs = record {
  number = number;
  upto = frozen r;
  pieces = ps;
  batches = drop (known_batches (least_applied (frozen r) ps) bs) bs;
  generations = map (λ p. p.generation) ps;
}

-- pieces that are what the record says are covered by the batches behind those that all know
pub covered_are : {r : Record} {ps : List PlainPiece} {bs : List PlainBatch}
    {buffer : List PlainOp} → AreShared r ps bs buffer → (number : ℕ) (qs : List PlainPiece)
    → AllByRecursion (IsPieceOf r) qs → AreCovered r.journal (shared_parts number r qs bs)
covered_are {r} {ps} {bs} {buffer} shared number qs each =
    let n : ℕ = frozen r in
    let least = least_applied n qs in
    let known = least_known n qs in
    let split = behind 0 least bs (numbered_at 1 (0 + 1) bs (omega arith) shared.numbered)
    (omega arith) in
    let start : ℕ = length split.front in
    let rest = drop (known_batches least bs) bs in
    let first : take n r.journal ≡ batched bs =
    ap (take n) shared.journal ∙ take_at (batched bs) buffer n (sym shared.all_frozen) in
    let long = ap (λ (ops : List PlainOp). length ops) shared.journal in
    let more = length-append (batched bs) buffer in
    let at : 0 + length split.front + 1 ≡ start + 1 = omega arith in
    record {
      within = omega (arith, shared.all_frozen, long, more);
      start = start;
      applied = all_weaker (IsPieceOf r) (IsApplied r.journal) (λ p is. is.live_docs) qs each;
      known = known_each r start least qs (omega (arith, split.known)) known.1 each;
      covered = record {
        numbered = consecutive (start + 1) rest
            (numbered_at (0 + length split.front + 1) (start + 1) rest at split.numbered);
        operations =
            sym (drop-append_seam split.front (batched rest))
            ∙ ap (drop start) (sym split.split ∙ sym first);
      };
      generations = refl;
    }

parts_are : {r : Record} {ps : List PlainPiece} {bs : List PlainBatch} {buffer : List PlainOp}
    → AreShared r ps bs buffer → (number : ℕ) → AreOf r (shared_parts number r ps bs)
parts_are {r} {ps} {bs} shared number = record {
  parts_of = record {
    pieces = covered_are shared number ps shared.pieces.each;
    live = shared.pieces.live;
  };
  each = shared.pieces.each;
  documents = documents_each r ps shared.pieces.each;
  generations = shared.pieces.generations;
  upto = refl;
  needed = needed (frozen r) ps bs shared.numbered shared.all_frozen;
}

pub parts_given : {r : Record} {ps : List PlainPiece} {bs : List PlainBatch}
    {buffer : List PlainOp} → AreShared r ps bs buffer
    → (number upto : ℕ) (pieces : List PlainPiece) (batches : List PlainBatch) (gens : List ℕ)
    → upto ≡ frozen r → pieces ≡ ps
    → batches ≡ drop (known_batches (least_applied upto ps) bs) bs
    → gens ≡ map (λ p. p.generation) ps
    → AreOf r (record {
      number = number;
      upto = upto;
      pieces = pieces;
      batches = batches;
      generations = gens;
    })
    × AreBuildable (record {
      number = number;
      upto = upto;
      pieces = pieces;
      batches = batches;
      generations = gens;
    })
parts_given {r} {ps} {bs} shared number upto pieces batches gens upto-is pieces-is batches-is
    gens-is =
    let all : batches ≡ drop (known_batches (least_applied (frozen r) ps) bs) bs =
    batches-is ∙ ap (λ (n : ℕ). drop (known_batches (least_applied n ps) bs) bs) upto-is in
    rw (upto-is, pieces-is, all, gens-is) (
      parts_are shared number,
      record {
        pieces = all_weaker (IsPieceOf r) IsBuildablePiece (buildable r) ps shared.pieces.each;
        few = shared.few;
      },
    )

-- all batches end at the frozen operations or before these
all_known : (n most : ℕ) (bs : List PlainBatch) → AreBatchesFrom n bs
    → n + length (batched bs) ≤ most + 1 → drop (known_batches most bs) bs ≡ []
all_known n most [] numbered within = refl
all_known n most (b ∷ bs) numbered within =
    let long = length-append b.operations (batched bs) in
    let test : nat_le b.upto most ≡ true =
    (let upto : b.upto ≤ most = omega (arith, long, within, numbered.1) in
    grind (arith, nat_tests, upto)) in
    rw test (rw (add-one (known_batches most bs))
    (all_known (n + length b.operations) most bs numbered.2 (omega (arith, long, within))))

-- without a piece there is no batch
pub none_behind : {r : Record} {ps : List PlainPiece} {bs : List PlainBatch}
    {buffer : List PlainOp} → AreShared r ps bs buffer
    → (upto : ℕ) (pieces : List PlainPiece) (batches : List PlainBatch)
    → upto ≡ frozen r → pieces ≡ ps
    → batches ≡ drop (known_batches (least_applied upto ps) bs) bs
    → pieces ≡ [] → batches ≡ []
none_behind {r} {ps} {bs} shared upto pieces batches upto-is pieces-is batches-is none =
    batches-is
    ∙ ap (λ (qs : List PlainPiece). drop (known_batches (least_applied upto qs) bs) bs)
    (sym pieces-is ∙ none)
    ∙ all_known 1 upto bs shared.numbered (omega (arith, upto-is, shared.all_frozen))
