-- Each batch behind those that all pieces know has an operation that some piece doesn't know.
use Rattle.std.proofs.Common.{◌≡◌, ◌≤◌, ◌<◌, ◌+◌, ℕ, Bool, true, false, cond, ◌||◌, List, [], ◌∷◌}
use Rattle.std.proofs.Common.{length, drop, refl, arith, min, add-one}
use Rattle.std.specs.Prelude.{nat_le, nat_lt}
use Rattle.std.specs.List.{AllByRecursion, list_any}
use Rattle.std.proofs.lemmas.Bool.Decides.{nat_tests}
use Rattle.std.proofs.lemmas.List.{length-append}
use Rattle.sg_paths.specs.Operations.{PlainBatch}
use Rattle.segment.specs.Pieces.{PlainPiece}
use Rattle.index_core.specs.CurrentPieces.{AreNeeded}
use Rattle.index_core.specs.Keeping.{least_applied, known_batches}
use Rattle.index_core.specs.Slots.{batched, AreBatchesFrom}
use Rattle.index_core.proofs.ListLemmas.{all_weaker}

-- what ends behind the least applied number, some piece doesn't know
some_lacks : (most upto : ℕ) (ps : List PlainPiece) → upto ≤ most → least_applied most ps < upto
    → list_any (λ p. nat_lt p.applied upto) ps ≡ true
some_lacks most upto [] within over = absurd (omega (arith, within, over))
some_lacks most upto (p ∷ ps) within over =
    by_test (nat_lt p.applied upto) refl
    (λ known. some_lacks (min most p.applied) upto ps (omega (arith, within, known)) over)
  where
    by_test : (b : Bool) → nat_lt p.applied upto ≡ b
        → (upto ≤ p.applied → list_any (λ q. nat_lt q.applied upto) ps ≡ true)
        → (b || list_any (λ q. nat_lt q.applied upto) ps) ≡ true
    by_test true is later = refl
    by_test false is later = later (grind (arith, nat_tests, is))

-- batches that begin behind a number end behind it
end_over : (n least most : ℕ) (bs : List PlainBatch) → AreBatchesFrom n bs → least + 1 < n
    → n + length (batched bs) ≤ most + 1
    → AllByRecursion (λ b. (least < b.upto) × (b.upto ≤ most)) bs
end_over n least most [] numbered over within = tt
end_over n least most (b ∷ bs) numbered over within =
    let long = length-append b.operations (batched bs) in (
      (omega (arith, over, numbered.1), omega (arith, long, within, numbered.1)),
      end_over (n + length b.operations) least most bs numbered.2 (omega (arith, over))
          (omega (arith, long, within)),
    )

-- and so do those behind the ones that end at it or before it
unknown : (n least most : ℕ) (bs : List PlainBatch) → AreBatchesFrom n bs
    → n + length (batched bs) ≤ most + 1
    → AllByRecursion (λ b. (least < b.upto) × (b.upto ≤ most)) (drop (known_batches least bs) bs)
unknown n least most [] numbered within = tt
unknown n least most (b ∷ bs) numbered within =
    let long = length-append b.operations (batched bs) in
    by_test (nat_le b.upto least) refl
    (unknown (n + length b.operations) least most bs numbered.2 (omega (arith, long, within)))
  where
    by_test : (c : Bool) → nat_le b.upto least ≡ c
        → AllByRecursion (λ x. (least < x.upto) × (x.upto ≤ most))
        (drop (known_batches least bs) bs)
        → AllByRecursion (λ x. (least < x.upto) × (x.upto ≤ most))
        (drop (cond c (known_batches least bs + 1) 0) (b ∷ bs))
    by_test true is later = rw (add-one (known_batches least bs)) later
    by_test false is later =
        let long = length-append b.operations (batched bs) in
        let over : least < b.upto = grind (arith, nat_tests, is) in (
          (over, omega (arith, long, within, numbered.1)),
          end_over (n + length b.operations) least most bs numbered.2
              (omega (arith, over, numbered.1)) (omega (arith, long, within)),
        )

pub needed : (n : ℕ) (ps : List PlainPiece) (bs : List PlainBatch) → AreBatchesFrom 1 bs
    → n ≡ length (batched bs)
    → AreNeeded ps (drop (known_batches (least_applied n ps) bs) bs)
needed n ps bs numbered all =
    let least = least_applied n ps in
    all_weaker (λ b. (least < b.upto) × (b.upto ≤ n))
    (λ b. list_any (λ p. nat_lt p.applied b.upto) ps ≡ true)
    (λ b ends. some_lacks n b.upto ps ends.1 ends.0) (drop (known_batches least bs) bs)
    (unknown 1 least n bs numbered (omega (arith, all)))
