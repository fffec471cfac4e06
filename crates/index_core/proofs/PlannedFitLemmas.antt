-- The documents of the generations that the merge plan gives fit into one segment.
use Rattle.std.proofs.Common.{◌≡◌, ◌≤◌, ◌<◌, ◌+◌, ◌*◌, ℕ, zero, suc, Bool, true, false, cond}
use Rattle.std.proofs.Common.{nat_eq, List, [], ◌∷◌, ◌++◌, length, map, refl, ap, ◌∙◌, subst}
use Rattle.std.proofs.Common.{arith, length-append}
use Rattle.std.specs.Prelude.{filter, sum_by, count_by}
use Rattle.std.specs.List.{AllByRecursion, flat_map}
use Rattle.std.proofs.lemmas.Bool.Decides.{nat_tests}
use Rattle.std.proofs.lemmas.List.{length-map}
use Rattle.std.proofs.lemmas.List.Recursion.{is_count_by}
use Rattle.std.proofs.lemmas.List.Sums.{sum_by-cons, sum_by-append}
use Rattle.sg_paths.specs.Operations.{PlainOp, adds, updates, deletes, PlainNumbered}
use Rattle.sg_paths.specs.Operations.{documents_from}
use Rattle.sg_paths.specs.Paths.{paths}
use Rattle.merge_plan.specs.declared.size.Size.{Size}
use Rattle.index_core.specs.Histories.{Record, is_among}
use Rattle.index_core.specs.Records.{current}
use Rattle.index_core.specs.Generations.{documents_of, holders_of}
use Rattle.index_core.specs.EndedMerges.{holding}
use Rattle.index_core.specs.HeldGenerations.{RisesFrom}
use Rattle.index_core.specs.Keeping.{AreHeldOnce}
use Rattle.index_core.specs.PlannedMerges.{IsWithinSegment, FitOneSegment, PlannedMergesFit}
use Rattle.index_core.proofs.ListLemmas.{all_weaker}
use Rattle.index_core.proofs.MergedPieceLemmas.{fewer_pass, own_generations}
use Rattle.index_core.proofs.PlannedLemmas.{AreChosen, IsFree, choice, sizes_planned}

-- ---- sums over what passes tests, as the documents of generations

none_split : (n : ℕ) → 0 ≡ 0 * n + 0
none_split n = omega arith

times : (k n : ℕ) → suc k * n ≡ n + k * n
times k n = grind arith

pub sum_split : {G X : Type 0} (f : X → ℕ) (p : G → X → Bool) (d : X) (ds : List X)
    (gens : List G)
    → sum_by f (flat_map (λ g. filter (p g) (d ∷ ds)) gens)
    ≡ length (filter (λ g. p g d) gens) * f d + sum_by f (flat_map (λ g. filter (p g) ds) gens)
sum_split f p d ds [] = none_split (f d)
sum_split f p d ds (g ∷ gs) = by_test (p g d) (sum_split f p d ds gs)
  where
    by_test : (b : Bool)
        → sum_by f (flat_map (λ h. filter (p h) (d ∷ ds)) gs)
        ≡ length (filter (λ h. p h d) gs) * f d + sum_by f (flat_map (λ h. filter (p h) ds) gs)
        → sum_by f (cond b (d ∷ filter (p g) ds) (filter (p g) ds)
        ++ flat_map (λ h. filter (p h) (d ∷ ds)) gs)
        ≡ length (cond b (g ∷ filter (λ h. p h d) gs) (filter (λ h. p h d) gs)) * f d
        + sum_by f (filter (p g) ds ++ flat_map (λ h. filter (p h) ds) gs)
    by_test true e =
        let all = sum_by-append f (d ∷ filter (p g) ds)
        (flat_map (λ h. filter (p h) (d ∷ ds)) gs) in
        let first = sum_by-cons f d (filter (p g) ds) in
        let rest = sum_by-append f (filter (p g) ds) (flat_map (λ h. filter (p h) ds) gs) in
        let more = times (length (filter (λ h. p h d) gs)) (f d) in
        omega (arith, all, first, rest, e, more)
    by_test false e =
        let all = sum_by-append f (filter (p g) ds) (flat_map (λ h. filter (p h) (d ∷ ds)) gs) in
        let rest = sum_by-append f (filter (p g) ds) (flat_map (λ h. filter (p h) ds) gs) in
        omega (arith, all, rest, e)

at_most_once : (k n : ℕ) → k ≤ 1 → k * n ≤ n
at_most_once zero n h = omega arith
at_most_once (suc zero) n h = omega arith
at_most_once (suc (suc k)) n h = absurd (omega (arith, h))

none_of_none : {G X : Type 0} (f : X → ℕ) (p : G → X → Bool) (gens : List G)
    → sum_by f (flat_map (λ g. filter (p g) []) gens) ≡ 0
none_of_none f p [] = refl
none_of_none f p (g ∷ gs) = none_of_none f p gs

-- where each passes one test at most, no more than the sum over all
pub sum_at_most : {G X : Type 0} (f : X → ℕ) (p : G → X → Bool) (gens : List G) (ds : List X)
    → AllByRecursion (λ d. length (filter (λ g. p g d) gens) ≤ 1) ds
    → sum_by f (flat_map (λ g. filter (p g) ds) gens) ≤ sum_by f ds
sum_at_most f p gens [] all = let none = none_of_none f p gens in omega (arith, none)
sum_at_most f p gens (d ∷ ds) all =
    let split = sum_split f p d ds gens in
    let once = at_most_once (length (filter (λ g. p g d) gens)) (f d) all.0 in
    let later = sum_at_most f p gens ds all.1 in
    let whole = sum_by-cons f d ds in
    omega (arith, split, once, later, whole)

-- ---- numbers

-- one where a test is passed
abbrev pub one : Bool → ℕ
one b = cond b 1 0

-- one where a document has a number
abbrev pub one_of : ℕ → PlainNumbered → ℕ
one_of n d = one (nat_eq d.seq n)

pub count_is_sum : (n : ℕ) (ds : List PlainNumbered)
    → sum_by (one_of n) ds ≡ count_by (λ d. nat_eq d.seq n) ds
count_is_sum n ds =
    is_count_by (λ (xs : List PlainNumbered). sum_by (one_of n) xs) (λ d. nat_eq d.seq n) refl
    (λ d xs. sum_by-cons (one_of n) d xs ∙ by_test (nat_eq d.seq n) (sum_by (one_of n) xs)) ds
  where
    by_test : (b : Bool) (m : ℕ) → one b + m ≡ cond b (1 + m) m
    by_test true m = refl
    by_test false m = omega arith

one_more : (n k : ℕ) (d : PlainNumbered) (ds : List PlainNumbered) → d.seq ≡ k → n < k
    → sum_by (one_of n) ds ≡ 0 → sum_by (one_of n) (d ∷ ds) ≡ 0
one_more n k d ds at less none =
    let other : nat_eq d.seq n ≡ false = grind (arith, nat_tests) in
    let own : one_of n d ≡ 0 = ap one other in
    let sum = sum_by-cons (one_of n) d ds in
    omega (arith, own, sum, none)

-- a lesser number isn't there
below_none : (n k : ℕ) (ops : List PlainOp) → n < k → sum_by (one_of n) (documents_from k ops) ≡ 0
below_none n k [] less = refl
below_none n k (deletes id ∷ ops) less = below_none n (k + 1) ops (omega (arith, less))
below_none n k (adds d ∷ ops) less =
    one_more n k (record { seq = k; document = d }) (documents_from (k + 1) ops) refl less
    (below_none n (k + 1) ops (omega (arith, less)))
below_none n k (updates d ∷ ops) less =
    one_more n k (record { seq = k; document = d }) (documents_from (k + 1) ops) refl less
    (below_none n (k + 1) ops (omega (arith, less)))

one_first : (n k : ℕ) (d : PlainNumbered) (ds : List PlainNumbered) → d.seq ≡ k
    → (n < k + 1 → sum_by (one_of n) ds ≡ 0) → sum_by (one_of n) ds ≤ 1
    → sum_by (one_of n) (d ∷ ds) ≤ 1
one_first n k d ds at none most = by_test (nat_eq d.seq n) refl
  where
    by_test : (b : Bool) → nat_eq d.seq n ≡ b → sum_by (one_of n) (d ∷ ds) ≤ 1
    by_test true is =
        let same : d.seq ≡ n = grind (arith, nat_tests) in
        let own : one_of n d ≡ 1 = ap one is in
        let sum = sum_by-cons (one_of n) d ds in
        let rest = none (omega (arith, at, same)) in
        omega (arith, own, sum, rest)
    by_test false is =
        let own : one_of n d ≡ 0 = ap one is in
        let sum = sum_by-cons (one_of n) d ds in
        omega (arith, own, sum, most)

-- of documents that operations add, one at most has a number
one_at_most : (n k : ℕ) (ops : List PlainOp) → sum_by (one_of n) (documents_from k ops) ≤ 1
one_at_most n k [] = omega arith
one_at_most n k (deletes id ∷ ops) = one_at_most n (k + 1) ops
one_at_most n k (adds d ∷ ops) =
    one_first n k (record { seq = k; document = d }) (documents_from (k + 1) ops) refl
    (below_none n (k + 1) ops) (one_at_most n (k + 1) ops)
one_at_most n k (updates d ∷ ops) =
    one_first n k (record { seq = k; document = d }) (documents_from (k + 1) ops) refl
    (below_none n (k + 1) ops) (one_at_most n (k + 1) ops)

-- ---- sums of sizes are those of documents

sum_documents : (r : Record) (ss : List Size) → AllByRecursion (IsFree r) ss
    → length (flat_map (documents_of r) (map (λ s. s.generation) ss))
    ≡ sum_by (λ s. s.documents) ss
sum_documents r [] all = refl
sum_documents r (s ∷ ss) all =
    let split = length-append (documents_of r s.generation)
    (flat_map (documents_of r) (map (λ x. x.generation) ss)) in
    let sum = sum_by-cons (λ (x : Size). x.documents) s ss in
    let own = ap (λ (x : Size). x.documents) all.0.size.own in
    let later = sum_documents r ss all.1 in
    omega (arith, split, sum, own, later)

sum_paths : (r : Record) (ss : List Size) → AllByRecursion (IsFree r) ss
    → sum_by (λ d. length (paths d.document))
    (flat_map (documents_of r) (map (λ s. s.generation) ss))
    ≡ sum_by (λ s. s.paths) ss
sum_paths r [] all = refl
sum_paths r (s ∷ ss) all =
    let split = sum_by-append (λ (d : PlainNumbered). length (paths d.document))
    (documents_of r s.generation)
    (flat_map (documents_of r) (map (λ x. x.generation) ss)) in
    let sum = sum_by-cons (λ (x : Size). x.paths) s ss in
    let own = ap (λ (x : Size). x.paths) all.0.size.own in
    let later = sum_paths r ss all.1 in
    omega (arith, split, sum, own, later)

-- ---- the law

-- generations of the current ones hold a document no more often than these
pub held_once : (r : Record) (gens : List ℕ)
    → filter (λ g. is_among g gens) (current r) ≡ gens
    → AreHeldOnce r → AllByRecursion (λ d. holding r d gens ≤ 1) (documents_from 1 r.journal)
held_once r gens own once =
    all_weaker (λ d. holding r d (current r) ≤ 1) (λ d. holding r d gens ≤ 1)
    (λ d one. subst (λ (gs : List ℕ). holding r d gs ≤ 1) own
    (let fewer = fewer_pass (λ h. is_among h (holders_of r d)) (λ g. is_among g gens)
    (current r) in omega (arith, fewer, one)))
    (documents_from 1 r.journal) once

chosen_fit : (r : Record) (ss : List Size) → RisesFrom 0 (current r)
    → AreChosen (λ s. IsFree r s × IsWithinSegment s) ss
    → AreHeldOnce r → FitOneSegment r (map (λ s. s.generation) ss)
chosen_fit r ss up chosen once =
    let gens = map (λ (s : Size). s.generation) ss in
    let each = all_weaker (λ s. IsFree r s × IsWithinSegment s) (IsFree r) (λ s both. both.0) ss
    chosen.are.each in
    let planned = sizes_planned r ss (record { each = each; rising = chosen.are.rising }) in
    let own = own_generations r gens 0 up planned.rising planned.in_use in
    let within = chosen.within
    (all_weaker (λ s. IsFree r s × IsWithinSegment s) IsWithinSegment (λ s both. both.1) ss
    chosen.are.each) in
    let count = length-map ss (λ (s : Size). s.generation) in
    record {
      planned = planned;
      some = let some = chosen.some in omega (arith, some, count);
      few = let few = chosen.few in omega (arith, few, count);
      numbers = λ n.
          let most = sum_at_most (one_of n) (λ g d. is_among g (holders_of r d)) gens
          (documents_from 1 r.journal) (held_once r gens own once) in
          let one = one_at_most n 1 r.journal in
          let same = count_is_sum n (flat_map (documents_of r) gens) in
          omega (arith, most, one, same);
      documents = let sum = sum_documents r ss each in let most = within.0 in
          omega (arith, sum, most);
      paths = let sum = sum_paths r ss each in let most = within.1 in
          omega (arith, sum, most);
    }

pub planned_fit : PlannedMergesFit
planned_fit r gens is up within once =
    let made = choice r IsWithinSegment gens up is within in
    subst (λ (gs : List ℕ). FitOneSegment r gs) made.numbers
    (chosen_fit r made.sizes up made.chosen once)
