-- What a merge keeps is within the limits of a segment, and its numbers rise.
use Rattle.std.proofs.Common.{◌≡◌, ◌≤◌, ◌<◌, ◌+◌, ℕ, Bool, true, false, cond, nat_eq}
use Rattle.std.proofs.Common.{List, [], ◌∷◌, length, map, refl, ap, ◌∙◌, arith}
use Rattle.std.proofs.Common.{length-append}
use Rattle.std.specs.Prelude.{sum_by, count_by}
use Rattle.std.specs.List.{flat_map}
use Rattle.std.proofs.lemmas.Bool.Decides.{nat_tests}
use Rattle.std.proofs.lemmas.List.{length-map}
use Rattle.std.proofs.lemmas.List.Recursion.{is_count_by}
use Rattle.std.proofs.lemmas.List.Sorted.{sum_by-IsPermutation}
use Rattle.std.proofs.lemmas.List.Sums.{sum_by-cons, sum_by-append}
use Rattle.sg_base.proofs.InOrderLemmas.{moves-in_order}
use Rattle.sg_paths.specs.declared.limits.TheConstants.{MOST_SEGMENT_DOCUMENTS}
use Rattle.sg_paths.specs.declared.limits.TheConstants.{MOST_SEGMENT_PATHS}
use Rattle.sg_paths.specs.Operations.{PlainNumbered, PlainBatch}
use Rattle.sg_paths.specs.Paths.{paths}
use Rattle.sg_paths.specs.AllPaths.{path_entries, entry_of}
use Rattle.segment.specs.Pieces.{PlainPiece, piece_documents}
use Rattle.segment.specs.Represents.{RiseFrom, NumbersRise}
use Rattle.segment.specs.Views.{all_documents}
use Rattle.piece_docs.specs.PieceDocs.{live_docs_less}
use Rattle.merge_work.specs.Merging.{document_cmp}
use Rattle.merge_work.specs.Working.{live_of, kept_of, documents_kept, AreSources}
use Rattle.merge_work.proofs.MergedLemmas.{RisesFrom, rises-in_order}

-- ---- sums

sum_by-live_of : (f : PlainNumbered → ℕ) (ds : List PlainNumbered) (ms : List Bool)
    → sum_by f (live_of ds ms) ≤ sum_by f ds
sum_by-live_of f [] ms = omega arith
sum_by-live_of f (d ∷ ds) [] = omega arith
sum_by-live_of f (d ∷ ds) (true ∷ ms) =
    let here = sum_by-cons f d ds in
    let kept = sum_by-cons f d (live_of ds ms) in
    let later = sum_by-live_of f ds ms in
    omega (arith, here, kept, later)
sum_by-live_of f (d ∷ ds) (false ∷ ms) =
    let here = sum_by-cons f d ds in
    let later = sum_by-live_of f ds ms in
    omega (arith, here, later)

sum_by-kept_of : (f : PlainNumbered → ℕ) (upto : ℕ) (bs : List PlainBatch) (ps : List PlainPiece)
    → sum_by f (flat_map (kept_of upto bs) ps) ≤ sum_by f (all_documents ps)
sum_by-kept_of f upto bs [] = omega arith
sum_by-kept_of f upto bs (p ∷ ps) =
    let whole = sum_by-append f (piece_documents p) (all_documents ps) in
    let kept = sum_by-append f (kept_of upto bs p) (flat_map (kept_of upto bs) ps) in
    let here =
    sum_by-live_of f (piece_documents p) (live_docs_less upto bs p) in
    let later = sum_by-kept_of f upto bs ps in
    omega (arith, whole, kept, here, later)

-- what is summed over the documents that are kept is at most the sum over all
sum_by-kept : (f : PlainNumbered → ℕ) (upto : ℕ) (bs : List PlainBatch) (ps : List PlainPiece)
    → sum_by f (documents_kept upto bs ps) ≤ sum_by f (all_documents ps)
sum_by-kept f upto bs ps =
    let moved =
    sum_by-IsPermutation f (flat_map (kept_of upto bs) ps) (documents_kept upto bs ps)
    (moves-in_order document_cmp (flat_map (kept_of upto bs) ps)) in
    let kept = sum_by-kept_of f upto bs ps in
    omega (arith, moved, kept)

length-sum_by : (ds : List PlainNumbered) → length ds ≡ sum_by (λ _. 1) ds
length-sum_by [] = refl
length-sum_by (d ∷ ds) =
    let cons = sum_by-cons (λ (_ : PlainNumbered). 1) d ds in
    let later = length-sum_by ds in
    omega (arith, cons, later)

-- how many paths documents have
pub path_count : (n : ℕ) (ds : List PlainNumbered)
    → length (path_entries n ds) ≡ sum_by (λ d. length (paths d.document)) ds
path_count n [] = refl
path_count n (d ∷ ds) =
    let cons = sum_by-cons (λ (e : PlainNumbered). length (paths e.document)) d ds in
    let split = length-append (map (entry_of n) (paths d.document)) (path_entries (n + 1) ds) in
    let own = length-map (paths d.document) (entry_of n) in
    let later = path_count (n + 1) ds in
    omega (arith, cons, split, own, later)

-- ---- numbers

-- 1 for a document with this number
abbrev one_of : ℕ → PlainNumbered → ℕ
one_of n d = cond (nat_eq d.seq n) 1 0

count_is_sum : (n : ℕ) (ds : List PlainNumbered)
    → sum_by (one_of n) ds ≡ count_by (λ d. nat_eq d.seq n) ds
count_is_sum n ds =
    is_count_by (λ (xs : List PlainNumbered). sum_by (one_of n) xs) (λ d. nat_eq d.seq n) refl
    (λ d xs. sum_by-cons (one_of n) d xs ∙ by_test (nat_eq d.seq n) (sum_by (one_of n) xs)) ds
  where
    by_test : (b : Bool) (m : ℕ) → cond b 1 0 + m ≡ cond b (1 + m) m
    by_test true m = refl
    by_test false m = omega arith

-- at most one document has each number
abbrev AreDifferent : List PlainNumbered → Type 0
AreDifferent ds = (n : ℕ) → sum_by (one_of n) ds ≤ 1

different-tail : (d : PlainNumbered) (ds : List PlainNumbered) → AreDifferent (d ∷ ds)
    → AreDifferent ds
different-tail d ds are n =
    let cons = sum_by-cons (one_of n) d ds in
    let whole = are n in
    omega (arith, cons, whole)

itself : (n : ℕ) → nat_eq n n ≡ true
itself n = grind (arith, nat_tests)

own_only : (d : PlainNumbered) (ds : List PlainNumbered) → AreDifferent (d ∷ ds)
    → sum_by (one_of d.seq) ds ≡ 0
own_only d ds are =
    let cons = sum_by-cons (one_of d.seq) d ds in
    let own : one_of d.seq d ≡ 1 = ap (λ (b : Bool). cond b 1 0) (itself d.seq) in
    let whole = are d.seq in
    omega (arith, cons, own, whole)

strictly_from : (n : ℕ) (ds : List PlainNumbered) → RisesFrom n ds → sum_by (one_of n) ds ≡ 0
    → AreDifferent ds → RiseFrom n ds
strictly_from n [] up none are = tt
strictly_from n (d ∷ ds) up none are = (
  by_test (nat_eq d.seq n) refl,
  strictly_from d.seq ds up.1 (own_only d ds are) (different-tail d ds are),
)
  where
    by_test : (b : Bool) → nat_eq d.seq n ≡ b → n < d.seq
    by_test true is =
        let cons = sum_by-cons (one_of n) d ds in
        let own : one_of n d ≡ 1 = ap (λ (b : Bool). cond b 1 0) is in
        absurd (omega (arith, cons, own, none))
    by_test false is = let less = up.0 in grind (arith, nat_tests)

strictly : (ds : List PlainNumbered) → RisesFrom 0 ds → AreDifferent ds → NumbersRise ds
strictly [] up are = tt
strictly (d ∷ ds) up are =
    strictly_from d.seq ds up.1 (own_only d ds are) (different-tail d ds are)

-- ---- the documents that are kept

module _ (upto : ℕ) (bs : List PlainBatch) (ps : List PlainPiece) (are : AreSources ps) where
  pub kept_rise : NumbersRise (documents_kept upto bs ps)
  kept_rise =
      strictly (documents_kept upto bs ps) (rises-in_order (flat_map (kept_of upto bs) ps))
      (λ n.
      let kept = sum_by-kept (one_of n) upto bs ps in
      let count = count_is_sum n (all_documents ps) in
      let most = are.numbers n in
      omega (arith, kept, count, most))

  pub few_kept : length (documents_kept upto bs ps) ≤ MOST_SEGMENT_DOCUMENTS
  few_kept =
      let kept = sum_by-kept (λ _. 1) upto bs ps in
      let own = length-sum_by (documents_kept upto bs ps) in
      let all = length-sum_by (all_documents ps) in
      let most = are.documents in
      omega (arith, kept, own, all, most)

  pub few_paths : length (path_entries 0 (documents_kept upto bs ps)) ≤ MOST_SEGMENT_PATHS
  few_paths =
      let kept = sum_by-kept (λ d. length (paths d.document)) upto bs ps in
      let own = path_count 0 (documents_kept upto bs ps) in
      let most = are.paths in
      omega (arith, kept, own, most)
