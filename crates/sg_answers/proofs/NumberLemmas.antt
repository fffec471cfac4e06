-- Documents whose numbers don't fall: where a number is found, and that live documents are such.
use Rattle.std.proofs.Common.{◌≡◌, ◌⊎◌, inl, inr, ℕ, zero, suc, ◌+◌, ◌<◌, ◌≤◌, ◌==◌, true}
use Rattle.std.proofs.Common.{false, not, List, [], ◌∷◌, Option, Some, None}
use Rattle.std.proofs.Common.{◌++◌, refl, arith}
use Rattle.std.specs.Prelude.{find, nat_lt, take, slice_get, All, option_map, option_to_list}
use Rattle.std.specs.List.Sorted.{IsNonDecreasingBy, IsPartitionPoint}
use Rattle.std.proofs.lemmas.Bool.{ltb-true, ltb-false, ne_eqb, eq-eqb, cases_eq}
use Rattle.std.proofs.lemmas.List.Elements.{All-nil, All-cons, All-head, All-tail, All-weaker}
use Rattle.std.proofs.lemmas.List.Kept.{IsNonDecreasingBy-filter}
use Rattle.sg_paths.specs.Documents.{PlainDocument}
use Rattle.sg_paths.specs.Operations.{PlainOp, added_document, PlainNumbered, documents_from}
use Rattle.sg_paths.specs.LiveDocuments.{is_deleted, live_documents}
use Rattle.sg_answers.specs.Scans.{if_numbered}

-- what a test of the numbers parts
pub parted : (n i : ℕ) (ds : List PlainNumbered)
    → IsPartitionPoint (λ d. nat_lt d.seq n ≡ true) (λ d. nat_lt d.seq n ≡ false) ds i
    → IsPartitionPoint (λ d. d.seq < n) (λ d. n ≤ d.seq) ds i
parted n i ds parts = (
  λ k d low high. ltb-true _ n (parts.0 k d low high),
  λ k d low high. ltb-false _ n (parts.1 k d low high),
)

find-none : (n : ℕ) (ds : List PlainNumbered) → All (λ d. n < d.seq) ds
    → find (λ d. d.seq == n) ds ≡ None
find-none n [] all = refl
find-none n (d ∷ ds) all =
    let more : n < d.seq = All-head (λ e. n < e.seq) d ds all in
    let differs : (d.seq == n) ≡ false = ne_eqb d.seq n (λ same. omega (arith, same)) in
    rw differs (find-none n ds (All-tail (λ e. n < e.seq) d ds all))

-- the first document is the only one that may have the number
first_only : (n : ℕ) (d : PlainNumbered) (ds : List PlainNumbered)
    → IsNonDecreasingBy (λ e. e.seq) (d ∷ ds) → n ≤ d.seq → (d.seq ≡ n) ⊎ (d.seq ≡ n → ⊥)
    → find (λ e. e.seq == n) (d ∷ ds) ≡ if_numbered n (Some d)
first_only n d ds rising least (inl same) =
    let is : (d.seq == n) ≡ true = eq-eqb d.seq n same in
    rw is refl
first_only n d ds rising least (inr other) =
    let differs : (d.seq == n) ≡ false = ne_eqb d.seq n other in
    rw differs (find-none n ds (λ k e within.
    let up = rising 0 (suc k) e (omega arith) (omega (arith, within)) in
    omega (arith, up, least, other)))

-- what stands behind those with a lesser number, if it has the number
pub find-at : (n i : ℕ) (ds : List PlainNumbered) → IsNonDecreasingBy (λ d. d.seq) ds
    → IsPartitionPoint (λ d. d.seq < n) (λ d. n ≤ d.seq) ds i
    → find (λ d. d.seq == n) ds ≡ if_numbered n (slice_get ds i)
find-at n i [] rising parts = refl
find-at n zero (d ∷ ds) rising parts =
    first_only n d ds rising (parts.1 0 d (omega arith) (omega arith)) (cases_eq d.seq n)
find-at n (suc i) (d ∷ ds) rising parts =
    let less : d.seq < n = parts.0 0 d (omega arith) (omega arith) in
    let differs : (d.seq == n) ≡ false = ne_eqb d.seq n (λ same. omega (arith, same)) in
    rw differs (find-at n i ds
    (λ j k e up within. rising (suc j) (suc k) e (omega (arith, up)) (omega (arith, within))) (
      λ k e low high. parts.0 (suc k) e (omega arith) (omega (arith, high)),
      λ k e low high. parts.1 (suc k) e (omega (arith, low)) (omega (arith, high)),
    ))

-- ---- live documents

rising-cons : (d : PlainNumbered) (ds : List PlainNumbered) → All (λ e. d.seq ≤ e.seq) ds
    → IsNonDecreasingBy (λ e. e.seq) ds → IsNonDecreasingBy (λ e. e.seq) (d ∷ ds)
rising-cons d ds least rising zero zero e up within = omega arith
rising-cons d ds least rising zero (suc j) e up within = least j e (omega (arith, within))
rising-cons d ds least rising (suc i) zero e up within = absurd (omega (arith, up))
rising-cons d ds least rising (suc i) (suc j) e up within =
    rising i j e (omega (arith, up)) (omega (arith, within))

abbrev numbered : ℕ → PlainDocument → PlainNumbered
numbered n document = record { seq = n; document = document }

-- at least the number of the first operation
least-cons : (n : ℕ) (added : Option PlainDocument) (ds : List PlainNumbered)
    → All (λ d. n + 1 ≤ d.seq) ds
    → All (λ d. n ≤ d.seq) (option_to_list (option_map (numbered n) added) ++ ds)
least-cons n None ds least =
    All-weaker (λ d. n + 1 ≤ d.seq) (λ d. n ≤ d.seq) (λ d h. omega (arith, h)) ds least
least-cons n (Some document) ds least =
    All-cons (λ d. n ≤ d.seq) (numbered n document) ds (omega arith)
    (All-weaker (λ d. n + 1 ≤ d.seq) (λ d. n ≤ d.seq) (λ d h. omega (arith, h)) ds least)

documents_from-least : (n : ℕ) (ops : List PlainOp) → All (λ d. n ≤ d.seq) (documents_from n ops)
documents_from-least n [] = All-nil (λ d. n ≤ d.seq)
documents_from-least n (operation ∷ later) =
    least-cons n (added_document operation) (documents_from (n + 1) later)
    (documents_from-least (n + 1) later)

rising-added : (n : ℕ) (added : Option PlainDocument) (ds : List PlainNumbered)
    → All (λ d. n + 1 ≤ d.seq) ds → IsNonDecreasingBy (λ d. d.seq) ds
    → IsNonDecreasingBy (λ d. d.seq) (option_to_list (option_map (numbered n) added) ++ ds)
rising-added n None ds least rising = rising
rising-added n (Some document) ds least rising =
    rising-cons (numbered n document) ds
    (All-weaker (λ d. n + 1 ≤ d.seq) (λ d. n ≤ d.seq) (λ d h. omega (arith, h)) ds least) rising

documents_from-rising : (n : ℕ) (ops : List PlainOp)
    → IsNonDecreasingBy (λ d. d.seq) (documents_from n ops)
documents_from-rising n [] = λ i j e up within. absurd (omega (arith, within))
documents_from-rising n (operation ∷ later) =
    rising-added n (added_document operation) (documents_from (n + 1) later)
    (documents_from-least (n + 1) later) (documents_from-rising (n + 1) later)

-- the numbers of the live documents of a journal don't fall
pub live_documents-rising : (journal : List PlainOp) (upto : ℕ)
    → IsNonDecreasingBy (λ d. d.seq) (live_documents journal upto)
live_documents-rising journal upto =
    IsNonDecreasingBy-filter (λ d. d.seq) (λ d. not (is_deleted journal upto d))
    (documents_from 1 (take upto journal)) (documents_from-rising 1 (take upto journal))
