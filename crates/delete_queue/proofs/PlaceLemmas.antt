-- The places that deletes reach, one after the other, are those that one of them reaches.
use Rattle.std.proofs.Common.{◌≡◌, ◌<◌, ◌≤◌, ◌+◌, ℕ, zero, suc, Bool, true, false, cond}
use Rattle.std.proofs.Common.{nat_eq, ◌&&◌, ◌||◌, List, [], ◌∷◌, ◌++◌, length, refl, sym}
use Rattle.std.proofs.Common.{ap, ◌∙◌, arith}
use Rattle.std.specs.Prelude.{filter, nat_lt, bytes_eq, eqb}
use Rattle.std.specs.List.{list_any, All, AllByRecursion, dedup}
use Rattle.std.specs.List.Sorted.{IsPermutation, IsSorted}
use Rattle.std.specs.Ordering.{nat_cmp}
use Rattle.std.proofs.lemmas.List.Folds.{list_any-append}
use Rattle.std.proofs.lemmas.List.{append_assoc, length-append}
use Rattle.std.proofs.lemmas.List.Elements.{All-from_recursion}
use Rattle.std.proofs.lemmas.List.Sorted.{list_any-IsPermutation}
use Rattle.sg_paths.specs.Operations.{PlainNumbered, PlainBatch}
use Rattle.seg_table.specs.Ids.{places_from}
use Rattle.delete_queue.specs.Deletes.{NumberedDelete, reaches, deletes_between, is_dead_in}
use Rattle.delete_queue.specs.DeleteOrder.{latest}
use Rattle.delete_queue.specs.Reached.{is_before, places_of, places_reached}
use Rattle.delete_queue.proofs.RisingLemmas.{is_in, sorted_once, places_rise}
use Rattle.delete_queue.proofs.CoverLemmas.{latest_reach}

-- ---- tests

places_none : {X : Type 0} (n : ℕ) (xs : List X) → places_from n (λ _. false) xs ≡ []
places_none n [] = refl
places_none n (x ∷ xs) = places_none (n + 1) xs

or_at : (i n : ℕ) (a b : Bool) (ps qs rs : List ℕ)
    → is_in i rs ≡ (is_in i ps || is_in i qs)
    → is_in i (cond (a || b) (n ∷ rs) rs)
    ≡ (is_in i (cond a (n ∷ ps) ps) || is_in i (cond b (n ∷ qs) qs))
or_at i n false false ps qs rs e = e
or_at i n true false ps qs rs e = by_cases (nat_eq i n)
  where
    by_cases : (c : Bool) → (c || is_in i rs) ≡ ((c || is_in i ps) || is_in i qs)
    by_cases true = refl
    by_cases false = e
or_at i n false true ps qs rs e = by_cases (nat_eq i n) (is_in i ps) e
  where
    by_cases : (c d : Bool) → is_in i rs ≡ (d || is_in i qs)
        → (c || is_in i rs) ≡ (d || (c || is_in i qs))
    by_cases true true e' = refl
    by_cases true false e' = refl
    by_cases false d e' = e'
or_at i n true true ps qs rs e = by_cases (nat_eq i n) (is_in i ps) e
  where
    by_cases : (c d : Bool) → is_in i rs ≡ (d || is_in i qs)
        → (c || is_in i rs) ≡ ((c || d) || (c || is_in i qs))
    by_cases true d e' = refl
    by_cases false d e' = e'

-- what two tests name
pub places_or : {X : Type 0} (i n : ℕ) (p q : X → Bool) (xs : List X)
    → is_in i (places_from n (λ x. p x || q x) xs)
    ≡ (is_in i (places_from n p xs) || is_in i (places_from n q xs))
places_or i n p q [] = refl
places_or i n p q (x ∷ xs) =
    or_at i n (p x) (q x) (places_from (n + 1) p xs) (places_from (n + 1) q xs)
    (places_from (n + 1) (λ x. p x || q x) xs) (places_or i (n + 1) p q xs)

-- ---- one operation

-- of places, those of documents with a lesser number
lesser_at : (seq n : ℕ) (p : PlainNumbered → Bool) (all ds : List PlainNumbered)
    (d : PlainNumbered) (a b : Bool) (rest : List ℕ) → p d ≡ a → is_before seq all n ≡ b
    → nat_lt d.seq seq ≡ b
    → filter (is_before seq all) rest ≡ places_from (n + 1) (λ d. p d && nat_lt d.seq seq) ds
    → filter (is_before seq all) (cond a (n ∷ rest) rest)
    ≡ places_from n (λ d. p d && nat_lt d.seq seq) (d ∷ ds)
lesser_at seq n p all ds d false b rest pd at lt e = rw pd e
lesser_at seq n p all ds d true true rest pd at lt e =
    rw (pd, at, lt) (ap (λ (zs : List ℕ). n ∷ zs) e)
lesser_at seq n p all ds d true false rest pd at lt e = rw (pd, at, lt) e

get_middle : (before : List PlainNumbered) (d : PlainNumbered) (ds : List PlainNumbered)
    (seq n : ℕ) → n ≡ length before → is_before seq (before ++ d ∷ ds) n ≡ nat_lt d.seq seq
get_middle [] d ds seq zero e = refl
get_middle [] d ds seq (suc n) e = absurd (omega (arith, e))
get_middle (x ∷ xs) d ds seq zero e = absurd (omega (arith, e))
get_middle (x ∷ xs) d ds seq (suc n) e = get_middle xs d ds seq n (omega (arith, e))

lesser_from : (seq n : ℕ) (p : PlainNumbered → Bool) (before ds all : List PlainNumbered)
    → before ++ ds ≡ all → n ≡ length before
    → filter (is_before seq all) (places_from n p ds)
    ≡ places_from n (λ d. p d && nat_lt d.seq seq) ds
lesser_from seq n p before [] all is e = refl
lesser_from seq n p before (d ∷ ds) all is e =
    lesser_at seq n p all ds d (p d) (nat_lt d.seq seq) (places_from (n + 1) p ds) refl
    (ap (λ (xs : List PlainNumbered). is_before seq xs n) (sym is)
    ∙ get_middle before d ds seq n e) refl
    (lesser_from seq (n + 1) p (before ++ d ∷ []) ds all (append_assoc before (d ∷ []) ds ∙ is)
    (omega (arith, e, length-append before (d ∷ []))))

pub lesser_places : (seq : ℕ) (p : PlainNumbered → Bool) (ds : List PlainNumbered)
    → filter (is_before seq ds) (places_from 0 p ds)
    ≡ places_from 0 (λ d. p d && nat_lt d.seq seq) ds
lesser_places seq p ds = lesser_from seq 0 p [] ds ds refl refl

-- the places of the documents with an id that were added before
pub reached_places : (e : NumberedDelete) (docs : List PlainNumbered)
    → filter (is_before e.seq docs) (places_from 0 (λ d. bytes_eq d.document.id e.id) docs)
    ≡ places_of docs e
reached_places e docs = lesser_places e.seq (λ d. bytes_eq d.document.id e.id) docs

-- delete by delete
pub reached_in : (i : ℕ) (es : List NumberedDelete) (docs : List PlainNumbered)
    → is_in i (places_reached docs es)
    ≡ is_in i (places_from 0 (λ d. list_any (reaches d) es) docs)
reached_in i [] docs = sym (ap (is_in i) (places_none 0 docs))
reached_in i (e ∷ es) docs =
    list_any-append (nat_eq i) (places_of docs e) (places_reached docs es)
    ∙ ap (λ (b : Bool). is_in i (places_of docs e) || b) (reached_in i es docs)
    ∙ sym (places_or i 0 (λ d. reaches d e) (λ d. list_any (reaches d) es) docs)

-- a test that says the same in another way
pub places_agree : {X : Type 0} (n : ℕ) (p q : X → Bool) (xs : List X) → ((x : X) → p x ≡ q x)
    → places_from n p xs ≡ places_from n q xs
places_agree n p q [] same = refl
places_agree n p q (x ∷ xs) same =
    ap (λ (b : Bool). cond b (n ∷ places_from (n + 1) p xs) (places_from (n + 1) p xs)) (same x)
    ∙ ap (λ (zs : List ℕ). cond (q x) (n ∷ zs) zs) (places_agree (n + 1) p q xs same)

within_at : (n k m : ℕ) (b : Bool) (rest : List ℕ) → n + suc k ≤ m
    → AllByRecursion (λ place. place < m) rest
    → AllByRecursion (λ place. place < m) (cond b (n ∷ rest) rest)
within_at n k m true rest h all = (omega (arith, h), all)
within_at n k m false rest h all = all

-- places are those of the list
places_below : {X : Type 0} (n m : ℕ) (test : X → Bool) (xs : List X) → n + length xs ≤ m
    → AllByRecursion (λ place. place < m) (places_from n test xs)
places_below n m test [] h = tt
places_below n m test (x ∷ xs) h =
    within_at n (length xs) m (test x) (places_from (n + 1) test xs) h
    (places_below (n + 1) m test xs (omega (arith, h)))

pub places_within : {X : Type 0} (test : X → Bool) (xs : List X)
    → All (λ place. place < length xs) (places_from 0 test xs)
places_within test xs =
    All-from_recursion (λ place. place < length xs) (places_from 0 test xs)
    (places_below 0 (length xs) test xs (omega arith))

-- the places that all deletes reach, each once and in order, of those that the latest reach
pub dead_places : (applied upto : ℕ) (batches : List PlainBatch) (docs : List PlainNumbered)
    (sorted : List NumberedDelete) (raw places : List ℕ)
    → IsPermutation (deletes_between applied upto batches) sorted
    → raw ≡ places_reached docs (latest sorted) → IsPermutation raw places
    → IsSorted nat_cmp places
    → dedup eqb places ≡ places_from 0 (is_dead_in applied upto batches) docs
dead_places applied upto batches docs sorted raw places moved is turned up =
    let dead = is_dead_in applied upto batches in
    let same : (d : PlainNumbered) → list_any (reaches d) (latest sorted) ≡ dead d =
    λ d. latest_reach d sorted
    ∙ sym
    (list_any-IsPermutation (reaches d) (deletes_between applied upto batches) sorted moved) in
    sorted_once raw places (places_from 0 dead docs) turned up (places_rise 0 dead docs)
    (λ i. ap (is_in i) is ∙ reached_in i (latest sorted) docs
    ∙ ap (is_in i) (places_agree 0 (λ d. list_any (reaches d) (latest sorted)) dead docs same))
