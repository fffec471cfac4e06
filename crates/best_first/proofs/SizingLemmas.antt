-- The queue size of a segment from its numbers, the steps of a search, and the hits of its report.
use Rattle.std.proofs.Common.{◌≡◌, ◌≤◌, ◌+◌, ◌*◌, ◌∙◌, ℕ, Bool, true, false, List, [], ◌∷◌, length}
use Rattle.std.proofs.Common.{map, cond, max, refl, sym, ap, arith}
use Rattle.std.specs.Prelude.{Option, Some, None, All, slice_index_or, nat_le, fold}
use Rattle.std.specs.List.{filter}
use Rattle.std.proofs.lemmas.Bool.Decides.{nat_tests}
use Rattle.sg_base.specs.Cuts.{PlainCut, precedes}
use Rattle.sg_base.specs.declared.hit.Hit.{Hit}
use Rattle.sg_base.specs.declared.rank.Rank.{Rank}
use Rattle.sg_base.proofs.ListLemmas.{in-filter}
use Rattle.sg_paths.specs.Operations.{PlainNumbered}
use Rattle.sg_paths.specs.Paths.{paths}
use Rattle.sg_answers.specs.Reports.{live_of, viewed_segment, queue_size, queue_size_of}
use Rattle.sg_answers.specs.Reports.{most_paths}
use Rattle.seg_live.specs.LiveDocs.{live_count}
use Rattle.seg_table.specs.Owners.{greatest}
use Rattle.collector.specs.Tops.{closed, preceding, report}
use Rattle.collector.proofs.ListLemmas.{index-in, all-member}
use Rattle.best_first.specs.Lists.{passing}
use Rattle.best_first.proofs.LiveLemmas.{length-live_of}

passing-live : (marks : List Bool) → passing (λ live. live) marks ≡ live_count marks
passing-live [] = refl
passing-live (live ∷ marks) = ap (λ n. cond live 1 0 + n) (passing-live marks)

-- as many documents are live as live docs say
pub live-length : (ds : List PlainNumbered) (marks : List Bool) → length marks ≡ length ds
    → length (live_of ds marks) ≡ live_count marks
live-length ds marks h = length-live_of ds marks h ∙ passing-live marks

max-three : (a b c : ℕ) → max (max a b) c ≡ max a (max b c)
max-three a b c = grind (arith, nat_tests)

fold-greatest : (n : ℕ) (ds : List PlainNumbered)
    → fold (λ most d. max most (length (paths d.document))) n ds
    ≡ max n (greatest (map (λ d. length (paths d.document)) ds))
fold-greatest n [] = grind (arith, nat_tests)
fold-greatest n (d ∷ ds) =
    let x = length (paths d.document) in
    fold-greatest (max n x) ds
    ∙ max-three n x (greatest (map (λ (e : PlainNumbered). length (paths e.document)) ds))

max-none : (n : ℕ) → max 0 n ≡ n
max-none n = grind (arith, nat_tests)

pub most-greatest : (ds : List PlainNumbered)
    → greatest (map (λ d. length (paths d.document)) ds) ≡ most_paths ds
most-greatest ds =
    sym (fold-greatest 0 ds ∙ max-none (greatest (map (λ d. length (paths d.document)) ds)))

-- the queue size by numbers is that of the segment
pub size-of : (size k k' most documents live generation : ℕ) (ds : List PlainNumbered)
    (marks : List Bool) → size ≡ queue_size_of k most documents live → k ≡ k'
    → most ≡ greatest (map (λ d. length (paths d.document)) ds) → documents ≡ length ds
    → live ≡ live_count marks → length marks ≡ length ds
    → size ≡ queue_size k' (viewed_segment generation ds marks)
size-of size k k' most documents live generation ds marks q e m n l h =
    q ∙ ap (λ z. queue_size_of z most documents live) e
    ∙ ap (λ z. queue_size_of k' z documents live) (m ∙ most-greatest ds)
    ∙ ap (λ z. queue_size_of k' (most_paths ds) z live) n
    ∙ ap (queue_size_of k' (most_paths ds) (length ds)) (l ∙ sym (live-length ds marks h))

-- the steps of the starts and those of the paths
pub steps-sum : (first second third w w' room room' most most' : ℕ) → second ≤ first + w
    → third ≤ second + room * (most + 1) → w ≡ w' → room ≡ room' → most ≡ most'
    → third ≤ first + (w' + room' * (most' + 1))
steps-sum first second third w w' room room' most most' a b e f g =
    let p : room * (most + 1) ≡ room' * (most' + 1) =
    ap (λ z. z * (most + 1)) f ∙ ap (λ z. room' * (z + 1)) g in
    omega (arith, a, b, e, p)

all-filter : {X : Type 0} (P : X → Type 0) (p : X → Bool) (xs : List X) → All P xs
    → All P (filter p xs)
all-filter P p xs all i d l =
    all-member P (slice_index_or (filter p xs) i d) xs all
    (in-filter p (slice_index_or (filter p xs) i d) xs (index-in (filter p xs) i d l)).0

closed_at : (P : Hit → Type 0) (b : Bool) (hits some : List Hit) (cut : PlainCut) → All P hits
    → All P some → All P (cond b (report hits None) (report some (Some cut))).hits
closed_at P true hits some cut h k = h
closed_at P false hits some cut h k = k

-- what holds of all kept hits holds of those of a report
pub closed-all : (P : Hit → Type 0) (k : ℕ) (row : Hit → Rank) (hits : List Hit)
    (cut : Option PlainCut) → All P hits → All P (closed k row hits cut).hits
closed-all P k row hits None h = h
closed-all P k row hits (Some cut) h =
    closed_at P (nat_le k (length (preceding cut row hits))) hits (preceding cut row hits) cut h
    (all-filter P (λ (x : Hit). precedes cut (row x)) hits h)
