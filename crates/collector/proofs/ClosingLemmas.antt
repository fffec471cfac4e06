-- Taking hits off the end until the last one precedes, and the report of what is left.
use Rattle.std.proofs.Common.{◌≡◌, ◌≤◌, ◌<◌, ◌-◌, inl, inr, ℕ, Bool, true, false, cond}
use Rattle.std.proofs.Common.{List, [], ◌∷◌, length, take, map, refl, sym, ap, ◌∙◌, subst, arith}
use Rattle.std.specs.Prelude.{slice_index_or, filter, nat_le, Some, None}
use Rattle.std.proofs.lemmas.Bool.Decides.{nat_tests}
use Rattle.sg_base.specs.Lists.{In}
use Rattle.sg_base.specs.Cuts.{PlainCut, precedes}
use Rattle.sg_base.specs.declared.rank.Rank.{Rank}
use Rattle.sg_base.specs.declared.hit.Hit.{Hit}
use Rattle.sg_base.proofs.Orders.{at_most_itself, weaken}
use Rattle.sg_base.proofs.RankingLemmas.{rank_lt, ranks_ordered, Ascending}
use Rattle.sg_base.proofs.MarkLemmas.{GoesDown}
use Rattle.collector.specs.Tops.{preceding, report, closed}
use Rattle.collector.proofs.ListLemmas.{index-in, map-length, map-index}

same_kept : {X : Type 0} (b : Bool) (x : X) (xs ys : List X) → xs ≡ ys
    → cond b (x ∷ xs) xs ≡ cond b (x ∷ ys) ys
same_kept true x xs ys e = ap (λ zs. x ∷ zs) e
same_kept false x xs ys e = e

one_gone : {X : Type 0} (p : X → Bool) (x : X) → p x ≡ false → [] ≡ filter p (x ∷ [])
one_gone p x e = rw e refl

gone_at : {X : Type 0} (p : X → Bool) (x : X) (xs : List X)
    → ((d : X) → p (slice_index_or (x ∷ xs) (length xs) d) ≡ false)
    → filter p (take (length xs) (x ∷ xs)) ≡ filter p (x ∷ xs)
gone_at p x [] e = one_gone p x (e x)
gone_at p x (y ∷ ys) e =
    same_kept (p x) x (filter p (take (length ys) (y ∷ ys))) (filter p (y ∷ ys)) (gone_at p y ys e)

-- a last one that doesn't pass may go
last-gone : {X : Type 0} (p : X → Bool) (xs : List X) (n : ℕ) → length xs ≡ n → 0 < n
    → ((d : X) → p (slice_index_or xs (n - 1) d) ≡ false)
    → filter p (take (n - 1) xs) ≡ filter p xs
last-gone p [] n l s e = absurd (omega arith)
last-gone p (x ∷ xs) n l s e =
    let m : n - 1 ≡ length xs = omega (arith, l) in
    ap (λ k. filter p (take k (x ∷ xs))) m
    ∙ gone_at p x xs (λ d. ap (λ k. p (slice_index_or (x ∷ xs) k d)) (sym m) ∙ e d)

pub closed-off : {X : Type 0} (p : X → Bool) (xs new s : List X) (n : ℕ) → s ≡ xs → length xs ≡ n
    → 0 < n → new ≡ take (n - 1) xs
    → ((d : X) → p (slice_index_or s (length s - 1) d) ≡ false) → filter p new ≡ filter p xs
closed-off p xs new s n same l some is e =
    let m : length s ≡ n = ap length same ∙ l in
    ap (filter p) is
    ∙ last-gone p xs n l some (λ d. ap (λ zs. p (slice_index_or zs (n - 1) d)) (sym same)
    ∙ ap (λ k. p (slice_index_or s (k - 1) d)) (sym m) ∙ e d)

-- none stands behind the last
last_at : (x e d : Rank) (xs : List Rank) → Ascending (x ∷ xs) → In e (x ∷ xs)
    → rank_lt (slice_index_or (x ∷ xs) (length xs) d) e ≡ false
last_at x e d [] up (inl i) =
    subst (λ z. rank_lt x z ≡ false) (sym i) (at_most_itself rank_lt ranks_ordered x)
last_at x e d [] up (inr i) = elim i [ ]
last_at x e d (y ∷ ys) up (inl i) =
    let last : Rank = slice_index_or (y ∷ ys) (length ys) d in
    subst (λ z. rank_lt last z ≡ false) (sym i)
    (weaken rank_lt ranks_ordered x last
    (up.0 last (index-in (y ∷ ys) (length ys) d (omega arith))))
last_at x e d (y ∷ ys) up (inr i) = last_at y e d ys up.1 i

all_pass : {X : Type 0} (p : X → Bool) (xs : List X) → ((e : X) → In e xs → p e ≡ true)
    → xs ≡ filter p xs
all_pass p [] f = refl
all_pass p (x ∷ xs) f =
    let h = f x (inl refl) in rw h (ap (λ zs. x ∷ zs) (all_pass p xs (λ e i. f e (inr i))))

in-map_to : {X Y : Type 0} (f : X → Y) (e : X) (xs : List X) → In e xs → In (f e) (map f xs)
in-map_to f e [] i = elim i [ ]
in-map_to f e (x ∷ xs) (inl i) = inl (ap f i)
in-map_to f e (x ∷ xs) (inr i) = inr (in-map_to f e xs i)

-- where the last precedes, all do
last-stays : {X : Type 0} (pre : Rank → Bool) → GoesDown pre
    → (row : X → Rank) (x : X) (xs : List X)
    → Ascending (map row (x ∷ xs))
    → ((d : X) → pre (row (slice_index_or (x ∷ xs) (length xs) d)) ≡ true)
    → x ∷ xs ≡ filter (λ h. pre (row h)) (x ∷ xs)
last-stays pre down row x xs up e =
    let rows : List Rank = map row (x ∷ xs) in
    let at_row : slice_index_or rows (length (map row xs)) (row x)
    ≡ row (slice_index_or (x ∷ xs) (length xs) x) =
    ap (λ k. slice_index_or rows k (row x)) (map-length row xs)
    ∙ map-index row (x ∷ xs) (length xs) x (row x) (omega arith) in
    all_pass (λ h. pre (row h)) (x ∷ xs) (λ h i.
    down (row h) (slice_index_or rows (length (map row xs)) (row x))
    (last_at (row x) (row h) (row x) (map row xs) up (in-map_to row h (x ∷ xs) i))
    (ap pre at_row ∙ e x))

pub closed-at : {X : Type 0} (pre : Rank → Bool) → GoesDown pre → (row : X → Rank) (xs s : List X)
    (n : ℕ) → Ascending (map row xs) → s ≡ xs → length xs ≡ n → 0 < n
    → ((d : X) → pre (row (slice_index_or s (length s - 1) d)) ≡ true)
    → xs ≡ filter (λ h. pre (row h)) xs
closed-at pre down row [] s n up same l some e = refl
closed-at pre down row (x ∷ xs) s n up same l some e =
    let m : length s - 1 ≡ length xs = let k : length s ≡ length (x ∷ xs) = ap length same in
    omega (arith, k) in
    last-stays pre down row x xs up (λ d.
    ap (λ k. pre (row (slice_index_or (x ∷ xs) k d))) (sym m)
    ∙ ap (λ zs. pre (row (slice_index_or zs (length s - 1) d))) (sym same) ∙ e d)

-- a list of which as many pass as it has passes whole
filter-length : {X : Type 0} (p : X → Bool) (xs : List X) → length (filter p xs) ≤ length xs
filter-length p [] = omega arith
filter-length p (x ∷ xs) = at (p x) (filter-length p xs)
  where
    at : (b : Bool) → length (filter p xs) ≤ length xs
        → length (cond b (x ∷ filter p xs) (filter p xs)) ≤ length (x ∷ xs)
    at true h = omega (arith, h)
    at false h = omega (arith, h)

whole_at : {X : Type 0} (b : Bool) (x : X) (fs xs : List X) → length fs ≤ length xs
    → (length xs ≤ length fs → fs ≡ xs) → length (x ∷ xs) ≤ length (cond b (x ∷ fs) fs)
    → cond b (x ∷ fs) fs ≡ x ∷ xs
whole_at true x fs xs l more h = ap (λ zs. x ∷ zs) (more (omega (arith, h)))
whole_at false x fs xs l more h = absurd (omega (arith, l, h))

filter-whole : {X : Type 0} (p : X → Bool) (xs : List X) → length xs ≤ length (filter p xs)
    → filter p xs ≡ xs
filter-whole p [] h = refl
filter-whole p (x ∷ xs) h =
    whole_at (p x) x (filter p xs) xs (filter-length p xs) (filter-whole p xs) h

reaches : (k n : ℕ) → k ≤ n → nat_le k n ≡ true
reaches k n h = grind (arith, nat_tests)

falls_short : (k n : ℕ) → n < k → nat_le k n ≡ false
falls_short k n h = grind (arith, nat_tests)

-- where k precede, they are the kept hits
pub closed-whole : (k : ℕ) (row : Hit → Rank) (hits first : List Hit) (cut : PlainCut)
    → first ≡ preceding cut row hits → length hits ≤ k → k ≤ length first
    → closed k row hits (Some cut) ≡ report first None
closed-whole k row hits first cut is few h =
    let l : length first ≡ length (preceding cut row hits) = ap length is in
    let yes = reaches k (length (preceding cut row hits)) (omega (arith, h, l)) in
    let whole : preceding cut row hits ≡ hits =
    filter-whole (λ (x : Hit). precedes cut (row x)) hits (omega (arith, few, h, l))
    in
    rw yes (ap (λ hs. report hs None) (sym (is ∙ whole)))

-- else the truncation point stays
pub closed-short : (k : ℕ) (row : Hit → Rank) (hits first : List Hit) (cut : PlainCut)
    → first ≡ preceding cut row hits → length first < k
    → closed k row hits (Some cut) ≡ report first (Some cut)
closed-short k row hits first cut is h =
    let l : length first ≡ length (preceding cut row hits) = ap length is in
    let no = falls_short k (length (preceding cut row hits)) (omega (arith, h, l)) in
    rw no (ap (λ hs. report hs (Some cut)) (sym is))
