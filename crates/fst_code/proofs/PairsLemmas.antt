-- The walks of two texts that map one list leave nodes that map the same.
use Rattle.std.proofs.Common.{◌≡◌, ◌<◌, ◌≤◌, ◌+◌, ℕ, zero, suc, Bool, true, false, ◌||◌, cond, eqb}
use Rattle.std.proofs.Common.{eq-eqb, eqb-true, List, [], ◌∷◌, ◌++◌, length, get_or, refl, sym, ap}
use Rattle.std.proofs.Common.{subst, ◌∙◌, arith, ◌⊎◌, inl, inr}
use Rattle.std.proofs.lemmas.Bool.{cases_eq, cases_order}
use Rattle.std.specs.List.{AllByRecursion}
use Rattle.sg_base.specs.declared.node.Edge.{Edge}
use Rattle.fst_code.specs.Tails.{Tail, mapped}
use Rattle.fst_code.specs.Rules.{has, for_targets, postorder, from_to}
use Rattle.sg_base.specs.Nodes.{same_edges}
use Rattle.fst_code.proofs.LawLemmas.{Lawful, AllAlike, apart, alike, no_end_at, ways, Rising}
use Rattle.fst_code.proofs.LawLemmas.{AllFree, below_less, and_true}

pub record Pair (s t : List (List Edge)) (ks kt : List (List Tail)) (x y : ℕ) : Type 0 where
  pub first : x < length s
  pub second : y < length t
  pub same : get_or ks x [] ≡ get_or kt y []

abbrev pub Paired : List (List Edge) → List (List Edge) → List (List Tail) → List (List Tail)
    → List ℕ → List ℕ → Type 0
Paired s t ks kt [] [] = Unit {0}
Paired s t ks kt [] (y ∷ ys) = ⊥
Paired s t ks kt (x ∷ xs) [] = ⊥
Paired s t ks kt (x ∷ xs) (y ∷ ys) = Pair s t ks kt x y × Paired s t ks kt xs ys

both : (b c : Bool) → (b ≡ true → c ≡ true) → (c ≡ true → b ≡ true) → b ≡ c
both true true f g = refl
both true false f g = sym (f refl)
both false true f g = g refl
both false false f g = refl

or_same : (a b c d : Bool) → a ≡ c → b ≡ d → (a || b) ≡ (c || d)
or_same a b c d e f = rw (e, f) refl

has_same : (s t : List (List Edge)) (ks kt : List (List Tail)) → Lawful s ks → Lawful t kt
    → (a b : ℕ) (xs ys : List ℕ) → Pair s t ks kt a b → Paired s t ks kt xs ys → has a xs ≡ has b ys
has_same s t ks kt p q a b [] [] pair all = refl
has_same s t ks kt p q a b [] (y ∷ ys) pair all = absurd all
has_same s t ks kt p q a b (x ∷ xs) [] pair all = absurd all
has_same s t ks kt p q a b (x ∷ xs) (y ∷ ys) pair all =
    or_same (eqb a x) (has a xs) (eqb b y) (has b ys)
    (both (eqb a x) (eqb b y)
    (λ e. eq-eqb _ _ (apart t kt q (length t) (omega (arith)) b y pair.second all.0.second
    (sym pair.same ∙ ap (λ k. get_or ks k []) (eqb-true _ _ e) ∙ all.0.same)))
    (λ e. eq-eqb _ _ (apart s ks p (length s) (omega (arith)) a x pair.first all.0.first
    (pair.same ∙ ap (λ k. get_or kt k []) (eqb-true _ _ e) ∙ sym all.0.same))))
    (has_same s t ks kt p q a b xs ys pair all.1)

paired_push : (s t : List (List Edge)) (ks kt : List (List Tail)) (a b : ℕ) (xs ys : List ℕ)
    → Pair s t ks kt a b → Paired s t ks kt xs ys → Paired s t ks kt (xs ++ a ∷ []) (ys ++ b ∷ [])
paired_push s t ks kt a b [] [] pair all = (pair, tt)
paired_push s t ks kt a b [] (y ∷ ys) pair all = absurd all
paired_push s t ks kt a b (x ∷ xs) [] pair all = absurd all
paired_push s t ks kt a b (x ∷ xs) (y ∷ ys) pair all =
    (all.0, paired_push s t ks kt a b xs ys pair all.1)

targets_pair : (s t : List (List Edge)) (ks kt : List (List Tail)) (m n : ℕ)
    (f g : ℕ → List ℕ → List ℕ) → m ≤ length s → n ≤ length t
    → ((a b : ℕ) (xs ys : List ℕ) → a < m → b < n → Pair s t ks kt a b → Paired s t ks kt xs ys
    → Paired s t ks kt (f a xs) (g b ys)) → (es ds : List Edge) (xs ys : List ℕ)
    → AllByRecursion (λ (e : Edge). e.target.0 < m) es
    → AllByRecursion (λ (e : Edge). e.target.0 < n) ds → AllAlike ks kt es ds
    → Paired s t ks kt xs ys → Paired s t ks kt (for_targets f es xs) (for_targets g ds ys)
targets_pair s t ks kt m n f g hm hn step [] [] xs ys le ld like all = all
targets_pair s t ks kt m n f g hm hn step [] (d ∷ ds) xs ys le ld like all = absurd like
targets_pair s t ks kt m n f g hm hn step (e ∷ es) [] xs ys le ld like all = absurd like
targets_pair s t ks kt m n f g hm hn step (e ∷ es) (d ∷ ds) xs ys le ld like all =
    targets_pair s t ks kt m n f g hm hn step es ds (f e.target.0 xs) (g d.target.0 ys) le.1 ld.1
    like.1
    (step e.target.0 d.target.0 xs ys le.0 ld.0
    (record {
      first = omega (arith, le.0, hm);
      second = omega (arith, ld.0, hn);
      same =
          like.0.tails;
    }) all)

-- what two nodes that map the same have
edges_alike : (ks kt : List (List Tail)) (es ds : List Edge) → Rising es → Rising ds → AllFree ks es
    → AllFree kt ds → mapped ks es ≡ mapped kt ds → AllAlike ks kt es ds
edges_alike ks kt [] [] r s f g same = tt
edges_alike ks kt [] (d ∷ ds) r s f g same =
    absurd (no_end_at d (get_or kt d.target.0 []) (ways kt ds) g.0 same)
edges_alike ks kt (e ∷ es) [] r s f g same =
    absurd (no_end_at e (get_or ks e.target.0 []) (ways ks es) f.0 (sym same))
edges_alike ks kt (e ∷ es) (d ∷ ds) r s f g same = alike ks kt (e ∷ es) (d ∷ ds) r s f g same

choose : (s t : List (List Edge)) (ks kt : List (List Tail)) (b c : Bool) (xs ys us vs : List ℕ)
    → b ≡ c → Paired s t ks kt xs ys → Paired s t ks kt us vs
    → Paired s t ks kt (cond b xs us) (cond c ys vs)
choose s t ks kt true true xs ys us vs e p q = p
choose s t ks kt false false xs ys us vs e p q = q
choose s t ks kt true false xs ys us vs e p q = absurd cc
choose s t ks kt false true xs ys us vs e p q = absurd cc

pub postorder_pair : (s t : List (List Edge)) (ks kt : List (List Tail)) → Lawful s ks → Lawful t kt
    → (m n : ℕ) → m ≤ length s → n ≤ length t → (a b : ℕ) (xs ys : List ℕ) → a < m → b < n
    → Pair s t ks kt a b → Paired s t ks kt xs ys
    → Paired s t ks kt (postorder m s a xs) (postorder n t b ys)
unfolding postorder
postorder_pair s t ks kt p q zero n hm hn a b xs ys la lb pair all = absurd (omega (arith, la))
postorder_pair s t ks kt p q (suc m) zero hm hn a b xs ys la lb pair all =
    absurd (omega (arith, lb))
postorder_pair s t ks kt p q (suc m) (suc n) hm hn a b xs ys la lb pair all =
    let es = get_or s a [] in
    let ds = get_or t b [] in
    let like = edges_alike ks kt es ds (p.rising a) (q.rising b) (p.free a) (q.free b)
    (sym (p.maps a pair.first) ∙ pair.same ∙ q.maps b pair.second) in
    let inner = targets_pair s t ks kt m n (postorder m s) (postorder n t) (omega (arith, hm))
    (omega (arith, hn)) (λ c d us vs lc ld pr al. postorder_pair s t ks kt p q m n
    (omega (arith, hm)) (omega (arith, hn)) c d us vs lc ld pr al) es ds xs ys
    (below_less a m es (omega (arith, la)) (p.below a))
    (below_less b n ds (omega (arith, lb)) (q.below b)) like all in
    choose s t ks kt (has a xs) (has b ys) xs ys (for_targets (postorder m s) es xs ++ a ∷ [])
    (for_targets (postorder n t) ds ys ++ b ∷ []) (has_same s t ks kt p q a b xs ys pair all)
    all
    (paired_push s t ks kt a b (for_targets (postorder m s) es xs)
    (for_targets (postorder n t) ds ys) pair inner)

after_by : (i j : ℕ) → i ≤ j → (i ≡ j → ⊥) → (i ≡ j) ⊎ ((i < j) ⊎ (j < i)) → i + 1 ≤ j
after_by i j h nope (inl e) = absurd (nope e)
after_by i j h nope (inr (inl k)) = omega (arith, k)
after_by i j h nope (inr (inr k)) = absurd (omega (arith, h, k))

after : (i j : ℕ) → i ≤ j → (i ≡ j → ⊥) → i + 1 ≤ j
after i j h nope = after_by i j h nope (cases_order i j)

at_or_after : (ks kt : List (List Tail)) (n i j : ℕ) → get_or ks i [] ≡ get_or kt i []
    → ((l : ℕ) → i + 1 ≤ l → l < i + 1 + n → get_or ks l [] ≡ get_or kt l []) → i ≤ j
    → j < i + suc n → (i ≡ j) ⊎ (i ≡ j → ⊥) → get_or ks j [] ≡ get_or kt j []
at_or_after ks kt n i j here rest h k (inl e) = subst (λ x. get_or ks x [] ≡ get_or kt x []) e here
at_or_after ks kt n i j here rest h k (inr nope) = rest j (after i j h nope) (omega (arith, k))

paired_from : (s t : List (List Edge)) (ks kt : List (List Tail)) (n m i : ℕ)
    → Paired s t ks kt (from_to n i) (from_to m i)
    → (n ≡ m) × ((j : ℕ) → i ≤ j → j < i + n → get_or ks j [] ≡ get_or kt j [])
paired_from s t ks kt zero zero i all = (refl, λ j h k. absurd (omega (arith, h, k)))
paired_from s t ks kt zero (suc m) i all = absurd all
paired_from s t ks kt (suc n) zero i all = absurd all
paired_from s t ks kt (suc n) (suc m) i all =
    let rest = paired_from s t ks kt n m (i + 1) all.1 in
    (ap suc rest.0, λ j h k. at_or_after ks kt n i j all.0.same rest.1 h k (cases_eq i j))

numbers_same : (ks kt : List (List Tail)) (t : List (List Edge)) → Lawful t kt → (k : ℕ)
    → k ≤ length t → ((j : ℕ) → j < k → get_or ks j [] ≡ get_or kt j []) → (es ds : List Edge)
    → AllByRecursion (λ (e : Edge). e.target.0 < k) es
    → AllByRecursion (λ (e : Edge). e.target.0 < k) ds → AllAlike ks kt es ds
    → same_edges es ds ≡ true
numbers_same ks kt t q k h eq [] [] a b like = refl
numbers_same ks kt t q k h eq [] (d ∷ ds) a b like = absurd like
numbers_same ks kt t q k h eq (e ∷ es) [] a b like = absurd like
numbers_same ks kt t q k h eq (e ∷ es) (d ∷ ds) a b like =
    and_true (eqb e.label d.label) (eqb e.cost d.cost) (eqb e.target.0 d.target.0)
    (same_edges es ds)
    (eq-eqb _ _ like.0.label) (eq-eqb _ _ like.0.cost)
    (eq-eqb _ _ (apart t kt q k h e.target.0 d.target.0 a.0 b.0
    (sym (eq e.target.0 a.0) ∙ like.0.tails)))
    (numbers_same ks kt t q k h eq es ds a.1 b.1 like.1)

-- Two texts whose nodes stand in the order of the walk, and whose roots map the same, have the same
-- nodes.
pub same_nodes : (s t : List (List Edge)) (ks kt : List (List Tail)) → Lawful s ks → Lawful t kt
    → (m n : ℕ) → length s ≡ suc m → length t ≡ suc n → postorder (suc m) s m [] ≡ from_to (suc m) 0
    → postorder (suc n) t n [] ≡ from_to (suc n) 0 → get_or ks m [] ≡ get_or kt n []
    → (m ≡ n) × ((i : ℕ) → i < suc m → same_edges (get_or s i []) (get_or t i []) ≡ true)
    × ((j : ℕ) → j < suc m → get_or ks j [] ≡ get_or kt j [])
same_nodes s t ks kt p q m n ls lt ws wt same =
    let walked = postorder_pair s t ks kt p q (suc m) (suc n) (omega (arith, ls))
    (omega (arith, lt)) m n [] [] (omega (arith)) (omega (arith))
    (record { first = omega (arith, ls); second = omega (arith, lt); same = same }) tt in
    let w : Paired s t ks kt (from_to (suc m) 0) (from_to (suc n) 0) =
    subst (λ x. Paired s t ks kt (from_to (suc m) 0) x) wt
    (subst (λ x. Paired s t ks kt x (postorder (suc n) t n [])) ws walked) in
    let r = paired_from s t ks kt (suc m) (suc n) 0 w in
    let e : m ≡ n = omega (arith, r.0) in (
      e,
      λ i h. numbers_same ks kt t q i (omega (arith, h, e, lt))
          (λ j k. r.1 j (omega (arith)) (omega (arith, k, h))) (get_or s i []) (get_or t i [])
          (p.below i) (q.below i)
          (edges_alike ks kt (get_or s i []) (get_or t i []) (p.rising i) (q.rising i) (p.free i)
          (q.free i) (sym (p.maps i (omega (arith, h, ls)))
          ∙ r.1 i (omega (arith)) (omega (arith, h))
          ∙ q.maps i (omega (arith, h, e, lt)))),
      λ j h. r.1 j (omega (arith)) (omega (arith, h)),
    )
