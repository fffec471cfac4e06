-- Rising labels by places, and what a test finds first.
use Rattle.fst_code.specs.Transducers.{Rises}
use Rattle.fst_walk.specs.Arcs.{has_that_label, is_from}
use Rattle.sg_base.specs.declared.node.Edge.{Edge}
use Rattle.std.proofs.Common.{◌≡◌, ◌≤◌, ◌<◌, ◌+◌, ℕ, zero, suc, Bool, true, false, List, []}
use Rattle.std.proofs.Common.{◌∷◌, ◌++◌, length, get_or, refl, sym, ap, ◌∙◌, subst, arith, eq-eqb}
use Rattle.std.proofs.Common.{◌⊎◌, inl, inr, Some, None, cond}
use Rattle.std.proofs.lemmas.Bool.{ne_eqb, cases_order, and_left, le-leb, lt-leb, and_from}
use Rattle.std.proofs.lemmas.Bool.{not_from_false, not_from_true, and_right}
use Rattle.std.specs.List.{AllByRecursion, find}

-- the first that a test finds stands among others
pub record Split (p : Edge → Bool) (es : List Edge) (e : Edge) : Type 0 where
  pub front : List Edge
  pub rest : List Edge
  pub is : es ≡ front ++ e ∷ rest
  pub none : AllByRecursion (λ (u : Edge). p u ≡ false) front
  pub test : p e ≡ true

split_at : (p : Edge → Bool) (d : Edge) (es : List Edge) (e : Edge) (b : Bool) → p d ≡ b
    → cond b (Some d) (find p es) ≡ Some e → (find p es ≡ Some e → Split p es e)
    → Split p (d ∷ es) e
split_at p d es e true is h f =
    let same : d ≡ e = cc in
    record {
      front = [];
      rest = es;
      is = ap (λ (x : Edge). x ∷ es) same;
      none = tt;
      test = ap p (sym same) ∙ is;
    }
split_at p d es e false is h f =
    let s = f h in
    record {
      front = d ∷ s.front;
      rest = s.rest;
      is = ap (λ (xs : List Edge). d ∷ xs) s.is;
      none = (is, s.none);
      test = s.test;
    }

pub find_split : (p : Edge → Bool) (es : List Edge) (e : Edge) → find p es ≡ Some e → Split p es e
find_split p [] e h = cc
find_split p (d ∷ es) e h = split_at p d es e (p d) refl h (find_split p es e)

none_at : (p : Edge → Bool) (d : Edge) (es : List Edge) (b : Bool) → p d ≡ b
    → cond b (Some d) (find p es) ≡ None
    → (find p es ≡ None → AllByRecursion (λ (u : Edge). p u ≡ false) es)
    → AllByRecursion (λ (u : Edge). p u ≡ false) (d ∷ es)
none_at p d es true is h f = cc
none_at p d es false is h f = (is, f h)

pub find_none : (p : Edge → Bool) (es : List Edge) → find p es ≡ None
    → AllByRecursion (λ (u : Edge). p u ≡ false) es
find_none p [] h = tt
find_none p (d ∷ es) h = none_at p d es (p d) refl h (find_none p es)

all_at : (P : Edge → Type 0) (es : List Edge) (i : ℕ) (d : Edge) → i < length es
    → AllByRecursion P es → P (get_or es i d)
all_at P [] i d h a = absurd (omega (arith, h))
all_at P (e ∷ es) zero d h a = a.0
all_at P (e ∷ es) (suc i) d h a = all_at P es i d (omega (arith, h)) a.1

pub rises_at : (es : List Edge) → Rises es → (i j : ℕ) (d : Edge) → i < j → j < length es
    → (get_or es i d).label < (get_or es j d).label
rises_at [] r i j d h k = absurd (omega (arith, k))
rises_at (e ∷ es) r i zero d h k = absurd (omega (arith, h))
rises_at (e ∷ es) r zero (suc j) d h k =
    all_at (λ (x : Edge). e.label < x.label) es j d (omega (arith, k)) r.0
rises_at (e ∷ es) r (suc i) (suc j) d h k =
    rises_at es r.1 i j d (omega (arith, h)) (omega (arith, k))

upto_by : (es : List Edge) → Rises es → (m x k : ℕ) (d : Edge) → m < length es
    → (get_or es m d).label < x
    → k < m + 1 → (k ≡ m) ⊎ ((k < m) ⊎ (m < k)) → (get_or es k d).label < x
upto_by es r m x k d h l b (inl e) = subst (λ i. (get_or es i d).label < x) (sym e) l
upto_by es r m x k d h l b (inr (inl p)) = let q = rises_at es r k m d p h in omega (arith, q, l)
upto_by es r m x k d h l b (inr (inr p)) = absurd (omega (arith, b, p))

-- all up to one that is below
pub upto : (es : List Edge) → Rises es → (m x k : ℕ) (d : Edge) → m < length es
    → (get_or es m d).label < x
    → k < m + 1 → (get_or es k d).label < x
upto es r m x k d h l b = upto_by es r m x k d h l b (cases_order k m)

onwards_by : (es : List Edge) → Rises es → (m x k : ℕ) (d : Edge) → x ≤ (get_or es m d).label
    → m ≤ k → k < length es → (k ≡ m) ⊎ ((k < m) ⊎ (m < k)) → x ≤ (get_or es k d).label
onwards_by es r m x k d l a b (inl e) = subst (λ i. x ≤ (get_or es i d).label) (sym e) l
onwards_by es r m x k d l a b (inr (inl p)) = absurd (omega (arith, a, p))
onwards_by es r m x k d l a b (inr (inr p)) = let q = rises_at es r m k d p b in omega (arith, q, l)

-- all from one that isn't below
pub onwards : (es : List Edge) → Rises es → (m x k : ℕ) (d : Edge) → x ≤ (get_or es m d).label
    → m ≤ k → k < length es → x ≤ (get_or es k d).label
onwards es r m x k d l a b = onwards_by es r m x k d l a b (cases_order k m)

pub find_here : (p : Edge → Bool) (es : List Edge) (i : ℕ) (d : Edge) → i < length es
    → ((k : ℕ) → k < i → p (get_or es k d) ≡ false) → p (get_or es i d) ≡ true
    → find p es ≡ Some (get_or es i d)
find_here p [] i d h none here = absurd (omega (arith, h))
find_here p (e ∷ es) zero d h none here = rw here refl
find_here p (e ∷ es) (suc i) d h none here =
    rw (none 0 (omega arith)) (find_here p es i d (omega (arith, h))
    (λ k b. none (suc k) (omega (arith, b))) here)

pub find_nowhere : (p : Edge → Bool) (es : List Edge) (d : Edge)
    → ((k : ℕ) → k < length es → p (get_or es k d) ≡ false) → find p es ≡ None
find_nowhere p [] d none = refl
find_nowhere p (e ∷ es) d none =
    rw (none 0 (omega arith)) (find_nowhere p es d (λ k b. none (suc k) (omega (arith, b))))

pub label_below : (e : Edge) (x : ℕ) → e.label < x → has_that_label x e ≡ false
label_below e x h = ne_eqb e.label x (λ k. omega (arith, h, k))

pub label_above : (e : Edge) (x : ℕ) → x < e.label → has_that_label x e ≡ false
label_above e x h = ne_eqb e.label x (λ k. omega (arith, h, k))

pub from_below : (e : Edge) (x : ℕ) → e.label < x → is_from x e ≡ false
from_below e x h = and_left _ _ (lt-leb x e.label h)

pub from_end : (e : Edge) (x : ℕ) → e.label ≡ 29 → is_from x e ≡ false
from_end e x h = and_right _ _ (not_from_true _ (eq-eqb e.label 29 h))

pub from_here : (e : Edge) (x : ℕ) → x ≤ e.label → (e.label ≡ 29 → ⊥) → is_from x e ≡ true
from_here e x h n = and_from _ _ (le-leb x e.label h) (not_from_false _ (ne_eqb e.label 29 n))

pub with_by : (es : List Edge) → Rises es → (i x : ℕ) (d : Edge)
    → ((k : ℕ) → k < i → (get_or es k d).label < x) → i < length es → x < (get_or es i d).label
    → (k : ℕ) → k < length es → (k < i) ⊎ (i ≤ k) → has_that_label x (get_or es k d) ≡ false
with_by es r i x d below h l k b (inl p) = label_below (get_or es k d) x (below k p)
with_by es r i x d below h l k b (inr p) =
    let q = onwards es r i (x + 1) k d (omega (arith, l)) p b in
    label_above (get_or es k d) x (omega (arith, q))

abbrev pub no_edge : Edge
no_edge = record { label = 0; cost = 0; before = 0; target = record { 0 = 0 } }

not_yet_by : (es : List Edge) (i x k : ℕ) → ((j : ℕ) → j < i → (get_or es j no_edge).label < x)
    → (get_or es i no_edge).label ≡ 29 → k < i + 1 → (k ≡ i) ⊎ ((k < i) ⊎ (i < k))
    → is_from x (get_or es k no_edge) ≡ false
not_yet_by es i x k below is h (inl e) =
    from_end (get_or es k no_edge) x (ap (λ j. (get_or es j no_edge).label) e ∙ is)
not_yet_by es i x k below is h (inr (inl p)) = from_below (get_or es k no_edge) x (below k p)
not_yet_by es i x k below is h (inr (inr p)) = absurd (omega (arith, h, p))

pub not_yet : (es : List Edge) (i x k : ℕ) → ((j : ℕ) → j < i → (get_or es j no_edge).label < x)
    → (get_or es i no_edge).label ≡ 29 → k < i + 1 → is_from x (get_or es k no_edge) ≡ false
not_yet es i x k below is h = not_yet_by es i x k below is h (cases_order k i)
