-- The least cost of edges, one after the other.
use Rattle.std.proofs.Common.{◌≡◌, ◌<◌, ◌≤◌, ℕ, zero, suc, List, [], ◌∷◌, ◌++◌, min, length, get_or}
use Rattle.std.proofs.Common.{refl, sym, ap, ◌∙◌, arith}
use Rattle.std.specs.List.{AllByRecursion}
use Rattle.sg_base.specs.declared.node.Edge.{Edge}
use Rattle.fst_build.specs.Building.{least_of}
use Rattle.fst_build.proofs.NodeLemmas.{least_le}

abbrev pub least_from : ℕ → List Edge → ℕ
least_from b [] = b
least_from b (e ∷ es) = least_from (min b e.cost) es

least_min : (b c : ℕ) (es : List Edge) → least_from (min b c) es ≡ min c (least_from b es)
least_min b c [] = omega (arith)
least_min b c (e ∷ es) =
    let swap : min (min b c) e.cost ≡ min (min b e.cost) c = omega (arith) in
    ap (λ (k : ℕ). least_from k es) swap ∙ least_min (min b e.cost) c es

least_cons : (e x : Edge) (es : List Edge)
    → least_of (e ∷ es ++ x ∷ []) ≡ min e.cost (least_of (es ++ x ∷ []))
least_cons e x [] = refl
least_cons e x (d ∷ es) = refl

pub least_of-push : (x : Edge) (es : List Edge) → least_from x.cost es ≡ least_of (es ++ x ∷ [])
least_of-push x [] = refl
least_of-push x (e ∷ es) =
    least_min x.cost e.cost es ∙ ap (min e.cost) (least_of-push x es) ∙ sym (least_cons e x es)

all_at : (P : Edge → Type 0) (es : List Edge) (i : ℕ) (d : Edge) → AllByRecursion P es
    → i < length es → P (get_or es i d)
all_at P [] i d all h = absurd (omega (arith, h))
all_at P (e ∷ es) zero d all h = all.0
all_at P (e ∷ es) (suc i) d all h = all_at P es i d all.1 (omega (arith, h))

all_front : (P : Edge → Type 0) (es : List Edge) (x : Edge) → AllByRecursion P (es ++ x ∷ [])
    → AllByRecursion P es
all_front P [] x all = tt
all_front P (e ∷ es) x all = (all.0, all_front P es x all.1)

pub all_last : (P : Edge → Type 0) (es : List Edge) (x : Edge) → AllByRecursion P (es ++ x ∷ []) → P x
all_last P [] x all = all.0
all_last P (e ∷ es) x all = all_last P es x all.1

pub least_at : (es : List Edge) (x d : Edge) (i : ℕ) → i < length es
    → least_of (es ++ x ∷ []) ≤ (get_or es i d).cost
least_at es x d i h =
    all_at (λ (e : Edge). least_of (es ++ x ∷ []) ≤ e.cost) es i d
    (all_front (λ (e : Edge). least_of (es ++ x ∷ []) ≤ e.cost) es x (least_le (es ++ x ∷ [])))
    h

pub least_last : (es : List Edge) (x : Edge) → least_of (es ++ x ∷ []) ≤ x.cost
least_last es x =
    all_last (λ (e : Edge). least_of (es ++ x ∷ []) ≤ e.cost) es x (least_le (es ++ x ∷ []))
