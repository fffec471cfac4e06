-- Tables over nodes: what stands at a node comes from its edges, and stays when nodes are added.
use Rattle.std.proofs.Common.{◌≡◌, ◌<◌, ◌+◌, ℕ, zero, suc, List, [], ◌∷◌, ◌++◌, map, length, get_or}
use Rattle.std.proofs.Common.{refl, sym, ap, subst, ◌∙◌, arith}
use Rattle.std.specs.List.{flat_map, sum_by, AllByRecursion}
use Rattle.std.proofs.lemmas.List.{length_push, get_or_append_left, get_or_push}
use Rattle.std.proofs.lemmas.List.Sums.{sum_by-cons}
use Rattle.sg_base.specs.declared.node.Edge.{Edge}
use Rattle.fst_code.specs.Tails.{Tail, table, along, mapped, counted, dearest, longest}

abbrev pub Below : ℕ → List Edge → Type 0
Below k = AllByRecursion (λ (e : Edge). e.target.0 < k)

-- each target is less than its node's number
abbrev pub Falls : List (List Edge) → Type 0
Falls ns = (id : ℕ) → Below id (get_or ns id [])

-- A step looks at nothing but the entries of targets.
abbrev pub IsLocal : {A : Type 0} → A → (List A → List Edge → A) → Type 0
IsLocal {A} z step = (a b : List A) (k : ℕ) (es : List Edge) → Below k es
    → ((i : ℕ) → i < k → get_or a i z ≡ get_or b i z) → step a es ≡ step b es

pub table-append : {A : Type 0} (step : List A → List Edge → A) (done : List A)
    (xs ys : List (List Edge)) → table step done (xs ++ ys) ≡ table step (table step done xs) ys
table-append step done [] ys = refl
table-append step done (x ∷ xs) ys = table-append step (done ++ step done x ∷ []) xs ys

pub length-table : {A : Type 0} (step : List A → List Edge → A) (done : List A)
    (ns : List (List Edge)) → length (table step done ns) ≡ length done + length ns
length-table step done [] = omega (arith)
length-table step done (n ∷ ns) =
    let ih = length-table step (done ++ step done n ∷ []) ns in
    let one = length_push done (step done n) in
    omega (arith, ih, one)

pub table_keeps : {A : Type 0} (step : List A → List Edge → A) (done : List A)
    (ns : List (List Edge)) (i : ℕ) (d : A) → i < length done
    → get_or (table step done ns) i d ≡ get_or done i d
table_keeps step done [] i d h = refl
table_keeps step done (n ∷ ns) i d h =
    let one = length_push done (step done n) in
    table_keeps step (done ++ step done n ∷ []) ns i d (omega (arith, one, h))
    ∙ get_or_append_left done (step done n ∷ []) d i h

-- what stands at a node
at_from : {A : Type 0} (z : A) (step : List A → List Edge → A) → IsLocal z step
    → (done : List A) (ns : List (List Edge)) (k : ℕ) → k < length ns
    → ((i : ℕ) → Below (length done + i) (get_or ns i []))
    → get_or (table step done ns) (length done + k) z ≡ step (table step done ns) (get_or ns k [])
at_from z step local done [] k h falls = absurd (omega (arith, h))
at_from z step local done (n ∷ ns) zero h falls =
    let one = length_push done (step done n) in
    let next = done ++ step done n ∷ [] in
    table_keeps step next ns (length done + 0) z (omega (arith, one))
    ∙ get_or_push done (step done n) z (length done + 0) (omega arith)
    ∙ local done (table step next ns) (length done + 0) n (falls 0)
    (λ i l. sym (table_keeps step next ns i z (omega (arith, l, one))
    ∙ get_or_append_left done (step done n ∷ []) z i (omega (arith, l))))
at_from z step local done (n ∷ ns) (suc k) h falls =
    let one = length_push done (step done n) in
    let next = done ++ step done n ∷ [] in
    let p : length done + suc k ≡ length next + k = omega (arith, one) in
    ap (λ (i : ℕ). get_or (table step next ns) i z) p
    ∙ at_from z step local next ns k (omega (arith, h))
    (λ i. subst (λ (m : ℕ). Below m (get_or ns i [])) (omega (arith, one)) (falls (suc i)))

pub table_at : {A : Type 0} (z : A) (step : List A → List Edge → A) → IsLocal z step
    → (ns : List (List Edge)) (k : ℕ) → k < length ns → Falls ns
    → get_or (table step [] ns) k z ≡ step (table step [] ns) (get_or ns k [])
table_at z step local ns k h falls =
    let p : k ≡ 0 + k = omega (arith) in
    ap (λ (i : ℕ). get_or (table step [] ns) i z) p
    ∙ at_from z step local [] ns k h
    (λ i. subst (λ (m : ℕ). Below m (get_or ns i [])) (omega (arith)) (falls i))

-- what stands there stays when a node is added
pub table_old : {A : Type 0} (z : A) (step : List A → List Edge → A) (ns : List (List Edge))
    (x : List Edge) (i : ℕ) → i < length ns
    → get_or (table step [] (ns ++ x ∷ [])) i z ≡ get_or (table step [] ns) i z
table_old z step ns x i h =
    let len = length-table step [] ns in
    ap (λ t. get_or t i z) (table-append step [] ns (x ∷ []))
    ∙ get_or_append_left (table step [] ns) (step (table step [] ns) x ∷ []) z i
    (omega (arith, len, h))

-- the steps are local
flat_local : (a b : List (List Tail)) (k : ℕ) (es : List Edge) → Below k es
    → ((i : ℕ) → i < k → get_or a i [] ≡ get_or b i [])
    → flat_map (λ (x : Edge). map (along x) (get_or a x.target.0 [])) es
    ≡ flat_map (λ (x : Edge). map (along x) (get_or b x.target.0 [])) es
flat_local a b k [] below same = refl
flat_local a b k (e ∷ es) below same =
    rw (same e.target.0 below.0, flat_local a b k es below.1 same) refl

pub mapped_local : IsLocal [] mapped
mapped_local a b k [] below same = refl
mapped_local a b k (e ∷ es) below same = flat_local a b k (e ∷ es) below same

sum_local : (a b : List ℕ) (k : ℕ) (es : List Edge) → Below k es
    → ((i : ℕ) → i < k → get_or a i 0 ≡ get_or b i 0)
    → sum_by (λ (x : Edge). get_or a x.target.0 0) es
    ≡ sum_by (λ (x : Edge). get_or b x.target.0 0) es
sum_local a b k [] below same = refl
sum_local a b k (e ∷ es) below same =
    let one = same e.target.0 below.0 in
    let ih = sum_local a b k es below.1 same in
    let x = sum_by-cons (λ (x : Edge). get_or a x.target.0 0) e es in
    let y = sum_by-cons (λ (x : Edge). get_or b x.target.0 0) e es in
    omega (arith, one, ih, x, y)

pub counted_local : IsLocal 0 counted
counted_local a b k [] below same = refl
counted_local a b k (e ∷ es) below same = sum_local a b k (e ∷ es) below same

pub dearest_local : IsLocal 0 dearest
dearest_local a b k [] below same = refl
dearest_local a b k (e ∷ es) below same =
    rw (same e.target.0 below.0, dearest_local a b k es below.1 same) refl

pub longest_local : IsLocal 0 longest
longest_local a b k [] below same = refl
longest_local a b k (e ∷ es) below same =
    rw (same e.target.0 below.0, longest_local a b k es below.1 same) refl
