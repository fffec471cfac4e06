-- The walk over nodes.
use Rattle.std.proofs.Common.{◌≡◌, ◌<◌, ◌≤◌, ◌+◌, ◌-◌, ℕ, zero, suc, Bool, true, false, ◌||◌, cond}
use Rattle.std.proofs.Common.{eqb, eq-eqb, ne_eqb, List, [], ◌∷◌, ◌++◌, length, get_or, refl, sym}
use Rattle.std.proofs.Common.{ap, subst, ◌∙◌, append_assoc, arith, ◌⊎◌, inl, inr, length-append}
use Rattle.std.specs.List.{AllByRecursion}
use Rattle.std.proofs.lemmas.List.{append-nil, get_or-append_right}
use Rattle.std.proofs.lemmas.Bool.{cases_eq, cases_lt}
use Rattle.sg_base.specs.declared.node.Edge.{Edge}
use Rattle.fst_code.specs.Rules.{has, for_targets, postorder, visit, from_to}
use Rattle.fst_code.proofs.TableLemmas.{Below, Falls}

pub same_targets : {A : Type 0} (f g : ℕ → A → A) (k : ℕ) (es : List Edge) (done : A)
    → ((t : ℕ) (d : A) → t < k → f t d ≡ g t d) → Below k es
    → for_targets f es done ≡ for_targets g es done
same_targets f g k [] done same below = refl
same_targets f g k (e ∷ es) done same below =
    ap (for_targets f es) (same e.target.0 done below.0)
    ∙ same_targets f g k es (g e.target.0 done) same below.1

-- the bound on the depth is of no account once it is over the number
pub postorder_deep : (a b : ℕ) (nodes : List (List Edge)) (id : ℕ) (done : List ℕ) → Falls nodes
    → id < a → id < b → postorder a nodes id done ≡ postorder b nodes id done
unfolding postorder
postorder_deep zero b nodes id done falls h k = absurd (omega (arith, h))
postorder_deep (suc a) zero nodes id done falls h k = absurd (omega (arith, k))
postorder_deep (suc a) (suc b) nodes id done falls h k =
    let same = same_targets (postorder a nodes) (postorder b nodes) id (get_or nodes id []) done
    (λ t d l. postorder_deep a b nodes t d falls (omega (arith, h, l)) (omega (arith, k, l)))
    (falls id) in
    ap (λ (x : List ℕ). cond (has id done) done (x ++ id ∷ [])) same

-- A walk from an old node stays as it was.
pub postorder_more : (deep : ℕ) (ns more : List (List Edge)) (id : ℕ) (done : List ℕ) → Falls ns
    → ((i : ℕ) → i < length ns → get_or more i [] ≡ get_or ns i []) → id < length ns
    → postorder deep more id done ≡ postorder deep ns id done
unfolding postorder
postorder_more zero ns more id done falls kept h = refl
postorder_more (suc deep) ns more id done falls kept h =
    let same = same_targets (postorder deep more) (postorder deep ns) id (get_or ns id []) done
    (λ t d l. postorder_more deep ns more t d falls kept (omega (arith, h, l))) (falls id) in
    ap (λ (es : List Edge). cond (has id done) done
    (for_targets (postorder deep more) es done ++ id ∷ [])) (kept id h)
    ∙ ap (λ (x : List ℕ). cond (has id done) done (x ++ id ∷ [])) same

pub targets_more : (ns more : List (List Edge)) (es : List Edge) (done : List ℕ) → Falls ns
    → ((i : ℕ) → i < length ns → get_or more i [] ≡ get_or ns i []) → Below (length ns) es
    → for_targets (visit more) es done ≡ for_targets (visit ns) es done
targets_more ns more es done falls kept below =
    same_targets (visit more) (visit ns) (length ns) es done
    (λ t d l. postorder_more (suc t) ns more t d falls kept l) below

pub targets_push : {A : Type 0} (f : ℕ → A → A) (es : List Edge) (e : Edge) (done : A)
    → for_targets f (es ++ e ∷ []) done ≡ f e.target.0 (for_targets f es done)
targets_push f [] e done = refl
targets_push f (d ∷ es) e done = targets_push f es e (f d.target.0 done)

-- A walk adds numbers at the end, each below a bound.
abbrev pub AllBelow : ℕ → List ℕ → Type 0
AllBelow k = AllByRecursion (λ (i : ℕ). i < k)

pub record Adds (k : ℕ) (done all : List ℕ) : Type 0 where
  pub more : List ℕ
  pub is : all ≡ done ++ more
  pub below : AllBelow k more

all_weaker : (k m : ℕ) (xs : List ℕ) → k ≤ m → AllBelow k xs → AllBelow m xs
all_weaker k m [] h all = tt
all_weaker k m (x ∷ xs) h all = (omega (arith, h, all.0), all_weaker k m xs h all.1)

all_append : (k : ℕ) (xs ys : List ℕ) → AllBelow k xs → AllBelow k ys → AllBelow k (xs ++ ys)
all_append k [] ys a b = b
all_append k (x ∷ xs) ys a b = (a.0, all_append k xs ys a.1 b)

pub all_front : (k : ℕ) (xs ys : List ℕ) → AllBelow k (xs ++ ys) → AllBelow k xs
all_front k [] ys a = tt
all_front k (x ∷ xs) ys a = (a.0, all_front k xs ys a.1)

pub all_at : (k : ℕ) (xs : List ℕ) (i : ℕ) → AllBelow k xs → i < length xs → get_or xs i 0 < k
all_at k [] i all h = absurd (omega (arith, h))
all_at k (x ∷ xs) zero all h = all.0
all_at k (x ∷ xs) (suc i) all h = all_at k xs i all.1 (omega (arith, h))

adds_none : (k : ℕ) (done : List ℕ) → Adds k done done
adds_none k done = record { more = []; is = sym (append-nil done); below = tt }

adds_on : (k : ℕ) (a b c : List ℕ) → Adds k a b → Adds k b c → Adds k a c
adds_on k a b c g h = record {
  more = g.more ++ h.more;
  is = h.is ∙ ap (λ (x : List ℕ). x ++ h.more) g.is ∙ append_assoc a g.more h.more;
  below = all_append k g.more h.more g.below h.below;
}

pub adds_weaker : (k m : ℕ) (a b : List ℕ) → k ≤ m → Adds k a b → Adds m a b
adds_weaker k m a b h g = record
    { more = g.more; is = g.is; below = all_weaker k m g.more h g.below }

pub targets_add : (f : ℕ → List ℕ → List ℕ) (k : ℕ) (es : List Edge) (done : List ℕ)
    → ((t : ℕ) (d : List ℕ) → t < k → Adds k d (f t d)) → Below k es
    → Adds k done (for_targets f es done)
targets_add f k [] done each below = adds_none k done
targets_add f k (e ∷ es) done each below =
    adds_on k done (f e.target.0 done) (for_targets f es (f e.target.0 done))
    (each e.target.0 done below.0) (targets_add f k es (f e.target.0 done) each below.1)

either_adds : (b : Bool) (id : ℕ) (done next : List ℕ) → Adds id done next
    → Adds (id + 1) done (cond b done (next ++ id ∷ []))
either_adds true id done next g = adds_none (id + 1) done
either_adds false id done next g =
    adds_on (id + 1) done next (next ++ id ∷ []) (adds_weaker id (id + 1) done next (omega arith) g)
    (record { more = id ∷ []; is = refl; below = (omega (arith), tt) })

pub postorder_adds : (deep : ℕ) (ns : List (List Edge)) (id : ℕ) (done : List ℕ) → Falls ns
    → Adds (id + 1) done (postorder deep ns id done)
unfolding postorder
postorder_adds zero ns id done falls = adds_none (id + 1) done
postorder_adds (suc deep) ns id done falls =
    either_adds (has id done) id done (for_targets (postorder deep ns) (get_or ns id []) done)
    (targets_add (postorder deep ns) id (get_or ns id []) done
    (λ t d l. adds_weaker (t + 1) id d (postorder deep ns t d) (omega (arith, l))
    (postorder_adds deep ns t d falls)) (falls id))

pub visits_add : (ns : List (List Edge)) (k : ℕ) (es : List Edge) (done : List ℕ) → Falls ns
    → Below k es → Adds k done (for_targets (visit ns) es done)
visits_add ns k es done falls below =
    targets_add (visit ns) k es done
    (λ t d l. adds_weaker (t + 1) k d (visit ns t d) (omega (arith, l))
    (postorder_adds (suc t) ns t d falls)) below

-- the numbers from one on
pub length-from_to : (n i : ℕ) → length (from_to n i) ≡ n
length-from_to zero i = refl
length-from_to (suc n) i = ap suc (length-from_to n (i + 1))

pub get_or-from_to : (n i k : ℕ) → k < n → get_or (from_to n i) k 0 ≡ i + k
get_or-from_to zero i k h = absurd (omega (arith, h))
get_or-from_to (suc n) i zero h = omega (arith)
get_or-from_to (suc n) i (suc k) h = let ih =
    get_or-from_to n (i + 1) k (omega (arith, h)) in omega (arith, ih)

from_to_suc : (n i : ℕ) → from_to n i ++ (i + n) ∷ [] ≡ from_to (suc n) i
from_to_suc zero i = ap (λ (k : ℕ). k ∷ []) (omega (arith))
from_to_suc (suc n) i = ap (λ (x : List ℕ). i ∷ x)
    (ap (λ (k : ℕ). from_to n (i + 1) ++ k ∷ []) (omega (arith)) ∙ from_to_suc n (i + 1))

pub from_to_more : (n : ℕ) → from_to n 0 ++ n ∷ [] ≡ from_to (n + 1) 0
from_to_more n =
    let z : n ≡ 0 + n = omega (arith) in
    let s : suc n ≡ n + 1 = omega (arith) in
    ap (λ (k : ℕ). from_to n 0 ++ k ∷ []) z ∙ from_to_suc n 0 ∙ ap (λ (k : ℕ). from_to k 0) s

from_to_below : (n i k : ℕ) → i + n ≤ k → AllBelow k (from_to n i)
from_to_below zero i k h = tt
from_to_below (suc n) i k h = (omega (arith, h), from_to_below n (i + 1) k (omega (arith, h)))

or_right : (a b : Bool) → b ≡ true → (a || b) ≡ true
or_right true b e = refl
or_right false b e = e

or_left : (a b : Bool) → a ≡ true → (a || b) ≡ true
or_left a b e = rw e refl

or_neither : (a b : Bool) → a ≡ false → b ≡ false → (a || b) ≡ false
or_neither a b e f = rw (e, f) refl

after : (i k : ℕ) → i ≤ k → (k ≡ i → ⊥) → (i < k) ⊎ (k ≤ i) → i + 1 ≤ k
after i k l ne (inl h) = omega (arith, h)
after i k l ne (inr h) = absurd (ne (omega (arith, l, h)))

has_by : (n i k : ℕ) → i ≤ k → k < i + suc n → ((i + 1 ≤ k) → has k (from_to n (i + 1)) ≡ true)
    → (k ≡ i) ⊎ (k ≡ i → ⊥) → has k (from_to (suc n) i) ≡ true
has_by n i k l h rest (inl e) = or_left (eqb k i) (has k (from_to n (i + 1))) (eq-eqb k i e)
has_by n i k l h rest (inr ne) =
    or_right (eqb k i) (has k (from_to n (i + 1))) (rest (after i k l ne (cases_lt i k)))

pub has-from_to : (n i k : ℕ) → i ≤ k → k < i + n → has k (from_to n i) ≡ true
has-from_to zero i k l h = absurd (omega (arith, l, h))
has-from_to (suc n) i k l h = has_by n i k l h (λ m. has-from_to n (i + 1) k m (omega (arith, h)))
    (cases_eq k i)

has_not : (k : ℕ) (xs : List ℕ) → AllBelow k xs → has k xs ≡ false
has_not k [] all = refl
has_not k (x ∷ xs) all = or_neither (eqb k x) (has k xs) (ne_eqb k x (λ e. omega (arith, e, all.0)))
    (has_not k xs all.1)

-- Where all numbers are left and those of a walk are below one of them, the walk left nothing.
stays : (n i : ℕ) (d more : List ℕ) → d ++ more ≡ from_to n 0 → AllBelow i more → i < n → more ≡ []
stays n i d [] e all h = refl
stays n i d (y ∷ ys) e all h =
    let len : length d + length (y ∷ ys) ≡ n =
    sym (length-append d (y ∷ ys)) ∙ ap (λ (x : List ℕ). length x) e ∙ length-from_to n 0 in
    let a : get_or (y ∷ ys) (length d - length d) 0 ≡ 0 + length d =
    sym (get_or-append_right d (y ∷ ys) (length d) (length d) 0 refl (omega arith))
    ∙ ap (λ (x : List ℕ). get_or x (length d) 0) e
    ∙ get_or-from_to n 0 (length d) (omega (arith, len)) in
    let z : length d - length d ≡ 0 = omega (arith) in
    let y_is : y ≡ length d = ap (λ (k : ℕ). get_or (y ∷ ys) k 0) (sym z) ∙ a ∙ omega (arith) in
    let low : length d < i = omega (arith, y_is, all.0) in
    let b : get_or (y ∷ ys) (i - length d) 0 ≡ 0 + i =
    sym (get_or-append_right d (y ∷ ys) (length d) i 0 refl (omega (arith, low)))
    ∙ ap (λ (x : List ℕ). get_or x i 0) e ∙ get_or-from_to n 0 i h in
    let c = all_at i (y ∷ ys) (i - length d) all (omega (arith, low, len, h)) in
    absurd (omega (arith, b, c))

pub visit_known : (ns : List (List Edge)) (i : ℕ) (done : List ℕ) → has i done ≡ true
    → visit ns i done ≡ done
unfolding postorder
visit_known ns i done h = ap (λ (b : Bool). cond b done
    (for_targets (postorder i ns) (get_or ns i []) done ++ i ∷ [])) h

-- a node that was frozen before
pub found_walk : (ns : List (List Edge)) (i : ℕ) (es : List Edge) (d : List ℕ) → Falls ns
    → Below i es → i < length ns → for_targets (visit ns) es d ≡ from_to (length ns) 0
    → visit ns i d ≡ from_to (length ns) 0
found_walk ns i es d falls below h all =
    let a = visits_add ns i es d falls below in
    let none : a.more ≡ [] = stays (length ns) i d a.more (sym a.is ∙ all) a.below h in
    let whole : d ≡ from_to (length ns) 0 =
    sym (append-nil d) ∙ ap (λ (x : List ℕ). d ++ x) (sym none) ∙ sym a.is ∙ all in
    visit_known ns i d (ap (has i) whole
    ∙ has-from_to (length ns) 0 i (omega arith) (omega (arith, h))) ∙ whole

visit_new : (more : List (List Edge)) (n : ℕ) (done : List ℕ) → has n done ≡ false
    → visit more n done ≡ for_targets (postorder n more) (get_or more n []) done ++ n ∷ []
unfolding postorder
visit_new more n done h = ap (λ (b : Bool). cond b done
    (for_targets (postorder n more) (get_or more n []) done ++ n ∷ [])) h

-- a new node
pub new_walk : (ns more : List (List Edge)) (es : List Edge) (d : List ℕ) → Falls ns
    → ((i : ℕ) → i < length ns → get_or more i [] ≡ get_or ns i [])
    → get_or more (length ns) [] ≡ es → Below (length ns) es
    → for_targets (visit ns) es d ≡ from_to (length ns) 0
    → visit more (length ns) d ≡ from_to (length ns + 1) 0
new_walk ns more es d falls kept new below all =
    let n = length ns in
    let a = visits_add ns n es d falls below in
    let low : AllBelow n (d ++ a.more) =
    subst (AllBelow n) (sym all ∙ a.is) (from_to_below n 0 n (omega arith)) in
    let same : for_targets (postorder n more) es d ≡ for_targets (visit ns) es d =
    same_targets (postorder n more) (visit ns) n es d
    (λ t x l. postorder_more n ns more t x falls kept l
    ∙ postorder_deep n (suc t) ns t x falls l (omega arith)) below in
    visit_new more n d (has_not n d (all_front n d a.more low))
    ∙ ap (λ (x : List Edge). for_targets (postorder n more) x d ++ n ∷ []) new
    ∙ ap (λ (x : List ℕ). x ++ n ∷ []) (same ∙ all)
    ∙ from_to_more n

-- The root's edges don't all lead below a frozen node.
pub root_differs : (ns : List (List Edge)) (i : ℕ) (es : List Edge) → Falls ns → Below i es
    → i < length ns → for_targets (visit ns) es [] ≡ from_to (length ns) 0 → ⊥
root_differs ns i es falls below h all =
    let a = visits_add ns i es [] falls below in
    let none : a.more ≡ [] = stays (length ns) i [] a.more (sym a.is ∙ all) a.below h in
    let empty : [] ≡ from_to (length ns) 0 = sym none ∙ sym a.is ∙ all in
    let len = ap (λ (x : List ℕ). length x) empty in
    let l = length-from_to (length ns) 0 in
    omega (arith, len, l, h)
