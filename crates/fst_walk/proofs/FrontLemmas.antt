-- Paths that begin with given bytes, and lists of them behind bytes.
use Rattle.fst_code.specs.Tails.{Tail, along, spread}
use Rattle.fst_walk.specs.Fronts.{is_front, behind, has_label}
use Rattle.sg_base.specs.ByteStrings.{begins}
use Rattle.sg_base.specs.declared.node.Edge.{Edge}
use Rattle.std.proofs.Common.{◌≡◌, ◌<◌, ◌+◌, ℕ, suc, Bool, true, false, ◌&&◌, ◌||◌, List, [], ◌∷◌}
use Rattle.std.proofs.Common.{◌++◌, length, map, append_assoc, refl, sym, ap, ◌∙◌, arith, eqb}
use Rattle.std.proofs.lemmas.Bool.{or_from}
use Rattle.std.specs.List.{AllByRecursion}
use Rattle.fst_walk.proofs.BeginLemmas.{begins-cancel, longer}

-- no path begins so
abbrev pub Clear : List ℕ → List Tail → Type 0
Clear p ts = AllByRecursion (λ (t : Tail). begins p t.0 ≡ false) ts

or_assoc : (a b c : Bool) → (a || (b || c)) ≡ ((a || b) || c)
or_assoc true b c = refl
or_assoc false b c = refl

pub is_front-append : (xs ys : List Tail) (s : List ℕ)
    → is_front (xs ++ ys) s ≡ (is_front xs s || is_front ys s)
is_front-append [] ys s = refl
is_front-append (x ∷ xs) ys s =
    ap (λ b. begins s x.0 || b) (is_front-append xs ys s) ∙ or_assoc (begins s x.0) _ _

pub clear_front : (p : List ℕ) (ts : List Tail) → Clear p ts → is_front ts p ≡ false
clear_front p [] a = refl
clear_front p (t ∷ ts) a = or_from _ _ a.0 (clear_front p ts a.1)

pub clear-append : (p : List ℕ) (us vs : List Tail) → Clear p us → Clear p vs → Clear p (us ++ vs)
clear-append p [] vs a b = b
clear-append p (u ∷ us) vs a b = (a.0, clear-append p us vs a.1 b)

pub clear-left : (p : List ℕ) (us vs : List Tail) → Clear p (us ++ vs) → Clear p us
clear-left p [] vs a = tt
clear-left p (u ∷ us) vs a = (a.0, clear-left p us vs a.1)

pub clear-right : (p : List ℕ) (us vs : List Tail) → Clear p (us ++ vs) → Clear p vs
clear-right p [] vs a = a
clear-right p (u ∷ us) vs a = clear-right p us vs a.1

pub clear-longer : (p q : List ℕ) (ts : List Tail) → Clear p ts → Clear (p ++ q) ts
clear-longer p q [] a = tt
clear-longer p q (t ∷ ts) a = (longer p q t.0 a.0, clear-longer p q ts a.1)

pub is_front-behind : (p q : List ℕ) (c : ℕ) (ts : List Tail)
    → is_front (behind p c ts) (p ++ q) ≡ is_front ts q
is_front-behind p q c [] = refl
is_front-behind p q c (t ∷ ts) =
    ap (λ b. b || is_front (behind p c ts) (p ++ q)) (begins-cancel p q t.0)
    ∙ ap (λ b. begins q t.0 || b) (is_front-behind p q c ts)

and_or : (b : Bool) → ((b && true) || false) ≡ b
and_or true = refl
and_or false = refl

and_or_same : (b : Bool) → ((b && true) || b) ≡ b
and_or_same true = refl
and_or_same false = refl

-- behind an arc, what begins with a label
under_arc : (l : ℕ) (e : Edge) (ts : List Tail) → 0 < length ts
    → is_front (map (along e) ts) (l ∷ []) ≡ eqb l e.label
under_arc l e [] some = absurd (omega (arith, some))
under_arc l e (t ∷ []) some = and_or (eqb l e.label)
under_arc l e (t ∷ (u ∷ ts)) some =
    ap (λ b. (eqb l e.label && true) || b) (under_arc l e (u ∷ ts) (omega arith))
    ∙ and_or_same (eqb l e.label)

-- each arc's target has a way
abbrev pub AllReach : (ℕ → List Tail) → List Edge → Type 0
AllReach ways = AllByRecursion (λ (e : Edge). 0 < length (ways e.target.0))

pub is_front-spread : (ways : ℕ → List Tail) (l : ℕ) (es : List Edge) → AllReach ways es
    → is_front (spread ways es) (l ∷ []) ≡ has_label l es
is_front-spread ways l [] some = refl
is_front-spread ways l (e ∷ es) some =
    is_front-append (map (along e) (ways e.target.0)) (spread ways es) (l ∷ [])
    ∙ ap (λ b. b || is_front (spread ways es) (l ∷ [])) (under_arc l e (ways e.target.0) some.0)
    ∙ ap (λ b. eqb l e.label || b) (is_front-spread ways l es some.1)

pub behind-append : (p : List ℕ) (c : ℕ) (us vs : List Tail)
    → behind p c (us ++ vs) ≡ behind p c us ++ behind p c vs
behind-append p c [] vs = refl
behind-append p c (u ∷ us) vs =
    ap (λ zs. (p ++ u.0, c + u.1) ∷ zs) (behind-append p c us vs)

pair_same : (a b : List ℕ) (m n : ℕ) → a ≡ b → m ≡ n → (let t : Tail = (a, m) in t) ≡ (b, n)
pair_same a b m n e f = ap (λ z. (z, m)) e ∙ ap (λ z. (b, z)) f

cons_same : {X : Type 0} (x y : X) (xs ys : List X) → x ≡ y → xs ≡ ys → x ∷ xs ≡ y ∷ ys
cons_same x y xs ys e f = ap (λ z. z ∷ xs) e ∙ ap (λ zs. y ∷ zs) f

pub behind-behind : (p q : List ℕ) (c d : ℕ) (ts : List Tail)
    → behind p c (behind q d ts) ≡ behind (p ++ q) (c + d) ts
behind-behind p q c d [] = refl
behind-behind p q c d (t ∷ ts) =
    cons_same _ _ _ _
    (pair_same (p ++ (q ++ t.0)) ((p ++ q) ++ t.0) (c + (d + t.1)) (c + d + t.1)
    (sym (append_assoc p q t.0)) (omega arith))
    (behind-behind p q c d ts)

pub length-behind : (p : List ℕ) (c : ℕ) (ts : List Tail) → length (behind p c ts) ≡ length ts
length-behind p c [] = refl
length-behind p c (t ∷ ts) = ap suc (length-behind p c ts)

pub spread-append : (ways : ℕ → List Tail) (us vs : List Edge)
    → spread ways (us ++ vs) ≡ spread ways us ++ spread ways vs
spread-append ways [] vs = refl
spread-append ways (u ∷ us) vs =
    ap (λ zs. map (along u) (ways u.target.0) ++ zs) (spread-append ways us vs)
    ∙ sym (append_assoc (map (along u) (ways u.target.0)) (spread ways us) (spread ways vs))

front_shorter_at : (a b c d : Bool) → (a ≡ false → c ≡ false) → (b ≡ false → d ≡ false)
    → (a || b) ≡ false → (c || d) ≡ false
front_shorter_at true b c d f g h = cc
front_shorter_at false b c d f g h = or_from c d (f refl) (g h)

-- what no path begins with, none begins with more of
pub front_longer : (ts : List Tail) (p q : List ℕ) → is_front ts p ≡ false
    → is_front ts (p ++ q) ≡ false
front_longer [] p q h = refl
front_longer (t ∷ ts) p q h =
    front_shorter_at (begins p t.0) (is_front ts p) (begins (p ++ q) t.0) (is_front ts (p ++ q))
    (longer p q t.0) (front_longer ts p q) h

front_or : (ts : List Tail) (p q : List ℕ) (b : Bool) → is_front ts p ≡ b
    → is_front ts (p ++ q) ≡ true → b ≡ true
front_or ts p q true e h = refl
front_or ts p q false e h = sym (front_longer ts p q e) ∙ h

pub shorter_front : (ts : List Tail) (c : List ℕ) (l : ℕ) (q : List ℕ)
    → is_front ts (c ++ l ∷ q) ≡ true
    → is_front ts (c ++ l ∷ []) ≡ true
shorter_front ts c l q h =
    front_or ts (c ++ l ∷ []) q (is_front ts (c ++ l ∷ [])) refl
    (ap (is_front ts) (append_assoc c (l ∷ []) q) ∙ h)
