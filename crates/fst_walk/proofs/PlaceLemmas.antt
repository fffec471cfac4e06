-- The place of a node in the list of paths, and the place behind an arc.
use Rattle.fst_code.specs.Tails.{Tail, along, spread}
use Rattle.fst_walk.specs.Fronts.{is_front, behind}
use Rattle.fst_walk.specs.Spots.{IsPlace}
use Rattle.sg_base.specs.ByteStrings.{begins}
use Rattle.sg_base.specs.declared.node.Edge.{Edge}
use Rattle.std.proofs.Common.{◌≡◌, ◌≤◌, ◌<◌, ◌+◌, ℕ, Bool, true, false, ◌&&◌, ◌||◌, List, []}
use Rattle.std.proofs.Common.{◌∷◌, ◌++◌, length, map, append_assoc, length-append, refl, sym, ap}
use Rattle.std.proofs.Common.{◌∙◌, subst, arith, eqb, cond}
use Rattle.std.specs.List.{AllByRecursion}
use Rattle.fst_walk.proofs.BeginLemmas.{begins-append, begins-cancel}
use Rattle.fst_walk.proofs.FrontLemmas.{Clear, behind-append, behind-behind, clear-append}
use Rattle.fst_walk.proofs.FrontLemmas.{clear-left, clear-longer, clear-right, clear_front}
use Rattle.fst_walk.proofs.FrontLemmas.{is_front-append, is_front-behind, length-behind}
use Rattle.fst_walk.proofs.FrontLemmas.{spread-append}

middle_alone : (b m a : Bool) → b ≡ false → a ≡ false → ((b || m) || a) ≡ m
middle_alone true m a e f = cc
middle_alone false true a e f = refl
middle_alone false false a e f = f

-- what goes on from a place
pub place_front : (paths : List Tail) (ways : ℕ → List Tail) (p q : List ℕ) (n c o : ℕ)
    → IsPlace paths ways p n c o → is_front paths (p ++ q) ≡ is_front (ways n) q
place_front paths ways p q n c o at =
    let clear : Clear (p ++ q) (at.before ++ at.after) = clear-longer p q _ at.others in
    let b : is_front at.before (p ++ q) ≡ false =
    clear_front _ _ (clear-left (p ++ q) at.before at.after clear) in
    let a : is_front at.after (p ++ q) ≡ false =
    clear_front _ _ (clear-right (p ++ q) at.before at.after clear) in
    ap (λ (ts : List Tail). is_front ts (p ++ q)) at.is
    ∙ is_front-append (at.before ++ behind p c (ways n)) at.after (p ++ q)
    ∙ ap (λ z. z || is_front at.after (p ++ q))
    (is_front-append at.before (behind p c (ways n)) (p ++ q))
    ∙ middle_alone (is_front at.before (p ++ q)) (is_front (behind p c (ways n)) (p ++ q))
    (is_front at.after (p ++ q)) b a
    ∙ is_front-behind p q c (ways n)

-- labels on either side of an arc
abbrev pub OtherLabels : ℕ → List Edge → Type 0
OtherLabels l = AllByRecursion (λ (u : Edge). eqb l u.label ≡ false)

off : (b : Bool) → b ≡ false → (b && true) ≡ false
off true e = cc
off false e = refl

other_label : (p : List ℕ) (l m : ℕ) (bs : List ℕ) → eqb l m ≡ false
    → begins (p ++ l ∷ []) (p ++ m ∷ bs) ≡ false
other_label p l m bs e = begins-cancel p (l ∷ []) (m ∷ bs) ∙ off (eqb l m) e

clear-arc : (p : List ℕ) (l c : ℕ) (u : Edge) (ts : List Tail) → eqb l u.label ≡ false
    → Clear (p ++ l ∷ []) (behind p c (map (along u) ts))
clear-arc p l c u [] e = tt
clear-arc p l c u (t ∷ ts) e = (other_label p l u.label t.0 e, clear-arc p l c u ts e)

clear-arcs : (ways : ℕ → List Tail) (p : List ℕ) (l c : ℕ) (us : List Edge) → OtherLabels l us
    → Clear (p ++ l ∷ []) (behind p c (spread ways us))
clear-arcs ways p l c [] o = tt
clear-arcs ways p l c (u ∷ us) o =
    subst (Clear (p ++ l ∷ []))
    (sym (behind-append p c (map (along u) (ways u.target.0)) (spread ways us)))
    (clear-append (p ++ l ∷ []) _ _ (clear-arc p l c u (ways u.target.0) o.0)
    (clear-arcs ways p l c us o.1))

regroup : (b us m vs a : List Tail) → b ++ (us ++ (m ++ vs)) ++ a ≡ (b ++ us) ++ m ++ (vs ++ a)
regroup b us m vs a = simp append_assoc

middle : (p : List ℕ) (c : ℕ) (b us m vs a x : List Tail) → x ≡ us ++ (m ++ vs)
    → b ++ behind p c x ++ a ≡ (b ++ behind p c us) ++ behind p c m ++ (behind p c vs ++ a)
middle p c b us m vs a x e =
    ap (λ z. b ++ behind p c z ++ a) e
    ∙ ap (λ z. b ++ z ++ a)
    (behind-append p c us (m ++ vs) ∙ ap (λ z. behind p c us ++ z) (behind-append p c m vs))
    ∙ regroup b (behind p c us) (behind p c m) (behind p c vs) a

arc_behind : (p : List ℕ) (c : ℕ) (a : Edge) (ts : List Tail)
    → behind p c (map (along a) ts) ≡ behind (p ++ a.label ∷ []) (c + a.cost) ts
arc_behind p c a ts = behind-behind p (a.label ∷ []) c a.cost ts

-- the place behind an arc, of a node whose labels differ
pub place_behind : (paths : List Tail) (ways : ℕ → List Tail) (p : List ℕ) (n c o : ℕ)
    (us vs : List Edge) (a : Edge) → IsPlace paths ways p n c o
    → ways n ≡ spread ways (us ++ a ∷ vs) → OtherLabels a.label us → OtherLabels a.label vs
    → a.before ≡ length (spread ways us)
    → IsPlace paths ways (p ++ a.label ∷ []) a.target.0 (c + a.cost) (o + a.before)
place_behind paths ways p n c o us vs a s w apart apart' count =
    let l = a.label in
    let q : List ℕ = p ++ l ∷ [] in
    let m : List Tail = map (along a) (ways a.target.0) in
    let w' : ways n ≡ spread ways us ++ (m ++ spread ways vs) =
    w ∙ spread-append ways us (a ∷ vs) in
    let out : Clear q (s.before ++ s.after) = clear-longer p (l ∷ []) _ s.others in
    let b : List Tail = s.before ++ behind p c (spread ways us) in
    let t : List Tail = behind p c (spread ways vs) ++ s.after in
    record {
      before = b;
      after = t;
      is = s.is ∙ middle p c s.before (spread ways us) m (spread ways vs) s.after (ways n) w'
          ∙ ap (λ z. b ++ z ++ t) (arc_behind p c a (ways a.target.0));
      place = length-append s.before (behind p c (spread ways us))
          ∙ (let h = length-behind p c (spread ways us) in let k = s.place in omega arith);
      others = clear-append q b t
          (clear-append q _ _ (clear-left q s.before s.after out) (clear-arcs ways p l c us apart))
          (clear-append q _ _ (clear-arcs ways p l c vs apart')
          (clear-right q s.before s.after out));
    }

-- how much a place costs, and how far it stands
pub place_ordinal : (paths : List Tail) (ways : ℕ → List Tail) (p : List ℕ) (n c o : ℕ)
    → IsPlace paths ways p n c o → o + length (ways n) ≤ length paths
place_ordinal paths ways p n c o at =
    let e = ap length at.is in
    let f = length-append (at.before ++ behind p c (ways n)) at.after in
    let g = length-append at.before (behind p c (ways n)) in
    let h = length-behind p c (ways n) in
    let k = at.place in
    omega (arith, e, f, g, h, k)

all_right : (P : Tail → Type 0) (us vs : List Tail) → AllByRecursion P (us ++ vs)
    → AllByRecursion P vs
all_right P [] vs b = b
all_right P (u ∷ us) vs b = all_right P us vs b.1

first_cost : (most : ℕ) (p : List ℕ) (c : ℕ) (ts after : List Tail) → 0 < length ts
    → AllByRecursion (λ (t : Tail). t.1 ≤ most) (behind p c ts ++ after) → c ≤ most
first_cost most p c [] after h a = absurd (omega (arith, h))
first_cost most p c (t ∷ ts) after h a = omega (arith, a.0)

pub place_cost : (paths : List Tail) (ways : ℕ → List Tail) (p : List ℕ) (n c o most : ℕ)
    → IsPlace paths ways p n c o → 0 < length (ways n)
    → AllByRecursion (λ (t : Tail). t.1 ≤ most) paths → c ≤ most
place_cost paths ways p n c o most at some all =
    let a = subst (AllByRecursion (λ (t : Tail). t.1 ≤ most))
    (at.is ∙ append_assoc at.before (behind p c (ways n)) at.after) all in
    first_cost most p c (ways n) at.after some (all_right (λ (t : Tail). t.1 ≤ most) at.before _ a)

first_bytes : (most : ℕ) (p : List ℕ) (c : ℕ) (ts after : List Tail) → 0 < length ts
    → AllByRecursion (λ (t : Tail). length t.0 ≤ most) (behind p c ts ++ after) → length p ≤ most
first_bytes most p c [] after h a = absurd (omega (arith, h))
first_bytes most p c (t ∷ ts) after h a = let e = length-append p t.0 in omega (arith, a.0, e)

pub place_bytes : (paths : List Tail) (ways : ℕ → List Tail) (p : List ℕ) (n c o most : ℕ)
    → IsPlace paths ways p n c o → 0 < length (ways n)
    → AllByRecursion (λ (t : Tail). length t.0 ≤ most) paths → length p ≤ most
place_bytes paths ways p n c o most at some all =
    let a = subst (AllByRecursion (λ (t : Tail). length t.0 ≤ most))
    (at.is ∙ append_assoc at.before (behind p c (ways n)) at.after) all in
    first_bytes most p c (ways n) at.after some
    (all_right (λ (t : Tail). length t.0 ≤ most) at.before _ a)

-- how many stand before the first that begins so, and how many begin so
abbrev until : List ℕ → List Tail → ℕ
until p [] = 0
until p (t ∷ ts) = cond (begins p t.0) 0 (1 + until p ts)

abbrev many : List ℕ → List Tail → ℕ
many p [] = 0
many p (t ∷ ts) = cond (begins p t.0) 1 0 + many p ts

until_at : (p : List ℕ) (c : ℕ) (b ws a : List Tail) → Clear p b → 0 < length ws
    → until p (b ++ behind p c ws ++ a) ≡ length b
until_at p c [] [] a clear h = absurd (omega (arith, h))
until_at p c [] (w ∷ ws) a clear h = rw (begins-append p w.0) refl
until_at p c (t ∷ b) ws a clear h =
    rw clear.0 (ap (λ n. 1 + n) (until_at p c b ws a clear.1 h) ∙ omega arith)

many-append : (p : List ℕ) (xs ys : List Tail) → many p (xs ++ ys) ≡ many p xs + many p ys
many-append p [] ys = omega arith
many-append p (x ∷ xs) ys = let ih = many-append p xs ys in omega (arith, ih)

many_clear : (p : List ℕ) (xs : List Tail) → Clear p xs → many p xs ≡ 0
many_clear p [] a = refl
many_clear p (x ∷ xs) a = rw a.0 (let ih = many_clear p xs a.1 in omega (arith, ih))

many_behind : (p : List ℕ) (c : ℕ) (ws : List Tail) → many p (behind p c ws) ≡ length ws
many_behind p c [] = refl
many_behind p c (w ∷ ws) = rw (begins-append p w.0)
    (let ih = many_behind p c ws in omega (arith, ih))

many_at : (paths : List Tail) (ways : ℕ → List Tail) (p : List ℕ) (n c o : ℕ)
    → IsPlace paths ways p n c o → many p paths ≡ length (ways n)
many_at paths ways p n c o at =
    let e = ap (many p) at.is in
    let f = many-append p (at.before ++ behind p c (ways n)) at.after in
    let g = many-append p at.before (behind p c (ways n)) in
    let b = many_clear p at.before (clear-left p at.before at.after at.others) in
    let a = many_clear p at.after (clear-right p at.before at.after at.others) in
    let m = many_behind p c (ways n) in
    omega (arith, e, f, g, b, a, m)

before_at : (paths : List Tail) (ways : ℕ → List Tail) (p : List ℕ) (n c o : ℕ)
    → IsPlace paths ways p n c o → 0 < length (ways n) → until p paths ≡ o
before_at paths ways p n c o at h =
    ap (until p) at.is ∙ until_at p c at.before (ways n) at.after
    (clear-left p at.before at.after at.others) h ∙ at.place

-- a front has one place
pub place_unique : (paths : List Tail) (ways : ℕ → List Tail) (p : List ℕ) (n c o m d u : ℕ)
    → IsPlace paths ways p n c o
    → IsPlace paths ways p m d u → 0 < length (ways n) → 0 < length (ways m)
    → (o ≡ u) × (length (ways n) ≡ length (ways m))
place_unique paths ways p n c o m d u a b h k = (
  sym (before_at paths ways p n c o a h) ∙ before_at paths ways p m d u b k,
  sym (many_at paths ways p n c o a) ∙ many_at paths ways p m d u b,
)
