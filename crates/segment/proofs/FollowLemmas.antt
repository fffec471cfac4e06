-- Paths that rise are what a builder takes one after another, and each begins with a context.
use Rattle.std.proofs.Common.{◌≡◌, ◌≤◌, ◌<◌, ◌+◌, ℕ, zero, suc, true, false, cond, ◌⊎◌}
use Rattle.std.proofs.Common.{inl, inr, List, [], ◌∷◌, ◌++◌, length, map, take, get_or, refl, sym}
use Rattle.std.proofs.Common.{ap, ◌∙◌, subst, arith, append_assoc, eqb, ltb, length-append}
use Rattle.std.specs.Prelude.{IfSome, is_none, nat_le}
use Rattle.std.specs.Int.{w32, to_be_bytes}
use Rattle.std.specs.List.{All, AllByRecursion, list_all, position_from}
use Rattle.std.proofs.lemmas.Bool.{and_parts}
use Rattle.std.proofs.lemmas.Bool.Decides.{nat_tests}
use Rattle.std.proofs.lemmas.List.Elements.{recursion_from_All}
use Rattle.sg_base.specs.ReservedBytes.{is_reserved}
use Rattle.sg_base.specs.Contexts.{is_context}
use Rattle.sg_base.specs.Keys.{is_key, is_key_byte}
use Rattle.sg_base.specs.ByteStrings.{is_less}
use Rattle.sg_base.proofs.ByteStringLemmas.{Byte, same, less, more, byte, slice-less}
use Rattle.sg_paths.specs.AllPaths.{FullPath, head_bytes, path_bytes}
use Rattle.sg_paths.specs.PathLaws.{IsLegal, IsAhead, RisesFrom, Rises}
use Rattle.sg_paths.proofs.RiseLemmas.{legal_clean}
use Rattle.fst_code.specs.Tails.{Tail}
use Rattle.fst_build.specs.Sorted.{GoesOn, last_of, MayFollow}
use Rattle.fst_walk.specs.Starts.{HasContext, AllHaveContexts, context_of}
use Rattle.fst_walk.proofs.ContextLemmas.{context_at}
use Rattle.segment.specs.Represents.{path_tail}

clash : {A : Type 0} → false ≡ true → A
clash e = absurd cc

not_less_itself : (xs : List ℕ) → is_less xs xs ≡ false
not_less_itself [] = refl
not_less_itself (x ∷ xs) = by (byte x x) (not_less_itself xs)
  where
    by : Byte x x → is_less xs xs ≡ false → cond (eqb x x) (is_less xs xs) (ltb x x) ≡ false
    by (same p e) h = rw p h
    by (less p q l) h = absurd (omega (arith, l))
    by (more p q l) h = rw (p, q) refl

-- what is less whatever stands behind it, is gone on from
goes_by : (x y : ℕ) (xs ys : List ℕ) → Byte x y
    → ((z : List ℕ) → cond (eqb y x) (is_less (xs ++ z) ys) (ltb x y) ≡ true)
    → (((z : List ℕ) → is_less (xs ++ z) ys ≡ true) → GoesOn xs ys)
    → (x < y) ⊎ ((x ≡ y) × GoesOn xs ys)
goes_by x y xs ys (same p e) h ih = inr (e, ih (λ z. let k = h z in rw p at k))
goes_by x y xs ys (less p q l) h ih = inl l
goes_by x y xs ys (more p q l) h ih = clash (let k = h [] in rw (p, q) at k)

goes : (xs ys : List ℕ) → ((z : List ℕ) → is_less (xs ++ z) ys ≡ true) → GoesOn xs ys
goes [] ys h = clash (sym (not_less_itself ys) ∙ h ys)
goes (x ∷ xs) [] h = clash (h [])
goes (x ∷ xs) (y ∷ ys) h = goes_by x y xs ys (byte x y) h (goes xs ys)

ahead_goes : (xs ys : List ℕ) → IsAhead xs ys → GoesOn xs ys
ahead_goes xs ys h = goes xs ys (λ z. sym (slice-less (xs ++ z) ys) ∙ h z)

-- the next path in the loop
at_from : (x : Tail) (ps : List FullPath) (i : ℕ) (d : FullPath)
    → RisesFrom x.0 (map path_bytes ps) → i < length ps
    → IfSome (last_of (x ∷ map path_tail (take i ps)))
    (λ t. GoesOn t.0 (path_bytes (get_or ps i d)))
at_from x [] i d f h = absurd (omega (arith, h))
at_from x (p ∷ ps) zero d f h = ahead_goes x.0 (path_bytes p) f.0
at_from x (p ∷ ps) (suc i) d f h = at_from (path_tail p) ps i d f.1 (omega (arith, h))

pub may_follow_at : (ps : List FullPath) (i : ℕ) (d : FullPath) → Rises (map path_bytes ps)
    → i < length ps → MayFollow (map path_tail (take i ps)) (path_bytes (get_or ps i d))
may_follow_at [] i d f h = absurd (omega (arith, h))
may_follow_at (p ∷ ps) zero d f h = tt
may_follow_at (p ∷ ps) (suc i) d f h = at_from (path_tail p) ps i d f (omega (arith, h))

-- how long a path is
le_of : (a b : ℕ) → nat_le a b ≡ true → a ≤ b
le_of a b h = grind (arith, nat_tests)

context_fits : (c : List ℕ) → is_context c ≡ true → length c ≤ 63
context_fits c h =
    le_of (length c) 63
    (and_parts (is_none (position_from is_reserved 0 c)) (nat_le (length c) 63) h).1

key_fits : (k : List ℕ) → is_key k ≡ true → length k ≤ 255
key_fits k h =
    le_of (length k) 255 (and_parts (nat_le (length k) 255) (list_all is_key_byte k) h).0

length_head : (c k : List ℕ) → length (c ++ 29 ∷ (k ++ 0 ∷ [])) ≡ length c + length k + 2
length_head c k =
    let a = length-append c (29 ∷ (k ++ 0 ∷ [])) in
    let b = length-append k (0 ∷ []) in
    omega (arith, a, b)

pub path_length : (p : FullPath) → IsLegal p.entry
    → (0 < length (path_bytes p)) × (length (path_bytes p) ≤ 324)
path_length p l =
    let a = length_head p.entry.context p.entry.key in
    let b : length (path_bytes p) ≡ length (head_bytes p.entry) + 4 =
    length-append (head_bytes p.entry) (to_be_bytes w32 p.n) in
    let m : length p.entry.context ≤ 63 = context_fits p.entry.context l.context in
    let n : length p.entry.key ≤ 255 = key_fits p.entry.key l.key in
    (omega (arith, a, b), omega (arith, a, b, m, n))

-- a path begins with its context
pub has_context : (p : FullPath) → IsLegal p.entry → HasContext (path_bytes p)
has_context p l =
    let c = p.entry.context in
    let rest : List ℕ = (p.entry.key ++ 0 ∷ []) ++ to_be_bytes w32 p.n in
    let whole : path_bytes p ≡ c ++ 29 ∷ rest =
    append_assoc c (29 ∷ (p.entry.key ++ 0 ∷ [])) (to_be_bytes w32 p.n) in
    let is : context_of (path_bytes p) ≡ c =
    ap context_of whole ∙ context_at c rest (legal_clean p.entry l).0 in
    record {
      rest = rest;
      is = whole ∙ ap (λ z. z ++ 29 ∷ rest) (sym is);
      fits = subst (λ (z : List ℕ). length z ≤ 63) (sym is)
          (context_fits c l.context);
    }

have_contexts : (ps : List FullPath) → AllByRecursion (λ p. IsLegal p.entry) ps
    → AllHaveContexts (map path_tail ps)
have_contexts [] a = tt
have_contexts (p ∷ ps) a = (has_context p a.0, have_contexts ps a.1)

pub all_have_contexts : (ps : List FullPath) → All (λ p. IsLegal p.entry) ps
    → AllHaveContexts (map path_tail ps)
all_have_contexts ps a = have_contexts ps (recursion_from_All _ ps a)
