-- Texts with an end, and a path's bytes.
use Rattle.std.proofs.Common.{◌≡◌, ℕ, Bool, true, false, cond, eqb, List, [], ◌∷◌, ◌++◌}
use Rattle.std.proofs.Common.{append_assoc, refl, sym, ap, ◌∙◌, arith}
use Rattle.std.specs.Int.{w32, to_be_bytes}
use Rattle.std.proofs.lemmas.Bool.{and_parts}
use Rattle.sg_base.specs.ByteStrings.{lacks, begins}
use Rattle.sg_paths.specs.AllPaths.{FullPath, path_bytes}
use Rattle.sg_paths.proofs.ByteLemmas.{lacks_parts}
use Rattle.path_desk.specs.Entries.{key_part}
use Rattle.best_first.specs.PathMatches.{bytes_of}

-- texts with an end that stands in neither
pub cut_same : (t : ℕ) (c d x y : List ℕ) → lacks t c ≡ true → lacks t d ≡ true
    → c ++ t ∷ x ≡ d ++ t ∷ y → (c ≡ d) × (x ≡ y)
cut_same t [] [] x y p q e = (refl, cc)
cut_same t [] (b ∷ d) x y p q e = let h : t ≡ b = cc in absurd ((lacks_parts t b d q).0 (sym h))
cut_same t (a ∷ c) [] x y p q e = let h : a ≡ t = cc in absurd ((lacks_parts t a c p).0 h)
cut_same t (a ∷ c) (b ∷ d) x y p q e =
    let h : a ≡ b = cc in
    let k : c ++ t ∷ x ≡ d ++ t ∷ y = cc in
    let r = cut_same t c d x y (lacks_parts t a c p).1 (lacks_parts t b d q).1 k in
    (ap (λ z. z ∷ c) h ∙ ap (λ zs. b ∷ zs) r.0, r.1)

-- a path's bytes
pub regroup : (p : FullPath) → path_bytes p ≡ p.entry.context ++ 29 ∷ bytes_of p
regroup p =
    append_assoc p.entry.context (29 ∷ (p.entry.key ++ 0 ∷ [])) (to_be_bytes w32 p.n)
    ∙ ap (λ z. p.entry.context ++ 29 ∷ z) (append_assoc p.entry.key (0 ∷ []) (to_be_bytes w32 p.n))

-- a text without the end that begins what has it, begins what stands before it
pub begins_key : (t : ℕ) (p k n : List ℕ) → lacks t p ≡ true → begins p (k ++ t ∷ n) ≡ true
    → begins p k ≡ true
begins_key t [] k n l h = refl
begins_key t (a ∷ p) [] n l h =
    let r = and_parts (eqb a t) (begins p n) h in
    let e : a ≡ t = same a t r.0 in absurd ((lacks_parts t a p l).0 e)
  where
    same : (x y : ℕ) → eqb x y ≡ true → x ≡ y
    same x y e = grind arith
begins_key t (a ∷ p) (b ∷ k) n l h =
    let r = and_parts (eqb a b) (begins p (k ++ t ∷ n)) h in
    let i = begins_key t p k n (lacks_parts t a p l).1 r.1 in rw (r.0, i) refl

pub key_begins : (p k n : List ℕ) → begins p k ≡ true → begins p (k ++ n) ≡ true
key_begins [] k n h = refl
key_begins (a ∷ p) [] n h = cc
key_begins (a ∷ p) (b ∷ k) n h =
    let r = and_parts (eqb a b) (begins p k) h in
    let i = key_begins p k n r.1 in rw (r.0, i) refl

pub key_is : (k n : List ℕ) → lacks 0 k ≡ true → key_part (k ++ 0 ∷ n) ≡ k
key_is [] n l = refl
key_is (b ∷ k) n l =
    let r = lacks_parts 0 b k l in at (eqb b 0) refl r.0 (key_is k n r.1)
  where
    same : (x y : ℕ) → eqb x y ≡ true → x ≡ y
    same x y e = grind arith

    at : (c : Bool) → eqb b 0 ≡ c → (b ≡ 0 → ⊥) → key_part (k ++ 0 ∷ n) ≡ k
        → cond c [] (b ∷ key_part (k ++ 0 ∷ n)) ≡ b ∷ k
    at true e f h = absurd (f (same b 0 e))
    at false e f h = ap (λ z. b ∷ z) h
