-- Where the key bytes end.
use Rattle.std.proofs.Common.{◌≡◌, ◌+◌, ℕ, suc, Bool, true, false, cond, nat_eq}
use Rattle.std.proofs.Common.{List, [], ◌∷◌, take, refl, ap, arith}
use Rattle.std.specs.Prelude.{Some, None}
use Rattle.std.specs.List.{position_from}
use Rattle.path_desk.specs.Entries.{key_part}
use Rattle.path_desk.specs.Orders.{ends_key}

found_at : (z : Bool) (b : ℕ) (bs : List ℕ) (i k : ℕ) → nat_eq b 0 ≡ z
    → cond z (Some i) (position_from ends_key (i + 1) bs) ≡ Some k
    → (position_from ends_key (i + 1) bs ≡ Some k
    → (j : ℕ) × (k ≡ (i + 1) + j) × (take j bs ≡ key_part bs))
    → (j : ℕ) × (k ≡ i + j) × (take j (b ∷ bs) ≡ key_part (b ∷ bs))
found_at true b bs i k is e more = let same : i ≡ k = cc in (0, omega (arith, same), rw is refl)
found_at false b bs i k is e more =
    let h = more e in
    let up : k ≡ (i + 1) + h.0 = h.1 in
    (suc h.0, omega (arith, up), rw is (ap (λ zs. b ∷ zs) h.2))

found : (bs : List ℕ) (i k : ℕ) → position_from ends_key i bs ≡ Some k
    → (j : ℕ) × (k ≡ i + j) × (take j bs ≡ key_part bs)
found [] i k e = cc
found (b ∷ bs) i k e = found_at (nat_eq b 0) b bs i k refl e (found bs (i + 1) k)

pub take-key_part : (bs : List ℕ) (k : ℕ) → position_from ends_key 0 bs ≡ Some k
    → take k bs ≡ key_part bs
take-key_part bs k e =
    let h = found bs 0 k e in
    let same : k ≡ 0 + h.0 = h.1 in
    let plain : k ≡ h.0 = omega (arith, same) in
    rw plain h.2

none_at : (z : Bool) (b : ℕ) (bs : List ℕ) (i : ℕ) → nat_eq b 0 ≡ z
    → cond z (Some i) (position_from ends_key (i + 1) bs) ≡ None
    → (position_from ends_key (i + 1) bs ≡ None → bs ≡ key_part bs) → b ∷ bs ≡ key_part (b ∷ bs)
none_at true b bs i is e more = cc
none_at false b bs i is e more = rw is (ap (λ zs. b ∷ zs) (more e))

pub key_part-all : (bs : List ℕ) (i : ℕ) → position_from ends_key i bs ≡ None → bs ≡ key_part bs
key_part-all [] i e = refl
key_part-all (b ∷ bs) i e = none_at (nat_eq b 0) b bs i refl e (key_part-all bs (i + 1))
