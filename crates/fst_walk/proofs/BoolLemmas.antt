-- Tests and what they exclude, and a case of numbers.
use Rattle.std.proofs.Common.{◌≡◌, ◌≤◌, ◌<◌, ◌+◌, ℕ, Bool, true, false, cond, ◌⊎◌, inl, inr, refl}
use Rattle.std.proofs.Common.{sym, arith}

-- false is not true
pub clash : false ≡ true → ⊥
clash e = cc

pub not_both : (b : Bool) → b ≡ true → b ≡ false → ⊥
not_both true e f = cc
not_both false e f = cc

pub either_way : (b c : Bool) → (b ≡ true → c ≡ true) → (c ≡ true → b ≡ true) → b ≡ c
either_way true true f g = refl
either_way true false f g = sym (f refl)
either_way false true f g = g refl
either_way false false f g = refl

pub cond_less : (b d : Bool) (n : ℕ) → (b ≡ true → d ≡ true) → cond b n 0 ≤ cond d n 0
cond_less true true n h = omega arith
cond_less true false n h = absurd (clash (h refl))
cond_less false d n h = omega arith

pub last_or : (i m n : ℕ) → n ≡ m + 1 → i ≤ n → (i < n) ⊎ (n ≤ i) → (i ≤ m) ⊎ (i ≡ n)
last_or i m n e h (inl k) = inl (omega arith)
last_or i m n e h (inr k) = inr (omega arith)
