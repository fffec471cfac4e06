-- Strict and weak steps of an order that tests whether one stands before another.
use Rattle.std.proofs.Common.{◌≡◌, Bool, true, false, refl, sym, ◌∙◌}
use Rattle.std.specs.Cmp.{IsStrictWeakOrder}

module _ {X : Type 0} (lt : X → X → Bool) (order : IsStrictWeakOrder lt) where
  abbrev pub Below : X → X → Type 0
  Below x y = lt x y ≡ true

  -- x isn't after y
  abbrev pub AtMost : X → X → Type 0
  AtMost x y = lt y x ≡ false

  pub weaken : (x y : X) → Below x y → AtMost x y
  weaken x y h = order.one_way x y h

  pub at_most_itself : (x : X) → AtMost x x
  at_most_itself x = by (lt x x) refl
    where
      by : (b : Bool) → lt x x ≡ b → AtMost x x
      by true e = order.one_way x x e
      by false e = e

  pub at_most_trans : (x y z : X) → AtMost x y → AtMost y z → AtMost x z
  at_most_trans x y z p q = order.chain z y x q p

  pub not_both : (x y : X) → Below x y → AtMost y x → ⊥
  not_both x y p q = let no : true ≡ false = sym p ∙ q in cc

  decided : (x z : X) (b : Bool) → lt x z ≡ b → (lt x z ≡ false → ⊥) → Below x z
  decided x z true e f = e
  decided x z false e f = absurd (f e)

  pub below_at_most : (x y z : X) → Below x y → AtMost y z → Below x z
  below_at_most x y z p q =
      decided x z (lt x z) refl (λ e. not_both x y p (order.chain x z y e q))

  pub at_most_below : (x y z : X) → AtMost x y → Below y z → Below x z
  at_most_below x y z p q =
      decided x z (lt x z) refl (λ e. not_both y z q (order.chain y x z p e))

  pub below_trans : (x y z : X) → Below x y → Below y z → Below x z
  below_trans x y z p q = below_at_most x y z p (weaken y z q)
