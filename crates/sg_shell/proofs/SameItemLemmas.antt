-- Lists with the same items are the same in order.
use Rattle.std.proofs.Common.{◌≡◌, ◌+◌, ℕ, List, [], ◌∷◌, refl, sym, ap, ◌∙◌, zero-add, Ordering}
use Rattle.std.proofs.Common.{Option, Some, None}
use Rattle.std.specs.Prelude.{filter_map}
use Rattle.std.specs.declared.cmp.Ordering.TheVariants.{Equal}
use Rattle.std.specs.Cmp.{IsTotalOrder}
use Rattle.sg_base.specs.Ranking.{in_order}
use Rattle.sg_base.proofs.Sorting as sorting
use Rattle.segment.specs.Items.{total_of, HaveSameItems}

module _ {X : Type 0} (R : X → X → Ordering) (total : IsTotalOrder R)
    (same : (x y : X) → R x y ≡ Equal → x ≡ y) where
  one_sum : (f : X → ℕ) (xs : List X) → sorting.total_of R total same f xs ≡ total_of f xs
  one_sum f [] = refl
  one_sum f (x ∷ xs) = ap (λ n. f x + n) (one_sum f xs)

  pub same_in_order : (xs ys : List X) → HaveSameItems xs ys → in_order R xs ≡ in_order R ys
  same_in_order xs ys sums =
      sorting.rising_unique R total same (in_order R xs) (in_order R ys)
      (sorting.rises-in_order R total same xs) (sorting.rises-in_order R total same ys)
      (λ f. sorting.total_of-in_order R total same f xs ∙ one_sum f xs ∙ sums f
      ∙ sym (one_sum f ys) ∙ sym (sorting.total_of-in_order R total same f ys))

-- a sum over what there may be
abbrev sum_if : {Y : Type 0} → (Y → ℕ) → Option Y → ℕ
sum_if f None = 0
sum_if f (Some y) = f y

total_of-filter_map : {X Y : Type 0} (f : Y → ℕ) (g : X → Option Y) (xs : List X)
    → total_of f (filter_map g xs) ≡ total_of (λ x. sum_if f (g x)) xs
total_of-filter_map {X} {Y} f g [] = refl
total_of-filter_map {X} {Y} f g (x ∷ xs) = by_option (g x) refl (total_of-filter_map f g xs)
  where
    by_option : (o : Option Y) → g x ≡ o
        → total_of f (filter_map g xs) ≡ total_of (λ z. sum_if f (g z)) xs
        → total_of f (filter_map g (x ∷ xs)) ≡ sum_if f (g x) + total_of (λ z. sum_if f (g z)) xs
    by_option None is e = rw is (e ∙ sym (zero-add (total_of (λ z. sum_if f (g z)) xs)))
    by_option (Some y) is e = rw is (ap (λ (n : ℕ). f y + n) e)

pub same_filter_map : {X Y : Type 0} (g : X → Option Y) (xs ys : List X) → HaveSameItems xs ys
    → HaveSameItems (filter_map g xs) (filter_map g ys)
same_filter_map g xs ys same f =
    total_of-filter_map f g xs ∙ same (λ x. sum_if f (g x)) ∙ sym (total_of-filter_map f g ys)
