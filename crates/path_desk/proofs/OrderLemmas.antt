-- The orders of entries and of marks.
use Rattle.std.proofs.Common.{◌≡◌, ℕ, Bool}
use Rattle.std.proofs.Common.{List, refl, arith}
use Rattle.std.specs.declared.cmp.Ordering.{Ordering}
use Rattle.std.specs.declared.cmp.Ordering.TheVariants.{Less, Equal, Greater}
use Rattle.std.specs.Cmp.{IsStrictWeakOrder}
use Rattle.std.specs.Cmp.Lexicographic.{slice_cmp}
use Rattle.std.specs.Ordering.{nat_cmp, ordering_then, is_lt}
use Rattle.std.proofs.lemmas.List.MinMax.{ranks_by}
use Rattle.std.proofs.lemmas.Bool.Decides.{nat_tests}
use Rattle.path_desk.specs.Entries.{Queued, entry_cmp, entry_cmp_total, key_part, rest_part}
use Rattle.path_desk.specs.Orders.{tie_cmp}
use Rattle.path_desk.proofs.Lex.{split_same}

abbrev pub entry_lt : Queued → Queued → Bool
entry_lt x y = is_lt (entry_cmp x y)

pub entries_ordered : IsStrictWeakOrder entry_lt
entries_ordered = ranks_by entry_cmp_total (λ (q : Queued). q)

pub ties : (x y : ℕ) → x ≡ y → nat_cmp x y ≡ Equal
ties x y e = grind (arith, nat_tests)

in_the_middle : (o2 o3 o4 c : Ordering) → o3 ≡ Equal → ordering_then o2 o4 ≡ c
    → ordering_then (ordering_then o2 o3) o4 ≡ c
in_the_middle Less o3 o4 c e f = f
in_the_middle Equal Equal o4 c e f = f
in_the_middle Equal Less o4 c e f = cc
in_the_middle Equal Greater o4 c e f = cc
in_the_middle Greater o3 o4 c e f = f

-- within a start the order of ties is that of all bytes
pub tie_cmp-same_start : (a : List ℕ) (m : ℕ) (b : List ℕ) (n : ℕ) → m ≡ n
    → tie_cmp a m b n ≡ slice_cmp nat_cmp a b
tie_cmp-same_start a m b n e =
    in_the_middle (slice_cmp nat_cmp (key_part a) (key_part b)) (nat_cmp m n)
    (slice_cmp nat_cmp (rest_part a) (rest_part b)) _
    (ties m n e) (split_same a b)

not_tied : (o r : Ordering) → (o ≡ Equal → ⊥) → ordering_then o r ≡ o
not_tied Less r f = refl
not_tied Equal r f = absurd (f refl)
not_tied Greater r f = refl

pub other_number : (m n : ℕ) → (m ≡ n → ⊥) → nat_cmp m n ≡ Equal → ⊥
other_number m n f e = f (grind (arith, nat_tests))

then_not_tied : (o p : Ordering) → (p ≡ Equal → ⊥) → ordering_then o p ≡ Equal → ⊥
then_not_tied Less p f e = cc
then_not_tied Equal p f e = f e
then_not_tied Greater p f e = cc

-- between starts the rest doesn't matter
pub tie_cmp-other_start : (a : List ℕ) (m : ℕ) (b : List ℕ) (n : ℕ) → (m ≡ n → ⊥)
    → tie_cmp a m b n ≡ ordering_then (slice_cmp nat_cmp (key_part a) (key_part b)) (nat_cmp m n)
tie_cmp-other_start a m b n f =
    not_tied (ordering_then (slice_cmp nat_cmp (key_part a) (key_part b)) (nat_cmp m n))
    (slice_cmp nat_cmp (rest_part a) (rest_part b))
    (then_not_tied _ (nat_cmp m n) (other_number m n f))
