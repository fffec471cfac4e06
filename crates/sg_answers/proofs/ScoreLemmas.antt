-- Ranks of one document and key: which stands first, and the greatest boost of several.
use Rattle.std.proofs.Common.{◌≡◌, ◌⊎◌, inl, inr, ℕ, ◌*◌, ◌<◌, ◌≤◌, true, max}
use Rattle.std.proofs.Common.{List, [], ◌∷◌, Option, Some, None, refl, sym, ap, ◌∙◌, arith, ⊎_elim}
use Rattle.std.proofs.Math.Nat.{mul-le-mul_left}
use Rattle.std.specs.Prelude.{fold, filter_map, option_map}
use Rattle.std.specs.List.{reduce}
use Rattle.std.specs.Ordering.{is_lt, nat_cmp}
use Rattle.std.specs.declared.cmp.Ordering.TheVariants.{Less}
use Rattle.std.proofs.lemmas.Bool.{cases_lt, lt-ltb}
use Rattle.std.proofs.lemmas.Cmp.{tied_itself, nat_cmp_total, nat_list_cmp_total}
use Rattle.sg_base.specs.Ranking.{rank_cmp, rank_cmp_total}
use Rattle.sg_base.specs.declared.rank.Rank.{Rank}
use Rattle.sg_base.proofs.RankLemmas.{rank_cmp_exact}
use Rattle.sg_answers.specs.Scans.{sooner}
use Rattle.sg_answers.proofs.FirstLemmas.{soonest, sooner-itself, sooner-comm}
use Rattle.sg_answers.proofs.FirstLemmas.{sooner-assoc}

-- a rank by its parts
abbrev pub rank_at : List ℕ → ℕ → ℕ → ℕ → Rank
rank_at key seq score place = record { score = score; key = key; seq = seq; place = place }

nat_cmp_less : (m n : ℕ) → m < n → nat_cmp m n ≡ Less
nat_cmp_less m n h = rw (lt-ltb m n h) refl

-- a greater score stands first
pub greater_first : (r q : Rank) → q.score < r.score → is_lt (rank_cmp r q) ≡ true
greater_first r q h = rw (nat_cmp_less q.score r.score h) refl

-- of equal scores the lesser place does
pub earlier_place_first : (key : List ℕ) (seq score : ℕ) (p q : ℕ) → p < q
    → is_lt (rank_cmp (rank_at key seq score p) (rank_at key seq score q)) ≡ true
earlier_place_first key seq score p q h =
    rw (
      tied_itself nat_cmp_total score,
      tied_itself nat_list_cmp_total key,
      tied_itself nat_cmp_total seq,
      nat_cmp_less p q h,
    ) refl

-- of two scores the greater stands first
scores_at : (key : List ℕ) (seq place s t : ℕ) → (s < t) ⊎ (t ≤ s) → (t < s) ⊎ (s ≤ t)
    → sooner rank_cmp (Some (rank_at key seq s place)) (Some (rank_at key seq t place))
    ≡ Some (rank_at key seq (max s t) place)
scores_at key seq place s t (inl less) other =
    let r = rank_at key seq s place in
    let q = rank_at key seq t place in
    let most : max s t ≡ t = omega arith in
    rw (greater_first q r less, most) refl
scores_at key seq place s t (inr not_less) (inl more) =
    let r = rank_at key seq s place in
    let q = rank_at key seq t place in
    let most : max s t ≡ s = omega arith in
    sooner-comm rank_cmp rank_cmp_total rank_cmp_exact (Some r) (Some q)
    ∙ rw (greater_first r q more, most) refl
scores_at key seq place s t (inr not_less) (inr not_more) =
    let tie : t ≡ s = omega arith in
    let most : max s t ≡ s = omega arith in
    rw (most, tie)
    (sooner-itself rank_cmp rank_cmp_total rank_cmp_exact (Some (rank_at key seq s place)))

by_scores : (key : List ℕ) (seq place s t : ℕ)
    → sooner rank_cmp (Some (rank_at key seq s place)) (Some (rank_at key seq t place))
    ≡ Some (rank_at key seq (max s t) place)
by_scores key seq place s t = scores_at key seq place s t (cases_lt s t) (cases_lt t s)

mul-max : (w a b : ℕ) → max (w * a) (w * b) ≡ w * max a b
mul-max w a b =
    ⊎_elim
    (λ (less : a < b).
    let up : a ≤ b = omega arith in
    let most : max a b ≡ b = omega arith in
    rw most (omega (arith, mul-le-mul_left w up)))
    (λ (more : b ≤ a).
    let most : max a b ≡ a = omega arith in
    rw most (omega (arith, mul-le-mul_left w more)))
    (cases_lt a b)

-- of two boosts too
by_boosts : (key : List ℕ) (seq place weight a b : ℕ)
    → sooner rank_cmp (Some (rank_at key seq (weight * a) place))
    (Some (rank_at key seq (weight * b) place))
    ≡ Some (rank_at key seq (weight * max a b) place)
by_boosts key seq place weight a b =
    by_scores key seq place (weight * a) (weight * b)
    ∙ ap (λ n. Some (rank_at key seq n place)) (mul-max weight a b)

-- what a suggestion has of one boost
abbrev pub with_boost : List ℕ → ℕ → ℕ → ℕ → ℕ → Rank
with_boost key seq place weight boost = rank_at key seq (weight * boost) place

module _ {T : Type 0} (boost : T → Option ℕ) (key : List ℕ) (seq place weight : ℕ) where
  -- what it has of some boost
  abbrev of_boost : ℕ → Rank
  of_boost = with_boost key seq place weight

  abbrev ranked : T → Option Rank
  ranked t = option_map of_boost (boost t)

  more_at : (n : ℕ) (t : T) (ts : List T) (o : Option ℕ) → boost t ≡ o
      → ((m : ℕ) → sooner rank_cmp (Some (of_boost m)) (soonest rank_cmp ranked ts)
      ≡ Some (of_boost (fold max m (filter_map boost ts))))
      → sooner rank_cmp (Some (of_boost n)) (soonest rank_cmp ranked (t ∷ ts))
      ≡ Some (of_boost (fold max n (filter_map boost (t ∷ ts))))
  more_at n t ts None is more = rw is (more n)
  more_at n t ts (Some m) is more =
      rw is (sym (sooner-assoc rank_cmp rank_cmp_total rank_cmp_exact
      (Some (of_boost n)) (Some (of_boost m))
      (soonest rank_cmp ranked ts))
      ∙ (ap (λ o. sooner rank_cmp o (soonest rank_cmp ranked ts))
      (by_boosts key seq place weight n m) ∙ more (max n m)))

  more_boosts : (n : ℕ) (ts : List T)
      → sooner rank_cmp (Some (of_boost n)) (soonest rank_cmp ranked ts)
      ≡ Some (of_boost (fold max n (filter_map boost ts)))
  more_boosts n [] = refl
  more_boosts n (t ∷ ts) = more_at n t ts (boost t) refl (λ m. more_boosts m ts)

  greatest_at : (t : T) (ts : List T) (o : Option ℕ) → boost t ≡ o
      → soonest rank_cmp ranked ts
      ≡ option_map of_boost (reduce max (filter_map boost ts))
      → soonest rank_cmp ranked (t ∷ ts)
      ≡ option_map of_boost (reduce max (filter_map boost (t ∷ ts)))
  greatest_at t ts None is later = rw is later
  greatest_at t ts (Some n) is later = rw is (more_boosts n ts)

  -- of several boosts the greatest stands first
  pub greatest_first : (ts : List T) → soonest rank_cmp ranked ts
      ≡ option_map of_boost (reduce max (filter_map boost ts))
  greatest_first [] = refl
  greatest_first (t ∷ ts) = greatest_at t ts (boost t) refl (greatest_first ts)
