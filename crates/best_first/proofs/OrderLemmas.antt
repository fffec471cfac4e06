-- With one start the reached paths are the first of the matching paths in order.
use Rattle.std.proofs.Common.{◌≡◌, ◌≤◌, ◌⊎◌, inl, inr, ℕ, suc, true, List, [], ◌∷◌, length, take}
use Rattle.std.proofs.Common.{refl, sym, ap, ◌∙◌, subst, arith}
use Rattle.std.specs.Cmp.Lexicographic.{slice_cmp}
use Rattle.std.specs.Ordering.{is_lt, nat_cmp, ordering_then}
use Rattle.std.specs.Prelude.{None}
use Rattle.sg_base.specs.Lists.{In, Pairs}
use Rattle.sg_base.specs.declared.rank.Rank.{Rank}
use Rattle.path_desk.specs.Desks.{PlainDesk}
use Rattle.path_desk.specs.Entries.{Queued}
use Rattle.path_desk.proofs.OrderLemmas.{entry_lt}
use Rattle.best_first.specs.Exact.{IsInOrder}
use Rattle.best_first.specs.Listings.{IsListing}
use Rattle.best_first.specs.Lists.{Beside}
use Rattle.best_first.specs.Matches.{Match, Ends}
use Rattle.best_first.specs.Progress.{Taken, Progress}
use Rattle.best_first.specs.Segments.{Between}
use Rattle.best_first.proofs.CompleteLemmas.{reached_or_left, reached_in_all}
use Rattle.best_first.proofs.CoverLemmas.{covers-start}
use Rattle.best_first.proofs.DoneLemmas.{between-progress, reached-before}
use Rattle.best_first.proofs.EntryLemmas.{within_start}
use Rattle.best_first.proofs.PrefixLemmas.{match_lt, Distinct, IsFront, prefix_is}
use Rattle.best_first.proofs.PrefixLemmas.{never_before_itself}

pub beside-length : {X Y : Type 0} (R : X → Y → Type 0) (xs : List X) (ys : List Y) → Beside R xs ys
    → length xs ≡ length ys
beside-length R [] [] h = refl
beside-length R [] (y ∷ ys) h = elim h [ ]
beside-length R (x ∷ xs) [] h = elim h [ ]
beside-length R (x ∷ xs) (y ∷ ys) h = ap suc (beside-length R xs ys h.1)

beside-pairs : {X Y : Type 0} (E : X → Y → Type 0) (R : X → X → Type 0) (S : Y → Y → Type 0)
    (xs : List X) (ys : List Y) → Beside E xs ys → Pairs R xs
    → ((x x' : X) (y y' : Y) → In x xs → In x' xs → E x y → E x' y' → R x x' → S y y') → Pairs S ys
beside-pairs E R S [] [] b r f = tt
beside-pairs E R S [] (y ∷ ys) b r f = elim b [ ]
beside-pairs E R S (x ∷ xs) [] b r f = elim b [ ]
beside-pairs {X} {Y} E R S (x ∷ xs) (y ∷ ys) b r f = (
  λ y' i. let w = back y' xs ys b.1 i in f x w.0 y y' (inl refl) (inr w.1) b.0 w.2 (r.0 w.0 w.1),
  beside-pairs E R S xs ys b.1 r.1 (λ p q u v i j. f p q u v (inr i) (inr j)),
)
  where
    back : (z : Y) (as' : List X) (bs : List Y) → Beside E as' bs → In z bs
        → (a : X) × In a as' × E a z
    back z as' [] h i = elim i [ ]
    back z [] (c ∷ bs) h i = elim h [ ]
    back z (a ∷ as') (c ∷ bs) h (inl i) = (a, inl refl, subst (λ w. E a w) (sym i) h.0)
    back z (a ∷ as') (c ∷ bs) h (inr i) = let r' = back z as' bs h.1 i in (r'.0, inr r'.1, r'.2)

module _ (all order : List Match) (P : Queued → Type 0) (reached : List Match) (starts k : ℕ)
    (d : PlainDesk) (rows : List Rank)
    (b : Between all P reached k d rows) (l : IsListing all starts) (one : starts ≤ 1)
    (o : IsInOrder all order) where
  abbrev p : Progress all P reached d.room [] d.waiting d.reached d.dropped None
  p = between-progress all P reached k d rows b

  pub zero_start : (m : Match) → In m all → m.start ≡ 0
  zero_start m i = let h = l.within m i in omega (arith, h, one)

  ended_order : (t t' : Taken) (m m' : Match) → In t p.taken → In t' p.taken → Ends all t.now m
      → Ends all t'.now m' → (t'.now.entry.start ≡ t.now.entry.start → entry_lt t'.now t.now ≡ true)
      → match_lt m' m ≡ true
  ended_order t t' m m' i i' e e' h =
      let score : (u : Taken) (n : Match) → In u p.taken → Ends all u.now n
      → n.rank.score ≡ u.now.entry.score =
      λ u n j f. let w = (p.taken_sound u j).0.met in
      ap (λ z. z.rank.score) (sym (f.alone w.0 w.1 w.2)) ∙ w.3 in
      let same : t'.now.entry.start ≡ t.now.entry.start =
      covers-start m' t'.now e'.over ∙ zero_start m' e'.of
      ∙ sym (covers-start m t.now e.over ∙ zero_start m e.of) in
      let w : is_lt (ordering_then (nat_cmp t.now.entry.score t'.now.entry.score)
      (slice_cmp nat_cmp t'.now.bytes t.now.bytes)) ≡ true =
      sym (ap is_lt (within_start t'.now t.now same)) ∙ h same in
      subst (λ z. is_lt (ordering_then (nat_cmp z m'.rank.score)
      (slice_cmp nat_cmp m'.bytes m.bytes)) ≡ true) (sym (score t m i e))
      (subst (λ z. is_lt (ordering_then (nat_cmp t.now.entry.score z)
      (slice_cmp nat_cmp m'.bytes m.bytes)) ≡ true) (sym (score t' m' i' e'))
      (subst (λ z. is_lt (ordering_then (nat_cmp t.now.entry.score t'.now.entry.score)
      (slice_cmp nat_cmp m'.bytes z)) ≡ true) e.bytes
      (subst (λ z. is_lt (ordering_then (nat_cmp t.now.entry.score t'.now.entry.score)
      (slice_cmp nat_cmp z t.now.bytes)) ≡ true) e'.bytes w)))

  reached_order : Pairs (λ n o'. match_lt o' n ≡ true) reached
  reached_order =
      beside-pairs (λ (t : Taken) m. Ends all t.now m)
      (λ b' a. a.now.entry.start ≡ b'.now.entry.start → entry_lt a.now b'.now ≡ true)
      (λ n o'. match_lt o' n ≡ true) p.taken reached p.ended p.start_order
      (λ x x' y y' i j e e' h. ended_order x x' y y' i j e e' h)

  distinct_from : (xs : List Match) → Pairs (λ n o'. match_lt o' n ≡ true) xs → Distinct xs
  distinct_from [] h = tt
  distinct_from (x ∷ xs) h = (
    λ y i e. never_before_itself x
        (subst (λ z. match_lt z x ≡ true) (sym e) (h.0 y i)),
    distinct_from xs h.1,
  )

  pub is_front : IsFront order reached
  is_front m i =
      elim (reached_or_left all P reached d.room starts d.waiting d.reached d.dropped p l m
      (o.from m i)) as (λ _. In m reached
      ⊎ ((n : Match) → In n reached → match_lt n m ≡ true)) [
        | inl j ↦ inl j
        | inr j ↦ inr (λ n q. reached-before all P reached starts k d rows b l one n m q
            (o.from m i) j.0 j.1 j.2)
      ]

  -- the reached paths are the first of the order
  pub reached_is : (x : Match) → (In x (take (length reached) order) → In x reached)
      × (In x reached → In x (take (length reached) order))
  reached_is =
      prefix_is order reached o.rising (distinct_from reached reached_order)
      (λ n i. o.has n (reached_in_all all P reached d.room starts d.waiting d.reached d.dropped p l
      n i)) is_front

  pub reached_fits : length reached ≤ d.room
  reached_fits =
      let x = beside-length (λ (t : Taken) m. Ends all t.now m) p.taken reached p.ended in
      let y = p.counted in
      let z = p.fits in
      omega (arith, x, y, z)
