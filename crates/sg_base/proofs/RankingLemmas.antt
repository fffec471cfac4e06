-- Rankings: their order, and that the ranking of rows is one list.
use Rattle.std.proofs.Common.{◌≡◌, ◌⊎◌, inl, inr, ℕ, Bool, true, false, nat_eq, List, [], ◌∷◌}
use Rattle.std.proofs.Common.{refl, sym, ap, ◌∙◌, subst, arith}
use Rattle.std.specs.Ordering.{is_lt, ordering_reverse}
use Rattle.std.specs.declared.cmp.Ordering.{Ordering}
use Rattle.std.specs.declared.cmp.Ordering.TheVariants.{Less, Equal, Greater}
use Rattle.std.specs.Cmp.{IsStrictWeakOrder}
use Rattle.std.proofs.lemmas.List.MinMax.{ranks_by}
use Rattle.std.proofs.lemmas.Bool.Decides.{nat_tests}
use Rattle.sg_base.specs.Lists.{In, Pairs}
use Rattle.sg_base.specs.Ranking.{rank_cmp, rank_cmp_total, IsRanking}
use Rattle.sg_base.specs.declared.rank.Rank.{Rank}
use Rattle.sg_base.proofs.RankLemmas.{rank_cmp_exact}
use Rattle.sg_base.proofs.Orders.{at_most_itself, weaken, not_both}

abbrev pub rank_lt : Rank → Rank → Bool
rank_lt x y = is_lt (rank_cmp x y)

pub ranks_ordered : IsStrictWeakOrder rank_lt
ranks_ordered = ranks_by rank_cmp_total (λ (r : Rank). r)

abbrev pub Ascending : List Rank → Type 0
Ascending = Pairs (λ a b. rank_lt a b ≡ true)

abbrev pub Once : List Rank → Type 0
Once = Pairs (λ a b. nat_eq a.seq b.seq ≡ false)

neither_at : (o : Ordering) → is_lt o ≡ false → is_lt (ordering_reverse o) ≡ false → o ≡ Equal
neither_at Less p q = cc
neither_at Equal p q = refl
neither_at Greater p q = cc

-- rows of which neither is before the other are one
pub one_rank : (x y : Rank) → rank_lt x y ≡ false → rank_lt y x ≡ false → x ≡ y
one_rank x y p q = rank_cmp_exact x y
    (neither_at (rank_cmp x y) p (sym (ap is_lt (rank_cmp_total.antisymm y x)) ∙ q))

itself : (n : ℕ) → nat_eq n n ≡ true
itself n = grind (arith, nat_tests)

first_same : (x y : Rank) → (x ≡ y) ⊎ (rank_lt y x ≡ true) → (y ≡ x) ⊎ (rank_lt x y ≡ true) → x ≡ y
first_same x y (inl h) k = h
first_same x y (inr h) (inl k) = sym k
first_same x y (inr h) (inr k) =
    absurd (not_both rank_lt ranks_ordered y x h (weaken rank_lt ranks_ordered x y k))

behind : (x e : Rank) (xs : List Rank) → Ascending (x ∷ xs) → In e (x ∷ xs)
    → (e ≡ x) ⊎ (rank_lt x e ≡ true)
behind x e xs up (inl i) = inl i
behind x e xs up (inr i) = inr (up.0 e i)

tail_in : (x y e : Rank) (xs ys : List Rank) → x ≡ y → Ascending (x ∷ xs) → In e xs → In e (y ∷ ys)
    → In e ys
tail_in x y e xs ys same up i (inl k) =
    let self : rank_lt x x ≡ true = subst (λ z. rank_lt x z ≡ true) (k ∙ sym same) (up.0 e i) in
    absurd (not_both rank_lt ranks_ordered x x self (at_most_itself rank_lt ranks_ordered x))
tail_in x y e xs ys same up i (inr k) = k

pub same_members : (xs ys : List Rank) → Ascending xs → Ascending ys
    → ((r : Rank) → In r xs → In r ys) → ((r : Rank) → In r ys → In r xs) → xs ≡ ys
same_members [] [] p q f g = refl
same_members [] (y ∷ ys) p q f g = elim (g y (inl refl)) [ ]
same_members (x ∷ xs) [] p q f g = elim (f x (inl refl)) [ ]
same_members (x ∷ xs) (y ∷ ys) p q f g =
    let same : x ≡ y = first_same x y (behind y x ys q (f x (inl refl)))
    (behind x y xs p (g y (inl refl))) in
    ap (λ z. z ∷ xs) same
    ∙ ap (λ zs. y ∷ zs) (same_members xs ys p.1 q.1
    (λ r i. tail_in x y r xs ys same p i (f r (inr i)))
    (λ r i. tail_in y x r ys xs (sym same) q i (g r (inr i))))

in_once : (a b : Rank) (rows : List Rank) → Once rows → In a rows → In b rows → a.seq ≡ b.seq
    → a ≡ b
in_once a b [] o i j e = elim i [ ]
in_once a b (x ∷ xs) o (inl i) (inl j) e = i ∙ sym j
in_once a b (x ∷ xs) o (inl i) (inr j) e =
    let n : nat_eq x.seq b.seq ≡ false = o.0 b j in
    let s : x.seq ≡ b.seq = ap (λ z. z.seq) (sym i) ∙ e in
    let no : true ≡ false = sym (itself b.seq) ∙ subst (λ z. nat_eq z b.seq ≡ false) s n in cc
in_once a b (x ∷ xs) o (inr i) (inl j) e =
    let n : nat_eq x.seq a.seq ≡ false = o.0 a i in
    let s : x.seq ≡ a.seq = ap (λ z. z.seq) (sym j) ∙ sym e in
    let no : true ≡ false = sym (itself a.seq) ∙ subst (λ z. nat_eq z a.seq ≡ false) s n in cc
in_once a b (x ∷ xs) o (inr i) (inr j) e = in_once a b xs o.1 i j e

ranking_in : (rows rows' all all' : List Rank) → IsRanking rows all → IsRanking rows' all'
    → ((r : Rank) → In r all → In r all') → ((r : Rank) → In r all' → In r all)
    → (r : Rank) → In r rows → In r rows'
ranking_in rows rows' all all' h h' f g r i =
    let z = h'.best r (f r (h.from r i)) in
    let y = h.best z.0 (g z.0 (h'.from z.0 z.1)) in
    let same : y.0 ≡ r = in_once y.0 r rows h.once y.1 i (y.2 ∙ z.2) in
    let le : rank_lt z.0 r ≡ false = subst (λ w. rank_lt z.0 w ≡ false) same y.3 in
    let is : z.0 ≡ r = one_rank z.0 r le z.3 in
    subst (λ w. In w rows') is z.1

-- rankings of lists with the same members are one
pub ranking_unique : (rows rows' all all' : List Rank) → IsRanking rows all → IsRanking rows' all'
    → ((r : Rank) → In r all → In r all') → ((r : Rank) → In r all' → In r all)
    → rows ≡ rows'
ranking_unique rows rows' all all' h h' f g =
    same_members rows rows' h.ascending h'.ascending (ranking_in rows rows' all all' h h' f g)
    (ranking_in rows' rows all' all h' h g f)
