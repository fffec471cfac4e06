-- Within a start score and bytes order as ranks do.
use Rattle.std.proofs.Common.{◌≡◌, ◌≤◌, ◌<◌, ◌+◌, ◌*◌, ℕ, suc, Bool, true, false, ◌&&◌, ◌⊎◌, inl}
use Rattle.std.proofs.Common.{inr, Ordering, List, [], ◌∷◌, ◌++◌, refl, sym, ap, ◌∙◌, subst, arith}
use Rattle.std.proofs.Common.{Option, Some, None}
use Rattle.std.specs.Cmp.Lexicographic.{slice_cmp}
use Rattle.std.specs.FinMap.{nat_cmp-IsAntisymmetric, slice_cmp-IsAntisymmetric}
use Rattle.std.specs.Int.{w32, to_be_bytes}
use Rattle.std.specs.Ordering.{nat_cmp, is_lt, ordering_then, ordering_reverse}
use Rattle.std.specs.Prelude.{is_some}
use Rattle.std.specs.declared.cmp.Ordering.TheVariants.{Less, Equal, Greater}
use Rattle.std.proofs.Math.Nat.{mul-le-mul_right}
use Rattle.std.proofs.lemmas.Bool.{cases_order}
use Rattle.std.proofs.lemmas.Bool.Decides.{nat_tests}
use Rattle.std.proofs.lemmas.Cmp.{nat_list_cmp_total}
use Rattle.sg_base.specs.ByteStrings.{is_less}
use Rattle.sg_base.specs.Lists.{In}
use Rattle.sg_base.specs.Ranking.{rank_cmp}
use Rattle.sg_base.specs.declared.node.Edge.{Edge}
use Rattle.sg_base.proofs.ByteStringLemmas.{slice-less}
use Rattle.sg_context.specs.Boosts.{boost_of}
use Rattle.sg_paths.specs.AllPaths.{FullPath}
use Rattle.sg_paths.proofs.ByteLemmas.{front_less, keys_less, number_less}
use Rattle.fst_walk.proofs.AscendingLemmas.{not_less_both}
use Rattle.fst_walk.proofs.BoolLemmas.{clash}
use Rattle.best_first.specs.Matches.{Match}
use Rattle.best_first.specs.PathMatches.{Setting, place_of, boost_or, bytes_of, rank_of, is_match}
use Rattle.best_first.specs.PathMatches.{all_matches}
use Rattle.best_first.proofs.ArcLemmas.{one_context}
use Rattle.best_first.proofs.Grounds.{IsGround}
use Rattle.best_first.proofs.OverLemmas.{match_from}

number_by : (m n : ℕ) → m < 4294967296 → n < 4294967296
    → is_less (to_be_bytes w32 m) (to_be_bytes w32 n) ≡ true → (m ≡ n) ⊎ ((m < n) ⊎ (n < m)) → m < n
number_by m n p q h (inl e) =
    let same : is_less (to_be_bytes w32 m) (to_be_bytes w32 m) ≡ true =
    subst (λ z. is_less (to_be_bytes w32 m) (to_be_bytes w32 z) ≡ true) (sym e) h in
    absurd (not_less_both (to_be_bytes w32 m) (to_be_bytes w32 m) same same)
number_by m n p q h (inr (inl l)) = l
number_by m n p q h (inr (inr l)) =
    absurd (not_less_both (to_be_bytes w32 m) (to_be_bytes w32 n) h (number_less n m l p))

pub less_number : (m n : ℕ) → m < 4294967296 → n < 4294967296
    → is_less (to_be_bytes w32 m) (to_be_bytes w32 n) ≡ true → m < n
less_number m n p q h = number_by m n p q h (cases_order m n)

by_score : (o bytes key seq place : Ordering)
    → (o ≡ Equal → is_lt bytes ≡ true → is_lt (ordering_then (ordering_then key seq) place) ≡ true)
    → is_lt (ordering_then o bytes) ≡ true
    → is_lt (ordering_then (ordering_then (ordering_then o key) seq) place) ≡ true
by_score Less bytes key seq place f h = refl
by_score Equal bytes key seq place f h = f refl h
by_score Greater bytes key seq place f h = absurd (clash h)

by_key : (k seq place : Ordering) → (k ≡ Equal → seq ≡ Less) → (k ≡ Greater → ⊥)
    → is_lt (ordering_then (ordering_then k seq) place) ≡ true
by_key Less seq place f g = refl
by_key Equal seq place f g = let e = f refl in rw e refl
by_key Greater seq place f g = absurd (g refl)

less_cmp : (x y : ℕ) → x < y → nat_cmp x y ≡ Less
less_cmp x y e = grind (arith, nat_tests)

same_score : (x y : ℕ) → nat_cmp x y ≡ Equal → x ≡ y
same_score x y e = nat_cmp-IsAntisymmetric x y e

-- a lesser weight has a lesser score
lighter : (v w b : ℕ) → 1 ≤ b → v < w → v * b ≡ w * b → ⊥
lighter v w b one l e =
    let m : suc v * b ≤ w * b = mul-le-mul_right b (let q : suc v ≤ w = omega (arith, l) in q) in
    let k : suc v * b ≡ v * b + b = grind arith in
    omega (arith, m, k, e, one)

module _ (s : Setting) (t : List (List Edge)) (ps : List FullPath) (g : IsGround s t ps) where
  least_boost : (p : FullPath) → In p ps → is_match s p.entry ≡ true
      → 1 ≤ boost_or (boost_of s.query.contexts p.entry.context)
  least_boost p i h = at (boost_of s.query.contexts p.entry.context) refl (asked _ _ h)
    where
      asked : (x y : Bool) → (x && y) ≡ true → y ≡ true
      asked true y h = h
      asked false y h = absurd (clash h)

      at : (o : Option ℕ) → boost_of s.query.contexts p.entry.context ≡ o → is_some o ≡ true
          → 1 ≤ boost_or o
      at None e k = absurd (clash k)
      at (Some b) e k = g.boosts p.entry.context b e

  seq_less : (p r : FullPath) → In p ps → In r ps → is_match s p.entry ≡ true
      → p.entry.context ≡ r.entry.context → p.entry.key ≡ r.entry.key
      → (rank_of s p.entry).score ≡ (rank_of s r.entry).score
      → is_less (bytes_of p) (bytes_of r) ≡ true → s.seqs p.entry.doc < s.seqs r.entry.doc
  seq_less p r i j h c k e l =
      let b : ℕ = boost_or (boost_of s.query.contexts p.entry.context) in
      let one : 1 ≤ b = least_boost p i h in
      let eb : p.entry.weight * b ≡ r.entry.weight * b =
      e ∙ ap (λ z. r.entry.weight * boost_or (boost_of s.query.contexts z)) (sym c) in
      let l1 : is_less (p.entry.key ++ 0 ∷ to_be_bytes w32 p.n)
      (p.entry.key ++ 0 ∷ to_be_bytes w32 r.n) ≡ true =
      subst (λ z. is_less (p.entry.key ++ 0 ∷ to_be_bytes w32 p.n)
      (z ++ 0 ∷ to_be_bytes w32 r.n) ≡ true) (sym k) l in
      let l2 : is_less (to_be_bytes w32 p.n) (to_be_bytes w32 r.n) ≡ true =
      sym (front_less p.entry.key (0 ∷ to_be_bytes w32 p.n) (0 ∷ to_be_bytes w32 r.n)
      ∙ front_less (0 ∷ []) (to_be_bytes w32 p.n) (to_be_bytes w32 r.n)) ∙ l1 in
      let n = less_number p.n r.n (g.paths.small p i) (g.paths.small r j) l2 in
      elim (g.paths.numbers p r i j c k n) as (λ _. s.seqs p.entry.doc < s.seqs r.entry.doc) [
        | inl w ↦ absurd (lighter r.entry.weight p.entry.weight b one w (sym eb))
        | inr d ↦ g.seqs p r i j d.1
      ]

  ordered_paths : (p r : FullPath) → In p ps → In r ps → is_match s p.entry ≡ true
      → p.entry.context ≡ r.entry.context
      → is_lt (ordering_then (nat_cmp (rank_of s r.entry).score (rank_of s p.entry).score)
      (slice_cmp nat_cmp (bytes_of p) (bytes_of r))) ≡ true
      → is_lt (rank_cmp (rank_of s p.entry) (rank_of s r.entry)) ≡ true
  ordered_paths p r i j h c l =
      by_score (nat_cmp (rank_of s r.entry).score (rank_of s p.entry).score)
      (slice_cmp nat_cmp (bytes_of p) (bytes_of r))
      (slice_cmp nat_cmp p.entry.key r.entry.key)
      (nat_cmp (s.seqs p.entry.doc) (s.seqs r.entry.doc)) (nat_cmp p.entry.place r.entry.place)
      (λ e b.
      let less : is_less (bytes_of p) (bytes_of r) ≡ true =
      sym (slice-less (bytes_of p) (bytes_of r)) ∙ b in
      by_key (slice_cmp nat_cmp p.entry.key r.entry.key)
      (nat_cmp (s.seqs p.entry.doc) (s.seqs r.entry.doc))
      (nat_cmp p.entry.place r.entry.place)
      (λ k. less_cmp (s.seqs p.entry.doc) (s.seqs r.entry.doc)
      (seq_less p r i j h c (slice_cmp-IsAntisymmetric nat_cmp-IsAntisymmetric p.entry.key
      r.entry.key k)
      (sym (same_score (rank_of s r.entry).score (rank_of s p.entry).score e)) less))
      (λ k. not_less_both (bytes_of p) (bytes_of r) less
      (keys_less r.entry.key p.entry.key _ _ (g.paths.clean r j).1 (g.paths.clean p i).1
      (sym (slice-less r.entry.key p.entry.key)
      ∙ ap is_lt (nat_list_cmp_total.antisymm r.entry.key p.entry.key
      ∙ ap ordering_reverse k)))))
      l

  pub ordered_at : (a b : Match) → In a (all_matches s ps) → In b (all_matches s ps)
      → a.start ≡ b.start
      → is_lt (ordering_then (nat_cmp b.rank.score a.rank.score)
      (slice_cmp nat_cmp a.bytes b.bytes)) ≡ true → is_lt (rank_cmp a.rank b.rank) ≡ true
  ordered_at a b i j e l =
      let x = match_from s t ps g a i in
      let y = match_from s t ps g b j in
      let start : place_of x.0.entry.context s.starts ≡ place_of y.0.entry.context s.starts =
      sym (ap (λ (z : Match). z.start) x.3) ∙ e ∙ ap (λ (z : Match). z.start) y.3 in
      let c = one_context s t ps g x.0 y.0 x.1 y.1 x.2 y.2 start in
      let l1 = subst (λ (z : Match). is_lt
      (ordering_then (nat_cmp b.rank.score z.rank.score)
      (slice_cmp nat_cmp z.bytes b.bytes)) ≡ true) x.3 l in
      let l2 = subst (λ (z : Match). is_lt
      (ordering_then (nat_cmp z.rank.score (rank_of s x.0.entry).score)
      (slice_cmp nat_cmp (bytes_of x.0) z.bytes)) ≡ true) y.3 l1 in
      let r = ordered_paths x.0 y.0 x.1 y.1 x.2 c l2 in
      subst (λ (z : Match). is_lt (rank_cmp z.rank b.rank) ≡ true) (sym x.3)
      (subst (λ (z : Match). is_lt (rank_cmp (rank_of s x.0.entry) z.rank) ≡ true) (sym y.3) r)
