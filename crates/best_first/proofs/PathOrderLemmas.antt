-- Where one context is asked for, matching paths by score and bytes are in rank order.
use Rattle.std.proofs.Common.{◌≡◌, ◌≤◌, ℕ, Bool, true, false, filter, map, length}
use Rattle.std.proofs.Common.{List, [], ◌∷◌, ◌++◌, inl, inr, refl, sym, ap, ◌∙◌, subst, arith}
use Rattle.std.proofs.Common.{Ordering}
use Rattle.std.specs.List.{AllByRecursion}
use Rattle.std.specs.Ordering.{is_lt, nat_cmp, ordering_then}
use Rattle.std.specs.declared.cmp.Ordering.TheVariants.{Less, Equal, Greater}
use Rattle.std.specs.Cmp.{IsStrictWeakOrder}
use Rattle.std.specs.Cmp.Lexicographic.{slice_cmp}
use Rattle.std.specs.FinMap.{nat_cmp-IsAntisymmetric, slice_cmp-IsAntisymmetric}
use Rattle.std.proofs.lemmas.Cmp.{nat_list_cmp_total}
use Rattle.std.proofs.lemmas.List.{append-nil}
use Rattle.std.proofs.lemmas.List.MinMax.{ranks_by}
use Rattle.sg_base.specs.Lists.{In, Pairs}
use Rattle.sg_base.specs.Ranking.{rank_cmp, rank_cmp_total, in_order}
use Rattle.sg_base.specs.declared.rank.Rank.{Rank}
use Rattle.sg_base.proofs.InOrderLemmas.{in-in_order, pairs-in_order}
use Rattle.sg_base.proofs.ListLemmas.{in-filter, pairs-map, all_of}
use Rattle.sg_base.proofs.Orders.{below_trans, at_most_itself, weaken, not_both}
use Rattle.sg_base.proofs.RankLemmas.{rank_cmp_exact}
use Rattle.sg_base.proofs.RankingLemmas.{rank_lt, ranks_ordered}
use Rattle.sg_base.proofs.Sorting.{Rises as Sorted, rises-in_order, rising_unique}
use Rattle.sg_context.specs.Queries.{PlainQuery}
use Rattle.sg_paths.specs.Operations.{PlainNumbered}
use Rattle.sg_paths.specs.AllPaths.{FullPath, path_entries, all_paths, path_bytes}
use Rattle.sg_paths.specs.PathLaws.{IsLegal, IsAhead, RisesFrom, Rises}
use Rattle.sg_paths.proofs.RiseLemmas.{paths_rise}
use Rattle.sg_answers.specs.Reports.{asked_contexts, matching}
use Rattle.best_first.specs.Exact.{match_cmp, match_cmp_total, IsInOrder}
use Rattle.best_first.specs.Listings.{IsListing}
use Rattle.best_first.specs.Matches.{Match}
use Rattle.best_first.specs.PathMatches.{Setting, bytes_of, match_of, is_match, setting_of}
use Rattle.best_first.specs.PathMatches.{matches_of}
use Rattle.best_first.proofs.AskedLemmas.{regroup, match_asked, only_one}
use Rattle.best_first.proofs.CountLemmas.{all_sums}
use Rattle.best_first.proofs.OrderedLemmas.{rises_in_order, in_order-has, strictly, pairs-filter}
use Rattle.best_first.proofs.OrderedLemmas.{pairs-members}
use Rattle.best_first.proofs.SumLemmas.{total-map, total-in_order, total_of-total}

-- no two paths have the same bytes
abbrev bytes_lt : List ℕ → List ℕ → Bool
bytes_lt x y = is_lt (slice_cmp nat_cmp x y)

bytes_ordered : IsStrictWeakOrder bytes_lt
bytes_ordered = ranks_by nat_list_cmp_total (λ (x : List ℕ). x)

ahead : (x y : List ℕ) → IsAhead x y → bytes_lt x y ≡ true
ahead x y h = subst (λ z. bytes_lt z y ≡ true) (append-nil x) (h [])

later_bytes : (x : List ℕ) (ps : List FullPath) → RisesFrom x (map path_bytes ps) → (r : FullPath)
    → In r ps → bytes_lt x (path_bytes r) ≡ true
later_bytes x [] h r i = elim i [ ]
later_bytes x (p ∷ ps) h r (inl i) =
    subst (λ (z : FullPath). bytes_lt x (path_bytes z) ≡ true) (sym i) (ahead x (path_bytes p) h.0)
later_bytes x (p ∷ ps) h r (inr i) =
    below_trans bytes_lt bytes_ordered x (path_bytes p) (path_bytes r) (ahead x (path_bytes p) h.0)
    (later_bytes (path_bytes p) ps h.1 r i)

tail_rises : (x : List ℕ) (ps : List FullPath) → RisesFrom x (map path_bytes ps)
    → Rises (map path_bytes ps)
tail_rises x [] h = tt
tail_rises x (p ∷ ps) h = h.1

-- they differ
abbrev OtherBytes : FullPath → FullPath → Type 0
OtherBytes p r = path_bytes p ≡ path_bytes r → ⊥

not_same : (x y : List ℕ) → bytes_lt x y ≡ true → x ≡ y → ⊥
not_same x y h e =
    not_both bytes_lt bytes_ordered x x (subst (λ z. bytes_lt x z ≡ true) (sym e) h)
    (at_most_itself bytes_lt bytes_ordered x)

bytes_differ : (ps : List FullPath) → Rises (map path_bytes ps) → Pairs OtherBytes ps
bytes_differ [] h = tt
bytes_differ (p ∷ ps) h = (
  λ r i. not_same (path_bytes p) (path_bytes r) (later_bytes (path_bytes p) ps h r i),
  bytes_differ ps (tail_rises (path_bytes p) ps h),
)

abbrev OtherTails : Match → Match → Type 0
OtherTails a b = a.bytes ≡ b.bytes → ⊥

ties_bytes : (a b : Match) (o : Ordering) → nat_cmp b.rank.score a.rank.score ≡ o
    → ordering_then o (slice_cmp nat_cmp a.bytes b.bytes) ≡ Equal → a.bytes ≡ b.bytes
ties_bytes a b Less is h = absurd cc
ties_bytes a b Equal is h =
    slice_cmp-IsAntisymmetric nat_cmp-IsAntisymmetric a.bytes b.bytes h
ties_bytes a b Greater is h = absurd cc

sorted_of : (xs : List Rank) → Pairs (λ a b. rank_lt b a ≡ false) xs
    → Sorted rank_cmp rank_cmp_total rank_cmp_exact xs
sorted_of [] up = tt
sorted_of (x ∷ xs) up = (all_of (λ y. rank_lt y x ≡ false) xs up.0, sorted_of xs up.1)

module _ (query : PlainQuery) (ds : List PlainNumbered) (starts : List (List ℕ))
    (marks : List Bool) (legal : AllByRecursion (λ p. IsLegal p.entry) (all_paths ds))
    (few : length (path_entries 0 ds) ≤ 4194304)
    (one : length (asked_contexts query ds) ≡ 1) where
  abbrev setting : Setting
  setting = setting_of query ds starts marks

  abbrev matches : List Match
  matches = matches_of query ds starts marks

  abbrev matched : List FullPath
  matched = filter (λ (p : FullPath). is_match setting p.entry) (all_paths ds)

  same_context : (p r : FullPath) → In p matched → In r matched
      → p.entry.context ≡ r.entry.context
  same_context p r i j =
      let a = in-filter (λ (z : FullPath). is_match setting z.entry) p (all_paths ds) i in
      let b = in-filter (λ (z : FullPath). is_match setting z.entry) r (all_paths ds) j in
      only_one p.entry.context r.entry.context (asked_contexts query ds) one
      (match_asked setting ds p a.0 a.1) (match_asked setting ds r b.0 b.1)

  other_tails : Pairs OtherTails matches
  other_tails =
      pairs-map (match_of setting) OtherTails (λ (p r : FullPath). bytes_of p ≡ bytes_of r → ⊥)
      matched (λ p r h. h)
      (pairs-members OtherBytes (λ (p r : FullPath). bytes_of p ≡ bytes_of r → ⊥) matched
      (pairs-filter OtherBytes (λ (p : FullPath). is_match setting p.entry) (all_paths ds)
      (bytes_differ (all_paths ds) (paths_rise ds legal few)))
      (λ p r i j n e. n (regroup p ∙ ap (λ z. z ++ 29 ∷ bytes_of p) (same_context p r i j)
      ∙ ap (λ z. r.entry.context ++ 29 ∷ z) e ∙ sym (regroup r))))

  -- the matching paths by score and bytes
  abbrev pub order : List Match
  order = in_order match_cmp matches

  rising : Pairs (λ a b. is_lt (match_cmp a b) ≡ true) order
  rising =
      strictly match_cmp match_cmp_total order (rises_in_order match_cmp match_cmp_total matches)
      (pairs-members OtherTails (λ a b. match_cmp a b ≡ Equal → ⊥) order
      (pairs-in_order match_cmp OtherTails (λ a b n e. n (sym e)) matches other_tails)
      (λ a b i j n ties. n (ties_bytes a b (nat_cmp b.rank.score a.rank.score) refl ties)))

  pub is_in_order : IsInOrder matches order
  is_in_order = record {
    rising = rising;
    from = λ m i. in-in_order match_cmp m matches i;
    has = λ m i. in_order-has match_cmp m matches i;
  }

  module _ (n : ℕ) (listing : IsListing matches n) (single : n ≤ 1) where
    ranks_rise : Pairs (λ a b. rank_lt b a ≡ false) (map (λ (m : Match). m.rank) order)
    ranks_rise =
        pairs-map (λ (m : Match). m.rank) (λ a b. rank_lt b a ≡ false)
        (λ (a b : Match). rank_lt b.rank a.rank ≡ false) order (λ a b h. h)
        (pairs-members (λ a b. is_lt (match_cmp a b) ≡ true)
        (λ (a b : Match). rank_lt b.rank a.rank ≡ false) order rising (λ a b i j h.
        let ia = in-in_order match_cmp a matches i in
        let ib = in-in_order match_cmp b matches j in
        let wa = listing.within a ia in
        let wb = listing.within b ib in
        weaken rank_lt ranks_ordered a.rank b.rank
        (listing.ordered a b ia ib (omega (arith, wa, wb, single)) h)))

    -- their ranks are those of the documents' matching paths, in order
    pub order_is : map (λ (m : Match). m.rank) order ≡ in_order rank_cmp (matching query ds)
    order_is =
        rising_unique rank_cmp rank_cmp_total rank_cmp_exact (map (λ (m : Match). m.rank) order)
        (in_order rank_cmp (matching query ds)) (sorted_of _ ranks_rise)
        (rises-in_order rank_cmp rank_cmp_total rank_cmp_exact (matching query ds)) (λ f.
        total_of-total rank_cmp rank_cmp_total rank_cmp_exact f (map (λ (m : Match). m.rank) order)
        ∙ total-map f (λ (m : Match). m.rank) order
        ∙ total-in_order match_cmp (λ (m : Match). f m.rank) matches
        ∙ all_sums query ds starts marks f
        ∙ sym (total-in_order rank_cmp f (matching query ds))
        ∙ sym (total_of-total rank_cmp rank_cmp_total rank_cmp_exact f
        (in_order rank_cmp (matching query ds))))
