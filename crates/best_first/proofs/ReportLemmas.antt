-- A search's report over its matching paths is its report over the documents.
use Rattle.std.proofs.Common.{◌≡◌, ◌≤◌, ◌<◌, ◌+◌, ℕ, Bool, true}
use Rattle.std.proofs.Common.{not, cond, nat_eq, ◌&&◌, filter, map, List, [], ◌∷◌, length}
use Rattle.std.proofs.Common.{take}
use Rattle.std.proofs.Common.{refl, sym, ap, ◌∙◌, subst, arith, Option, Some, None, Ordering}
use Rattle.std.specs.Prelude.{nat_le}
use Rattle.std.specs.List.{AllByRecursion, starts_with}
use Rattle.std.specs.Ordering.{is_lt, is_le, ordering_reverse}
use Rattle.std.specs.declared.cmp.Ordering.TheVariants.{Less, Equal, Greater}
use Rattle.std.proofs.lemmas.Bool.{and_from}
use Rattle.std.proofs.lemmas.Bool.Decides.{nat_tests}
use Rattle.std.proofs.lemmas.List.{append-nil}
use Rattle.sg_base.specs.Cuts.{PlainCut, mark_cmp, mark_cmp_total, row_mark, cut_mark, precedes}
use Rattle.sg_base.specs.Lists.{In}
use Rattle.sg_base.specs.Rows.{ranked}
use Rattle.sg_base.specs.declared.rank.Rank.{Rank}
use Rattle.sg_context.specs.Queries.{PlainQuery}
use Rattle.sg_paths.specs.Operations.{PlainNumbered}
use Rattle.sg_paths.specs.AllPaths.{path_entries, all_paths}
use Rattle.sg_paths.specs.PathLaws.{IsLegal}
use Rattle.sg_answers.specs.Answers.{answer}
use Rattle.sg_answers.specs.Reports.{ViewedSegment, viewed_segment, live_of, live_in}
use Rattle.sg_answers.specs.Reports.{queue_size, matching, asked_contexts}
use Rattle.sg_answers.specs.Reports.{is_upto, count, TruncatesAt}
use Rattle.sg_answers.specs.Reports.{IsSound}
use Rattle.sg_answers.specs.Reports.{IsSearch}
use Rattle.sg_base.specs.declared.node.Edge.{Edge}
use Rattle.sg_paths.proofs.RiseLemmas.{length-all_paths}
use Rattle.fst_code.specs.Lists.{root_paths}
use Rattle.fst_code.specs.Tails.{Tail}
use Rattle.fst_walk.specs.Starts.{start_contexts}
use Rattle.best_first.specs.Ends.{IsOutcome, IsCutShort}
use Rattle.best_first.specs.Exact.{IsInOrder, IsExact}
use Rattle.best_first.specs.Listings.{IsListing, mark_of_match}
use Rattle.best_first.specs.Lists.{passing}
use Rattle.best_first.specs.Matches.{Match, ranks_of}
use Rattle.best_first.specs.Parts.{AreDocuments, IsMapping}
use Rattle.best_first.specs.PathMatches.{path_tails, matches_of}
use Rattle.best_first.proofs.AnswerLemmas.{ranked-answer}
use Rattle.best_first.proofs.AskedLemmas.{few_starts}
use Rattle.best_first.proofs.CountLemmas.{begins-starts_with, all_sums, live_sums}
use Rattle.best_first.proofs.LiveLemmas.{Rising, live_distinct, any_has}
use Rattle.best_first.proofs.MemberLemmas.{map-in}
use Rattle.best_first.proofs.SpentLemmas.{exact_by}
use Rattle.best_first.proofs.SumLemmas.{summed_members, passing-total, length-total, total-map}

-- a mark isn't after another where the other isn't before it
upto_at : (o p : Ordering) → p ≡ ordering_reverse o → is_le p ≡ not (is_lt o)
upto_at Less p is = ap is_le is
upto_at Equal p is = ap is_le is
upto_at Greater p is = ap is_le is

upto_is : (cut : PlainCut) (m : Match)
    → not (is_lt (mark_cmp (cut_mark cut) (mark_of_match m))) ≡ is_upto cut m.rank
upto_is cut m =
    sym (upto_at (mark_cmp (cut_mark cut) (row_mark m.rank))
    (mark_cmp (row_mark m.rank) (cut_mark cut))
    (mark_cmp_total.antisymm (row_mark m.rank) (cut_mark cut)))

equal : (m n : ℕ) → m ≡ n → nat_eq m n ≡ true
equal m n h = grind (arith, nat_tests)

passing-same : {X : Type 0} (p q : X → Bool) (xs : List X) → ((x : X) → p x ≡ q x)
    → passing p xs ≡ passing q xs
passing-same p q [] f = refl
passing-same p q (x ∷ xs) f = rw (f x) (ap (λ n. cond (q x) 1 0 + n) (passing-same p q xs f))

module _ (query : PlainQuery) (ds : List PlainNumbered) (marks : List Bool) (generation : ℕ)
    (starts : List (List ℕ)) (u : Rising ds)
    (legal : AllByRecursion (λ p. IsLegal p.entry) (all_paths ds))
    (few : length (path_entries 0 ds) ≤ 4194304)
    (ts : List Tail) (maps : ts ≡ path_tails (all_paths ds))
    (are_starts : starts ≡ start_contexts ts query)
    (listing : IsListing (matches_of query ds starts marks) (length starts)) where
  abbrev matches : List Match
  matches = matches_of query ds starts marks

  abbrev live : List PlainNumbered
  live = live_of ds marks

  abbrev s : ViewedSegment
  s = viewed_segment generation ds marks

  abbrev room : ℕ
  room = queue_size query.k s

  answer_is : ranked (ranks_of matches) ≡ answer query (live_in (s ∷ []))
  answer_is =
      ranked-answer query live (ranks_of matches) (live_distinct ds marks u)
      (summed_members (ranks_of matches) (matching query live) (live_sums query ds starts marks))
      (summed_members (matching query live) (ranks_of matches)
      (λ f. sym (live_sums query ds starts marks f)))
      ∙ ap (answer query) (sym (append-nil live))

  counted : (p : Rank → Bool)
      → passing (λ (m : Match). p m.rank) matches ≡ count p (matching query ds)
  counted p =
      passing-total (λ (m : Match). p m.rank) matches
      ∙ all_sums query ds starts marks (λ r. cond (p r) 1 0)
      ∙ sym (length-total p (matching query ds))

  member : (m : Match) → In m matches → In m.rank (matching query ds)
  member m i =
      summed_members (map (λ (x : Match). x.rank) matches) (matching query ds)
      (λ f. total-map f (λ (x : Match). x.rank) matches ∙ all_sums query ds starts marks f)
      m.rank (map-in (λ (x : Match). x.rank) m matches i)

  few_contexts : length starts ≤ length (asked_contexts query ds)
  few_contexts =
      subst (λ (cs : List (List ℕ)). length cs ≤ length (asked_contexts query ds)) (sym are_starts)
      (few_starts query ds ts maps legal)

  single : length (asked_contexts query ds) ≡ 1 → length starts ≤ 1
  single one = let h = few_contexts in omega (arith, h, one)

  truncates : (rows : List Rank) (cut : PlainCut)
      → IsCutShort matches query.prefix (length starts) query.k room generation rows cut
      → TruncatesAt query ds cut
  truncates rows cut h = record {
    crowded =
        let c = counted (λ r. nat_le cut.score r.score) in omega (arith, c, h.crowded, h.of_room);
    in_query = sym (begins-starts_with query.prefix cut.key) ∙ h.in_query;
    met = any_has (λ r. nat_eq r.score cut.score && starts_with nat_eq r.key cut.key) h.met.0.rank
        (matching query ds) (member h.met.0 h.met.1)
        (and_from (nat_eq h.met.0.rank.score cut.score)
        (starts_with nat_eq h.met.0.rank.key cut.key)
        (equal h.met.0.rank.score cut.score h.met.2)
        (sym (begins-starts_with cut.key h.met.0.rank.key) ∙ h.met.3));
    upto =
        let c = counted (is_upto cut) in
        let e = passing-same
        (λ (m : Match). not (is_lt (mark_cmp (cut_mark cut) (mark_of_match m))))
        (λ (m : Match). is_upto cut m.rank) matches (upto_is cut) in
        let n = few_contexts in
        omega (arith, c, e, h.up_to, n, h.of_room);
  }

  module _ (has_live : 0 < length live) where
    is_sound : (rows : List Rank) (cut : Option PlainCut)
        → IsOutcome matches query.prefix (length starts) query.k room generation rows cut
        → IsSound query (s ∷ []) rows cut
    is_sound rows None h = h ∙ ap (take query.k) answer_is
    is_sound rows (Some cut) h = (
      h.preceding ∙ ap (filter (precedes cut)) answer_is,
      h.few,
      (
        s,
        (0, omega arith, refl),
        record {
          generation = h.of_segment;
          has_live = has_live;
          room = h.of_room;
          point = truncates rows cut h;
        },
      ),
    )

    -- with the exact rule it is the report of the search
    whole : (rows : List Rank) (cut : Option PlainCut)
        → IsOutcome matches query.prefix (length starts) query.k room generation rows cut
        → (length starts ≤ 1 → (order : List Match) → IsInOrder matches order
        → IsExact order query.k room cut)
        → IsSearch query s rows cut
    whole rows cut report exact = record {
      sound = is_sound rows cut report;
      exact = exact_by query ds starts marks generation u legal few listing cut
          single (λ one. exact (single one));
    }

-- from what a search relies on of its segment and knows at its end: the report of the search
pub is_search : (query : PlainQuery) (ds : List PlainNumbered) (marks : List Bool)
    (nodes : List (List Edge)) (generation : ℕ) → AreDocuments ds → IsMapping nodes ds
    → IsListing (matches_of query ds (start_contexts (root_paths nodes) query) marks)
    (length (start_contexts (root_paths nodes) query))
    → 0 < length (live_of ds marks) → (rows : List Rank) (cut : Option PlainCut)
    → IsOutcome (matches_of query ds (start_contexts (root_paths nodes) query) marks) query.prefix
    (length (start_contexts (root_paths nodes) query)) query.k
    (queue_size query.k (viewed_segment generation ds marks)) generation rows cut
    → (length (start_contexts (root_paths nodes) query) ≤ 1 → (order : List Match)
    → IsInOrder (matches_of query ds (start_contexts (root_paths nodes) query) marks) order
    → IsExact order query.k (queue_size query.k (viewed_segment generation ds marks)) cut)
    → IsSearch query (viewed_segment generation ds marks) rows cut
is_search query ds marks nodes generation documents mapping listing has_live =
    let same = length-all_paths ds in
    let most = documents.few in
    whole query ds marks generation (start_contexts (root_paths nodes) query) documents.rising
    documents.legal (omega (arith, same, most)) (root_paths nodes) mapping.maps refl listing
    has_live
