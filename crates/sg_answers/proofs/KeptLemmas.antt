-- The rows that are kept of the reports of segments, against the answer over their documents.
use Rattle.std.proofs.Common.{◌≡◌, ◌≤◌, ◌<◌, inl, inr, ℕ, Bool, true, List, [], ◌∷◌, ◌++◌}
use Rattle.std.proofs.Common.{length, take, Option, Some, None, refl, sym, ap, ◌∙◌, subst, arith}
use Rattle.std.specs.Prelude.{filter, filter_map}
use Rattle.std.specs.List.{AllByRecursion, flat_map}
use Rattle.std.proofs.lemmas.List.{append-nil}
use Rattle.std.proofs.lemmas.List.Elements.{filter-append, filter_map-append}
use Rattle.sg_base.specs.Cuts.{PlainCut, precedes}
use Rattle.sg_base.specs.Ranking.{rank_cmp, rank_cmp_total, in_order}
use Rattle.sg_base.specs.declared.rank.Rank.{Rank}
use Rattle.sg_base.proofs.RankLemmas.{rank_cmp_exact}
use Rattle.sg_base.proofs.MarkLemmas.{precedes-down}
use Rattle.sg_base.proofs.Sorting.{Rises, rises-in_order}
use Rattle.sg_context.specs.Queries.{PlainQuery}
use Rattle.sg_paths.specs.Operations.{PlainNumbered}
use Rattle.sg_answers.specs.Answers.{document_row, answer}
use Rattle.sg_answers.specs.Reports.{ViewedSegment, live_in, IsSound}
use Rattle.sg_answers.specs.Closing.{Searched, first_cut, kept_rows, IsSearched}
use Rattle.sg_answers.proofs.TakingLemmas.{take_shorter, taken_whole, taken_at_most}
use Rattle.sg_answers.proofs.TakingLemmas.{filtered_whole, filter_inside, filter_all}
use Rattle.sg_answers.proofs.FirstRowsLemmas.{firsts, firsts-both, in_order-rises, rises-filter}
use Rattle.sg_answers.proofs.FirstRowsLemmas.{rises-take, filter-in_order, IsDownward, filter-take}
use Rattle.sg_answers.proofs.CutLemmas.{tighter, IsLeast, first_least, segments_of}

abbrev AllRise : List Rank → Type 0
AllRise = Rises rank_cmp rank_cmp_total rank_cmp_exact

abbrev first_ranks : ℕ → List Rank → List Rank
first_ranks = firsts rank_cmp rank_cmp_total rank_cmp_exact

-- the rows of documents, in no order
abbrev row_list : PlainQuery → List PlainNumbered → List Rank
row_list query ds = filter_map (document_row query) ds

-- those of all segments
abbrev all_rows : PlainQuery → List Searched → List Rank
all_rows query ss = flat_map (λ s. row_list query s.segment.live) ss

abbrev found_rows : List Searched → List Rank
found_rows ss = flat_map (λ s. s.rows) ss

rows_spread : (query : PlainQuery) (ss : List Searched)
    → row_list query (live_in (segments_of ss)) ≡ all_rows query ss
rows_spread query [] = refl
rows_spread query (s ∷ ss) =
    filter_map-append (document_row query) s.segment.live (live_in (segments_of ss))
    ∙ ap (λ rs. row_list query s.segment.live ++ rs) (rows_spread query ss)

-- the first of what passes a test, of rows that rise
risen : (k : ℕ) (p : Rank → Bool) (ms : List Rank)
    → first_ranks k (filter p (in_order rank_cmp ms)) ≡ first_ranks k (filter p ms)
risen k p ms =
    let up = rises-in_order rank_cmp rank_cmp_total rank_cmp_exact ms in
    ap (take k)
    (in_order-rises rank_cmp rank_cmp_total rank_cmp_exact (filter p (in_order rank_cmp ms))
    (rises-filter rank_cmp rank_cmp_total rank_cmp_exact p (in_order rank_cmp ms) up)
    ∙ filter-in_order rank_cmp rank_cmp_total rank_cmp_exact p ms)

risen_taken : (k : ℕ) (p : Rank → Bool)
    → IsDownward rank_cmp rank_cmp_total rank_cmp_exact p → (ms : List Rank)
    → first_ranks k (filter p (take k (in_order rank_cmp ms))) ≡ first_ranks k (filter p ms)
risen_taken k p down ms =
    let a = in_order rank_cmp ms in
    let up : AllRise a = rises-in_order rank_cmp rank_cmp_total rank_cmp_exact ms in
    let up' : AllRise (take k (filter p a)) =
    rises-take rank_cmp rank_cmp_total rank_cmp_exact k (filter p a)
    (rises-filter rank_cmp rank_cmp_total rank_cmp_exact p a up) in
    ap (first_ranks k) (filter-take rank_cmp rank_cmp_total rank_cmp_exact p down k a up)
    ∙ ap (take k) (in_order-rises rank_cmp rank_cmp_total rank_cmp_exact (take k (filter p a)) up')
    ∙ take_shorter k k (filter p a) (omega arith)
    ∙ ap (take k) (filter-in_order rank_cmp rank_cmp_total rank_cmp_exact p ms)

-- a test that what passes stands before the truncation point, where there is one
abbrev IsWithin : (Rank → Bool) → Option PlainCut → Type 0
IsWithin p None = Unit {0}
IsWithin p (Some d) = (r : Rank) → p r ≡ true → precedes d r ≡ true

-- one segment's answer
one_answer : (query : PlainQuery) (s : ViewedSegment)
    → answer query (live_in (s ∷ [])) ≡ in_order rank_cmp (row_list query s.live)
one_answer query s = ap (answer query) (append-nil s.live)

agrees_by : (query : PlainQuery) (s : ViewedSegment) (rows : List Rank) (o : Option PlainCut)
    (p : Rank → Bool) → IsDownward rank_cmp rank_cmp_total rank_cmp_exact p → IsWithin p o
    → IsSound query (s ∷ []) rows o
    → first_ranks query.k (filter p rows) ≡ first_ranks query.k (filter p (row_list query s.live))
agrees_by query s rows None p down within sound =
    ap (λ rs. first_ranks query.k (filter p rs)) (sound ∙ ap (take query.k) (one_answer query s))
    ∙ risen_taken query.k p down (row_list query s.live)
agrees_by query s rows (Some d) p down within sound =
    let a = in_order rank_cmp (row_list query s.live) in
    ap (λ rs. first_ranks query.k (filter p rs))
    (sound.0 ∙ ap (filter (precedes d)) (one_answer query s))
    ∙ ap (first_ranks query.k) (filter_inside p (precedes d) a within)
    ∙ risen query.k p (row_list query s.live)

-- each segment's rows give the first of what passes
agrees : (query : PlainQuery) (s : Searched) (p : Rank → Bool)
    → IsDownward rank_cmp rank_cmp_total rank_cmp_exact p → IsWithin p s.cut → IsSearched query s
    → first_ranks query.k (filter p s.rows)
    ≡ first_ranks query.k (filter p (row_list query s.segment.live))
agrees query s p down within (inl found) =
    agrees_by query s.segment s.rows s.cut p down within found.1.sound
agrees query s p down within (inr none) = rw (none.0, none.1) refl

all_agree : (query : PlainQuery) (ss : List Searched) (p : Rank → Bool)
    → IsDownward rank_cmp rank_cmp_total rank_cmp_exact p
    → AllByRecursion (λ s. IsWithin p s.cut) ss → AllByRecursion (IsSearched query) ss
    → first_ranks query.k (filter p (found_rows ss))
    ≡ first_ranks query.k (filter p (all_rows query ss))
all_agree query [] p down within all = refl
all_agree query (s ∷ ss) p down within all =
    ap (first_ranks query.k) (filter-append p s.rows (found_rows ss))
    ∙ firsts-both rank_cmp rank_cmp_total rank_cmp_exact query.k (filter p s.rows)
    (filter p (row_list query s.segment.live)) (filter p (found_rows ss))
    (filter p (all_rows query ss))
    (agrees query s p down within.0 all.0) (all_agree query ss p down within.1 all.1)
    ∙ ap (first_ranks query.k)
    (sym (filter-append p (row_list query s.segment.live) (all_rows query ss)))

-- the answer over all live documents
abbrev pub whole : PlainQuery → List Searched → List Rank
whole query ss = in_order rank_cmp (all_rows query ss)

pub answer_is : (query : PlainQuery) (ss : List Searched)
    → answer query (live_in (segments_of ss)) ≡ whole query ss
answer_is query ss = ap (in_order rank_cmp) (rows_spread query ss)

-- what the collector keeps that passes is the first of the whole answer that passes
kept_passing : (query : PlainQuery) (ss : List Searched) (p : Rank → Bool)
    → IsDownward rank_cmp rank_cmp_total rank_cmp_exact p
    → AllByRecursion (λ s. IsWithin p s.cut) ss → AllByRecursion (IsSearched query) ss
    → filter p (kept_rows query.k ss) ≡ take query.k (filter p (whole query ss))
kept_passing query ss p down within all =
    filter-take rank_cmp rank_cmp_total rank_cmp_exact p down query.k
    (in_order rank_cmp (found_rows ss))
    (rises-in_order rank_cmp rank_cmp_total rank_cmp_exact (found_rows ss))
    ∙ ap (take query.k)
    (filter-in_order rank_cmp rank_cmp_total rank_cmp_exact p (found_rows ss))
    ∙ all_agree query ss p down within all
    ∙ ap (take query.k)
    (sym (filter-in_order rank_cmp rank_cmp_total rank_cmp_exact p (all_rows query ss)))

-- without a truncation point in any segment
none_within : (ss : List Searched) → AllByRecursion (λ s. IsLeast None s.cut) ss
    → AllByRecursion (λ s. IsWithin (λ _. true) s.cut) ss
none_within [] all = tt
none_within (s ∷ ss) all = (by_cut s.cut all.0, none_within ss all.1)
  where
    by_cut : (o : Option PlainCut) → IsLeast None o → IsWithin (λ _. true) o
    by_cut None h = tt
    by_cut (Some d) h = absurd h

pub kept_whole : (query : PlainQuery) (ss : List Searched) → first_cut ss ≡ None
    → AllByRecursion (IsSearched query) ss
    → kept_rows query.k ss ≡ take query.k (whole query ss)
kept_whole query ss none all =
    let least : AllByRecursion (λ s. IsLeast None s.cut) ss =
    subst (λ o. AllByRecursion (λ s. IsLeast o s.cut) ss) none (first_least ss) in
    sym (filter_all (kept_rows query.k ss))
    ∙ kept_passing query ss (λ _. true) (λ x y h py. refl) (none_within ss least) all
    ∙ ap (take query.k) (filter_all (whole query ss))

-- behind the first truncation point nothing precedes it
within_first : (ss : List Searched) (c : PlainCut) → AllByRecursion (λ s. IsLeast (Some c) s.cut) ss
    → AllByRecursion (λ s. IsWithin (precedes c) s.cut) ss
within_first [] c all = tt
within_first (s ∷ ss) c all = (by_cut s.cut all.0, within_first ss c all.1)
  where
    by_cut : (o : Option PlainCut) → IsLeast (Some c) o → IsWithin (precedes c) o
    by_cut None h = tt
    by_cut (Some d) h = tighter c d h

kept_preceding : (query : PlainQuery) (ss : List Searched) (c : PlainCut) → first_cut ss ≡ Some c
    → AllByRecursion (IsSearched query) ss
    → filter (precedes c) (kept_rows query.k ss)
    ≡ take query.k (filter (precedes c) (whole query ss))
kept_preceding query ss c is all =
    kept_passing query ss (precedes c) (precedes-down c)
    (within_first ss c
    (subst (λ o. AllByRecursion (λ s. IsLeast o s.cut) ss) is (first_least ss))) all

-- where k kept rows precede it, they are the first k of the whole answer
pub enough : (query : PlainQuery) (ss : List Searched) (c : PlainCut) → first_cut ss ≡ Some c
    → AllByRecursion (IsSearched query) ss
    → query.k ≤ length (filter (precedes c) (kept_rows query.k ss))
    → kept_rows query.k ss ≡ take query.k (whole query ss)
enough query ss c is all h =
    let p = precedes c in
    let k = query.k in
    let kept = kept_rows k ss in
    let a = whole query ss in
    let preceding = kept_preceding query ss c is all in
    let first : filter p (take k a) ≡ take k (filter p a) =
    filter-take rank_cmp rank_cmp_total rank_cmp_exact p (precedes-down c) k a
    (rises-in_order rank_cmp rank_cmp_total rank_cmp_exact (all_rows query ss)) in
    let both : filter p kept ≡ filter p (take k a) = preceding ∙ sym first in
    let here : filter p kept ≡ kept =
    filtered_whole p kept
    (omega (arith, h, taken_at_most k (in_order rank_cmp (found_rows ss)))) in
    let there : filter p (take k a) ≡ take k a =
    filtered_whole p (take k a)
    (omega (arith, h, taken_at_most k a, ap (λ (rs : List Rank). length rs) both)) in
    sym here ∙ both ∙ there

-- where fewer do, they are all that do
pub fewer : (query : PlainQuery) (ss : List Searched) (c : PlainCut) → first_cut ss ≡ Some c
    → AllByRecursion (IsSearched query) ss
    → length (filter (precedes c) (kept_rows query.k ss)) < query.k
    → filter (precedes c) (kept_rows query.k ss) ≡ filter (precedes c) (whole query ss)
fewer query ss c is all h =
    let preceding = kept_preceding query ss c is all in
    preceding
    ∙ taken_whole query.k (filter (precedes c) (whole query ss))
    (omega (arith, h, ap (λ (rs : List Rank). length rs) preceding))
