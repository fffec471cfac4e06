-- The report of a view over those of its segments.
use Rattle.std.proofs.Common.{◌≡◌, ◌≤◌, ◌<◌, inl, inr, ℕ, zero, suc, Bool, true, false, cond}
use Rattle.std.proofs.Common.{List, [], ◌∷◌, length, take, Option, Some, None, refl, sym, ap, ◌∙◌}
use Rattle.std.proofs.Common.{subst, arith}
use Rattle.std.specs.Prelude.{filter, nat_le, Contains}
use Rattle.std.specs.Ordering.{is_lt, nat_cmp}
use Rattle.std.specs.List.{AllByRecursion}
use Rattle.std.proofs.lemmas.Bool.Decides.{nat_tests}
use Rattle.sg_base.specs.Cuts.{PlainCut, row_mark, cut_mark, precedes}
use Rattle.sg_base.specs.declared.rank.Rank.{Rank}
use Rattle.sg_base.proofs.MarkLemmas.{marks_ordered}
use Rattle.sg_context.specs.Queries.{PlainQuery}
use Rattle.sg_paths.specs.Operations.{PlainNumbered}
use Rattle.sg_answers.specs.Answers.{answer}
use Rattle.sg_answers.specs.Reports.{ViewedSegment, live_in, count, asked_contexts, IsSpent}
use Rattle.sg_answers.specs.Reports.{IsTruncatedIn, IsExactSearch, IsSound, IsExactAt, Forces}
use Rattle.sg_answers.specs.Reports.{IsReport}
use Rattle.sg_answers.specs.Closing.{cut_cmp, Searched, first_cut, kept_rows, closed_rows}
use Rattle.sg_answers.specs.Closing.{closed_cut, IsSearched, SoundSegmentsMakeASoundView}
use Rattle.sg_answers.proofs.TakingLemmas.{filter_weaker, filter_of_taken}
use Rattle.sg_answers.proofs.CutLemmas.{not_by_first, IsLeast, first_least, AtCut, segments_of}
use Rattle.sg_answers.proofs.CutLemmas.{first_named}
use Rattle.sg_answers.proofs.KeptLemmas.{whole, answer_is, kept_whole, enough, fewer}

-- of one segment, itself
pub only_one : (s t : ViewedSegment) → Contains (s ∷ []) t → s ≡ t
only_one s t (zero, within, is) = is
only_one s t (suc k, within, is) = absurd (omega (arith, within))

truncated_at : (query : PlainQuery) (s : Searched) (o : Option PlainCut) → o ≡ s.cut
    → IsSearched query s → AtCut (λ t d. IsTruncatedIn query t d) s o
truncated_at query s None e searched = tt
truncated_at query s (Some d) e (inl found) =
    let sound : IsSound query (s.segment ∷ []) s.rows (Some d) =
    subst (IsSound query (s.segment ∷ []) s.rows) (sym e) found.1.sound in
    subst (λ t. IsTruncatedIn query t d) (sym (only_one s.segment sound.2.0 sound.2.1)) sound.2.2
truncated_at query s (Some d) e (inr none) =
    absurd (let no : Some d ≡ None = e ∙ none.2 in cc)

exact_at : (query : PlainQuery) (s : Searched) (o : Option PlainCut) → o ≡ s.cut
    → IsSearched query s → AtCut (IsExactAt query) s o
exact_at query s None e searched = tt
exact_at query s (Some d) e (inl found) =
    let truncated : IsTruncatedIn query s.segment d =
    truncated_at query s (Some d) e (inl found) in
    let exact : IsExactSearch query s.segment (Some d) =
    subst (IsExactSearch query s.segment) (sym e) found.1.exact in
    (truncated.generation, exact)
exact_at query s (Some d) e (inr none) = absurd (let no : Some d ≡ None = e ∙ none.2 in cc)

all_at : (P : ViewedSegment → PlainCut → Type 0) (query : PlainQuery) (ss : List Searched)
    → ((s : Searched) → IsSearched query s → AtCut P s s.cut)
    → AllByRecursion (IsSearched query) ss → AllByRecursion (λ s. AtCut P s s.cut) ss
all_at P query [] each all = tt
all_at P query (s ∷ ss) each all = (each s all.0, all_at P query ss each all.1)

-- ---- where it must be truncated

-- the truncation point of a segment whose queue is spent, and the first one
abbrev HasScore : Option PlainCut → ℕ → Type 0
HasScore None n = ⊥
HasScore (Some c) n = n ≤ c.score

not_less : (c d : PlainCut) → is_lt (cut_cmp d c) ≡ false → d.score ≤ c.score
not_less c d h = by_score (is_lt (nat_cmp c.score d.score)) refl
    (not_by_first _ _ (not_by_first _ _ h))
  where
    by_score : (b : Bool) → is_lt (nat_cmp c.score d.score) ≡ b
        → is_lt (nat_cmp c.score d.score) ≡ false → d.score ≤ c.score
    by_score b e f = grind (arith, nat_tests)

score_by : (o : Option PlainCut) (d : PlainCut) (n : ℕ) → IsLeast o (Some d) → d.score ≡ n
    → HasScore o n
score_by None d n least is = absurd least
score_by (Some c) d n least is = omega (arith, not_less c d least, is)

spent_score : (query : PlainQuery) (s : Searched) (o : Option PlainCut) (next : Rank)
    → IsExactSearch query s.segment s.cut → length (asked_contexts query s.segment.documents) ≡ 1
    → IsSpent query s.segment next → IsLeast o s.cut → HasScore o next.score
spent_score query s o next exact one spent least = by_cut s.cut exact least
  where
    by_cut : (x : Option PlainCut) → IsExactSearch query s.segment x → IsLeast o x
        → HasScore o next.score
    by_cut None exact' least' = absurd (exact' one next spent)
    by_cut (Some d) exact' least' =
        let is = exact' one in
        let same : is.next ≡ next =
        let e : Some is.next ≡ Some next = sym is.spent.next ∙ spent.next in cc in
        score_by o d next.score least' (is.score ∙ ap (λ (r : Rank). r.score) same)

-- a searched segment, behind the first truncation point
abbrev IsBehind : PlainQuery → Option PlainCut → Searched → Type 0
IsBehind query o s = IsSearched query s × IsLeast o s.cut

both_all : (query : PlainQuery) (o : Option PlainCut) (ss : List Searched)
    → AllByRecursion (IsSearched query) ss → AllByRecursion (λ s. IsLeast o s.cut) ss
    → AllByRecursion (IsBehind query o) ss
both_all query o [] all least = tt
both_all query o (s ∷ ss) all least =
    ((all.0, least.0), both_all query o ss all.1 least.1)

with_segment : (Q : Searched → Type 0) (ss : List Searched) (s : ViewedSegment)
    → Contains (segments_of ss) s → AllByRecursion Q ss
    → (x : Searched) × (x.segment ≡ s) × Q x
with_segment Q [] s (k, within, is) all = absurd (omega (arith, within))
with_segment Q (x ∷ xs) s (zero, within, is) all = (x, is, all.0)
with_segment Q (x ∷ xs) s (suc k, within, is) all =
    with_segment Q xs s (k, omega (arith, within), is) all.1

forced_at : (query : PlainQuery) (o : Option PlainCut) (next : Rank) (x : Searched)
    → IsBehind query o x → 0 < length x.segment.live
    → length (asked_contexts query x.segment.documents) ≡ 1 → IsSpent query x.segment next
    → HasScore o next.score
forced_at query o next x (inl found, least) live one spent =
    spent_score query x o next found.1.exact one spent least
forced_at query o next x (inr none, least) live one spent =
    absurd (omega (arith, live, ap (λ (ds : List PlainNumbered). length ds) none.0))

forced_score : (query : PlainQuery) (ss : List Searched) (o : Option PlainCut)
    → AllByRecursion (IsSearched query) ss → AllByRecursion (λ s. IsLeast o s.cut) ss
    → (s : ViewedSegment) (next : Rank) → Forces query (segments_of ss) s next
    → HasScore o next.score
forced_score query ss o all least s next forces =
    let there = with_segment (IsBehind query o) ss s forces.is_in (both_all query o ss all least) in
    forced_at query o next there.0 there.2
    (subst (λ (t : ViewedSegment). 0 < length t.live) (sym there.1) forces.has_live)
    (subst (λ (t : ViewedSegment). length (asked_contexts query t.documents) ≡ 1) (sym there.1)
    forces.one_context)
    (subst (λ (t : ViewedSegment). IsSpent query t next) (sym there.1) forces.spent)

at_least_score : (m n : ℕ) → is_lt (nat_cmp m n) ≡ false → n ≤ m
at_least_score m n h = grind (arith, nat_tests)

-- a row that precedes a truncation point has at least its score
precedes_score : (c : PlainCut) (r : Rank) → precedes c r ≡ true → c.score ≤ r.score
precedes_score c r pr =
    at_least_score r.score c.score
    (not_by_first _ _ (marks_ordered.one_way (row_mark r) (cut_mark c) pr))

counts : (c : PlainCut) (n : ℕ) → n ≤ c.score → (r : Rank) → precedes c r ≡ true
    → nat_le n r.score ≡ true
counts c n within r pr = let more = precedes_score c r pr in grind (arith, nat_tests)

-- k rows that precede it are k rows of at least its score
too_many : (query : PlainQuery) (ss : List Searched) (c : PlainCut) (n : ℕ) → first_cut ss ≡ Some c
    → AllByRecursion (IsSearched query) ss → n ≤ c.score
    → query.k ≤ length (filter (precedes c) (kept_rows query.k ss))
    → query.k ≤ count (λ r. nat_le n r.score) (answer query (live_in (segments_of ss)))
too_many query ss c n is all within h =
    let k = query.k in
    let a = whole query ss in
    let kept = ap (λ rs. length (filter (precedes c) rs)) (enough query ss c is all h) in
    let most = filter_of_taken (precedes c) k a in
    let weaker = filter_weaker (precedes c) (λ r. nat_le n r.score) a (counts c n within) in
    let same = ap (λ rs. count (λ r. nat_le n r.score) rs) (answer_is query ss) in
    omega (arith, h, kept, most, weaker, same)

report_some : (query : PlainQuery) (ss : List Searched) (c : PlainCut) (b : Bool)
    → first_cut ss ≡ Some c → AllByRecursion (IsSearched query) ss
    → nat_le query.k (length (filter (precedes c) (kept_rows query.k ss))) ≡ b
    → IsReport query (segments_of ss)
    (cond b (kept_rows query.k ss) (filter (precedes c) (kept_rows query.k ss)))
    (cond b None (Some c))
report_some query ss c true is all test =
    let h : query.k ≤ length (filter (precedes c) (kept_rows query.k ss)) =
    grind (arith, nat_tests) in
    let least : AllByRecursion (λ s. IsLeast (Some c) s.cut) ss =
    subst (λ o. AllByRecursion (λ s. IsLeast o s.cut) ss) is (first_least ss) in
    record {
      sound = enough query ss c is all h ∙ ap (take query.k) (sym (answer_is query ss));
      exact = tt;
      must = λ s next forces. absurd (omega (
        arith,
        forces.few,
        too_many query ss c next.score is all
            (forced_score query ss (Some c) all least s next forces) h,
      ));
    }
report_some query ss c false is all test =
    let h : length (filter (precedes c) (kept_rows query.k ss)) < query.k =
    grind (arith, nat_tests) in
    record {
      sound = (
        fewer query ss c is all h ∙ ap (filter (precedes c)) (sym (answer_is query ss)),
        h,
        first_named (λ t d. IsTruncatedIn query t d) ss c
            (all_at (λ t d. IsTruncatedIn query t d) query ss
            (λ s searched. truncated_at query s s.cut refl searched) all) is,
      );
      exact =
          first_named (IsExactAt query) ss c
          (all_at (IsExactAt query) query ss (λ s searched. exact_at query s s.cut refl searched)
          all)
          is;
      must = λ s next forces. refl;
    }

report_by : (query : PlainQuery) (ss : List Searched) (o : Option PlainCut) → first_cut ss ≡ o
    → AllByRecursion (IsSearched query) ss
    → IsReport query (segments_of ss) (closed_rows query.k (kept_rows query.k ss) o)
    (closed_cut query.k (kept_rows query.k ss) o)
report_by query ss None is all =
    let least : AllByRecursion (λ s. IsLeast None s.cut) ss =
    subst (λ o. AllByRecursion (λ s. IsLeast o s.cut) ss) is (first_least ss) in
    record {
      sound = kept_whole query ss is all ∙ ap (take query.k) (sym (answer_is query ss));
      exact = tt;
      must = λ s next forces. absurd (forced_score query ss None all least s next forces);
    }
report_by query ss (Some c) is all =
    report_some query ss c
    (nat_le query.k (length (filter (precedes c) (kept_rows query.k ss)))) is all refl

pub closes_soundly : SoundSegmentsMakeASoundView
closes_soundly query ss all = report_by query ss (first_cut ss) refl all
