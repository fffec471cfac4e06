-- What a view makes of the reports of its segments, and the laws of reports. Source: Lucene's
-- TopSuggestDocsCollector, which goes over segments; truncation points are this project's own.
use Rattle.std.specs.Prelude.{◌≡◌, ◌⊎◌, ◌<◌, ◌≤◌, ℕ, false, nat_eq, nat_le, if◌then◌else◌}
use Rattle.std.specs.Prelude.{List, [], ◌∷◌, ◌++◌, length, map, filter, take, Option, Some, None}
use Rattle.std.specs.List.{flat_map, AllByRecursion}
use Rattle.std.specs.declared.cmp.Ordering.{Ordering}
use Rattle.std.specs.Cmp.{IsTotalOrder, then_total, on_total, nat_cmp_total}
use Rattle.std.specs.Ordering.{nat_cmp, on, then_cmp}
use Rattle.sg_base.specs.Cuts.{PlainCut, mark_cmp, mark_cmp_total, cut_mark, precedes}
use Rattle.sg_base.specs.Ranking.{rank_cmp, put_in, in_order}
use Rattle.sg_base.specs.Rows.{put_row}
use Rattle.sg_base.specs.declared.rank.Rank.{Rank}
use Rattle.sg_context.specs.Queries.{PlainQuery}
use Rattle.sg_answers.specs.Scans.{sooner}
use Rattle.sg_answers.specs.Reports.{ViewedSegment, matching, queue_size}
use Rattle.sg_answers.specs.Reports.{IsSearch, IsSound, IsReport}

-- the order of truncation points: score descending, key ascending bytewise, generation ascending
abbrev pub cut_cmp : PlainCut → PlainCut → Ordering
cut_cmp = then_cmp (on cut_mark mark_cmp) (on (λ c. c.generation) nat_cmp)

-- it is total
pub cut_cmp_total : IsTotalOrder cut_cmp
cut_cmp_total =
    then_total (on_total cut_mark mark_cmp_total)
    (on_total (λ (c : PlainCut). c.generation) nat_cmp_total)

-- a segment with the rows of its search and its truncation point, if it has one
pub record Searched : Type 0 where
  pub segment : ViewedSegment
  pub rows : List Rank
  pub cut : Option PlainCut

-- the first of their truncation points
abbrev pub first_cut : List Searched → Option PlainCut
first_cut [] = None
first_cut (s ∷ more) = sooner cut_cmp s.cut (first_cut more)

-- the first k of their rows
abbrev pub kept_rows : ℕ → List Searched → List Rank
kept_rows k searches = take k (in_order rank_cmp (flat_map (λ s. s.rows) searches))

-- how many rows precede a truncation point
abbrev pub preceding : PlainCut → List Rank → ℕ
preceding cut rows = length (filter (precedes cut) rows)

-- the rows of the report: all that were kept where k of them precede the truncation point or there
-- is none, else those that precede it
abbrev pub closed_rows : ℕ → List Rank → Option PlainCut → List Rank
closed_rows k rows None = rows
closed_rows k rows (Some cut) =
    if nat_le k (preceding cut rows) then rows else filter (precedes cut) rows

-- its truncation point: the one there is, unless k kept rows precede it
abbrev pub closed_cut : ℕ → List Rank → Option PlainCut → Option PlainCut
closed_cut k rows None = None
closed_cut k rows (Some cut) = if nat_le k (preceding cut rows) then None else Some cut

-- a segment with a live document has the report of its search; one without isn't searched
abbrev pub IsSearched : PlainQuery → Searched → Type 0
IsSearched query s =
    ((0 < length s.segment.live) × IsSearch query s.segment s.rows s.cut)
    ⊎ ((s.segment.live ≡ []) × (s.rows ≡ []) × (s.cut ≡ None))

-- Of sound and exact reports of segments, the first k rows and the first truncation point are the
-- report of their view.
abbrev pub SoundSegmentsMakeASoundView : Type 0
SoundSegmentsMakeASoundView =
    (query : PlainQuery) (searches : List Searched) → AllByRecursion (IsSearched query) searches
    → IsReport query (map (λ s. s.segment) searches)
    (closed_rows query.k (kept_rows query.k searches) (first_cut searches))
    (closed_cut query.k (kept_rows query.k searches) (first_cut searches))

-- no row is of that document
abbrev pub OtherDocuments : ℕ → List Rank → Type 0
OtherDocuments seq rows = AllByRecursion (λ x. nat_eq x.seq seq ≡ false) rows

-- Among rows of other documents a row is put in order.
abbrev pub OtherDocumentsAreInOrder : Type 0
OtherDocumentsAreInOrder =
    (r : Rank) (rows : List Rank) → OtherDocuments r.seq rows
    → put_row r rows ≡ put_in rank_cmp r rows

-- Where only the first k are kept, the first k are found all the same when one row more comes.
abbrev pub KeptOneMore : Type 0
KeptOneMore =
    (k : ℕ) (r : Rank) (rows : List Rank)
    → take k (put_in rank_cmp r (take k (in_order rank_cmp rows)))
    ≡ take k (in_order rank_cmp (rows ++ r ∷ []))

-- Where in each segment at most as many paths match as its queue holds, the report is complete.
abbrev pub CompleteWhereQueuesSuffice : Type 0
CompleteWhereQueuesSuffice =
    (query : PlainQuery) (segments : List ViewedSegment) (rows : List Rank) (cut : Option PlainCut)
    → AllByRecursion (λ s. length (matching query s.documents) ≤ queue_size query.k s) segments
    → IsSound query segments rows cut → cut ≡ None
