-- Sound reports: what rows, and the truncation point behind them, say of the segments of a view.
-- A search of one segment, a view of several and a printed line all cite this one definition.
-- Source: this project's own, after the admissible queue of Lucene's NRTSuggester.
use Rattle.std.specs.Prelude.{◌≡◌, ◌≤◌, ◌<◌, ◌+◌, ◌-◌, ◌*◌, ◌/◌, ℕ, min, max, Bool, true, ◌&&◌}
use Rattle.std.specs.Prelude.{nat_eq, nat_le, List, [], ◌∷◌, length, map, filter, take, fold}
use Rattle.std.specs.Prelude.{if◌then◌else◌}
use Rattle.std.specs.Prelude.{Option, Some, None, is_some, slice_get, Contains}
use Rattle.std.specs.List.{flat_map, list_any, starts_with}
use Rattle.std.specs.Ordering.{is_le}
use Rattle.sg_base.specs.Cuts.{PlainCut, mark_cmp, row_mark, cut_mark, precedes}
use Rattle.sg_base.specs.Ranking.{rank_cmp, in_order}
use Rattle.sg_base.specs.declared.rank.Rank.{Rank}
use Rattle.sg_context.specs.Boosts.{boost_of}
use Rattle.sg_context.specs.Queries.{PlainQuery}
use Rattle.sg_paths.specs.Operations.{PlainNumbered}
use Rattle.sg_paths.specs.Paths.{paths, distinct_texts}
use Rattle.sg_answers.specs.Answers.{matching_ranks, answer}
use Rattle.sg_answers.specs.declared.limits.TheConstants.{MOST_QUEUED}

-- what a view sees of a segment: its documents, deleted ones too, and those that are live
pub record ViewedSegment : Type 0 where
  pub generation : ℕ
  pub documents : List PlainNumbered
  pub live : List PlainNumbered

-- the live ones of documents, by their live docs
abbrev pub live_of : List PlainNumbered → List Bool → List PlainNumbered
live_of [] marks = []
live_of (d ∷ ds) [] = []
live_of (d ∷ ds) (live ∷ marks) = if live then d ∷ live_of ds marks else live_of ds marks

-- the segment of documents with these live docs
abbrev pub viewed_segment : ℕ → List PlainNumbered → List Bool → ViewedSegment
viewed_segment generation ds marks =
    record { generation = generation; documents = ds; live = live_of ds marks }

-- the live documents of segments
abbrev pub live_in : List ViewedSegment → List PlainNumbered
live_in segments = flat_map (λ s. s.live) segments

-- the greatest number of paths of one document
abbrev pub most_paths : List PlainNumbered → ℕ
most_paths ds = fold (λ most d. max most (length (paths d.document))) 0 ds

-- a quotient, rounded up
abbrev pub rounded_up : ℕ → ℕ → ℕ
rounded_up n d = (n + (d - 1)) / d

-- how many paths a search for k rows keeps, among so many documents with at most so many paths
-- each, where so many are live
abbrev pub queue_size_of : ℕ → ℕ → ℕ → ℕ → ℕ
queue_size_of k most documents live = min MOST_QUEUED (rounded_up (k * most * documents) live)

-- the queue size of a segment, where a document is live
abbrev pub queue_size : ℕ → ViewedSegment → ℕ
queue_size k s = queue_size_of k (most_paths s.documents) (length s.documents) (length s.live)

-- where the matching paths of documents stand, those of deleted ones too: one for each document,
-- context and key
abbrev pub matching : PlainQuery → List PlainNumbered → List Rank
matching query ds = flat_map (matching_ranks query) ds

-- the contexts of documents that a query asks for, each once
abbrev pub asked_contexts : PlainQuery → List PlainNumbered → List (List ℕ)
asked_contexts query ds =
    filter (λ context. is_some (boost_of query.contexts context))
    (distinct_texts (map (λ p. p.context) (flat_map (λ d. paths d.document) ds)))

-- whether a row precedes a truncation point or has its score and key
abbrev pub is_upto : PlainCut → Rank → Bool
is_upto cut r = is_le (mark_cmp (row_mark r) (cut_mark cut))

-- how many pass a test
abbrev pub count : (Rank → Bool) → List Rank → ℕ
count test rs = length (filter test rs)

-- what a truncation point says of matching paths, where the queue had so much room: more than that
-- many have at least its score; its key begins with the query's; one path has its score and a key
-- that begins with its key; and with one more for each context that is asked for, more than that
-- many stand before it or at it
pub record TruncatesAt (query : PlainQuery) (ds : List PlainNumbered) (cut : PlainCut)
    : Type 0 where
  pub crowded : cut.room < count (λ r. nat_le cut.score r.score) (matching query ds)
  pub in_query : starts_with nat_eq cut.key query.prefix ≡ true
  pub met : list_any (λ r. nat_eq r.score cut.score && starts_with nat_eq r.key cut.key)
      (matching query ds) ≡ true
  pub upto : cut.room < count (is_upto cut) (matching query ds) + length (asked_contexts query ds)

-- the truncation point names the segment, in which a document is live; its room is the segment's
-- queue size, and it speaks of the segment's paths
pub record IsTruncatedIn (query : PlainQuery) (s : ViewedSegment) (cut : PlainCut) : Type 0 where
  pub generation : cut.generation ≡ s.generation
  pub has_live : 0 < length s.live
  pub room : cut.room ≡ queue_size query.k s
  pub point : TruncatesAt query s.documents cut

-- the matching paths of a segment, a greater score first, then in byte order: where one context is
-- asked for, equal scores are equal weights, so that is their rank order
abbrev pub path_order : PlainQuery → ViewedSegment → List Rank
path_order query s = in_order rank_cmp (matching query s.documents)

-- the live documents that have one of these paths
abbrev pub live_among : ViewedSegment → List Rank → List PlainNumbered
live_among s rs = filter (λ d. list_any (λ r. nat_eq r.seq d.seq) rs) s.live

-- the queue is spent on deleted paths: the first paths that it holds are of fewer than k live
-- documents, and this is the path after them
pub record IsSpent (query : PlainQuery) (s : ViewedSegment) (path : Rank) : Type 0 where
  pub next : slice_get (path_order query s) (queue_size query.k s) ≡ Some path
  pub few : length (live_among s (take (queue_size query.k s) (path_order query s))) < query.k

-- the queue is spent, and the truncation point is the next path's: its score, and the front of its
-- key
pub record IsNextOf (query : PlainQuery) (s : ViewedSegment) (cut : PlainCut) : Type 0 where
  pub next : Rank
  pub spent : IsSpent query s next
  pub score : cut.score ≡ next.score
  pub key : starts_with nat_eq next.key cut.key ≡ true

-- where one context of a segment is asked for, its search is truncated exactly where its queue is
-- spent on deleted paths, and at the next path
abbrev pub IsExactSearch : PlainQuery → ViewedSegment → Option PlainCut → Type 0
IsExactSearch query s None =
    length (asked_contexts query s.documents) ≡ 1 → (next : Rank) → IsSpent query s next → ⊥
IsExactSearch query s (Some cut) =
    length (asked_contexts query s.documents) ≡ 1 → IsNextOf query s cut

-- rows and a truncation point over segments: without one the rows are the first k of the answer
-- over the live documents; with one they are exactly those of the answer that precede it, fewer
-- than k, and it is that of a segment
abbrev pub IsSound : PlainQuery → List ViewedSegment → List Rank → Option PlainCut → Type 0
IsSound query segments rows None = rows ≡ take query.k (answer query (live_in segments))
IsSound query segments rows (Some cut) =
    (rows ≡ filter (precedes cut) (answer query (live_in segments))) × (length rows < query.k)
    × ((s : ViewedSegment) × Contains segments s × IsTruncatedIn query s cut)

-- the report of a search of one segment in which a document is live
pub record IsSearch (query : PlainQuery) (s : ViewedSegment) (rows : List Rank)
    (cut : Option PlainCut) : Type 0 where
  pub sound : IsSound query (s ∷ []) rows cut
  pub exact : IsExactSearch query s cut

-- the truncation point names the segment, and is exact where one context of it is asked for
abbrev pub IsExactAt : PlainQuery → ViewedSegment → PlainCut → Type 0
IsExactAt query s cut =
    (cut.generation ≡ s.generation)
    × (length (asked_contexts query s.documents) ≡ 1 → IsNextOf query s cut)

-- a truncation point is exact for the segment that it names
abbrev pub IsExactWhereNamed : PlainQuery → List ViewedSegment → Option PlainCut → Type 0
IsExactWhereNamed query segments None = Unit {0}
IsExactWhereNamed query segments (Some cut) =
    (s : ViewedSegment) × Contains segments s × IsExactAt query s cut

-- a segment by which the report of a view must be truncated: one context of it is asked for, its
-- queue is spent, and fewer than k rows of the whole answer have at least the next path's score
pub record Forces (query : PlainQuery) (segments : List ViewedSegment) (s : ViewedSegment)
    (next : Rank) : Type 0 where
  pub is_in : Contains segments s
  pub has_live : 0 < length s.live
  pub one_context : length (asked_contexts query s.documents) ≡ 1
  pub spent : IsSpent query s next
  pub few : count (λ r. nat_le next.score r.score) (answer query (live_in segments)) < query.k

-- the report of a view: sound, exact for the segment that its truncation point names, and truncated
-- where a segment forces it
pub record IsReport (query : PlainQuery) (segments : List ViewedSegment) (rows : List Rank)
    (cut : Option PlainCut) : Type 0 where
  pub sound : IsSound query segments rows cut
  pub exact : IsExactWhereNamed query segments cut
  pub must : (s : ViewedSegment) (next : Rank) → Forces query segments s next → is_some cut ≡ true

-- rows and a truncation point over all documents that were added and the live ones among them,
-- where the segments aren't known
abbrev pub IsSoundOver : PlainQuery → List PlainNumbered → List PlainNumbered → List Rank
    → Option PlainCut → Type 0
IsSoundOver query added live rows None = rows ≡ take query.k (answer query live)
IsSoundOver query added live rows (Some cut) =
    (rows ≡ filter (precedes cut) (answer query live)) × (length rows < query.k)
    × (query.k ≤ cut.room) × (cut.room ≤ MOST_QUEUED) × TruncatesAt query added cut
