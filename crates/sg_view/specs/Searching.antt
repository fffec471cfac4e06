-- What queries of a view need of a desk, and the steps that they take. Source: this project's own,
-- after the admissible queue of Lucene's NRTSuggester.
use Rattle.std.specs.Prelude.{ℕ, ◌+◌, ◌*◌, max, nat_eq, List, length, fold, if◌then◌else◌}
use Rattle.sg_context.specs.Queries.{PlainQuery}
use Rattle.sg_paths.specs.AllPaths.{all_paths}
use Rattle.sg_answers.specs.Reports.{ViewedSegment, queue_size}
use Rattle.fst_walk.specs.Starts.{most_steps}
use Rattle.path_desk.specs.declared.need.Need.{Need}
use Rattle.best_first.specs.Parts.{path_tails, most_bytes}
use Rattle.segment.specs.Items.{total_of}

-- the queue of a segment for k rows: none where no document is live, since it isn't searched
abbrev pub queue_of : ℕ → ViewedSegment → ℕ
queue_of k s = if nat_eq (length s.live) 0 then 0 else queue_size k s

-- the greatest queue of some segments
abbrev pub greatest_queue : ℕ → List ViewedSegment → ℕ
greatest_queue k segments = fold (λ most s. max most (queue_of k s)) 0 segments

-- what a query for k rows needs of a desk: the greatest queue, the most bytes that a path may have,
-- and lists of k hits
abbrev pub need_of : ℕ → List ViewedSegment → Need
need_of k segments = record { room = greatest_queue k segments; bytes = 324; k = k }

-- the most steps of a segment's search: those of the starts, and for each path that the queue holds
-- one for each byte and one more
abbrev pub search_steps : PlainQuery → ViewedSegment → ℕ
search_steps query s =
    let tails = path_tails (all_paths s.documents) in
    most_steps tails query + queue_size query.k s * (most_bytes tails + 1)

-- those of a segment, which isn't searched where no document is live
abbrev pub segment_steps : PlainQuery → ViewedSegment → ℕ
segment_steps query s = if nat_eq (length s.live) 0 then 0 else search_steps query s

-- those of all segments together
abbrev pub view_steps : PlainQuery → List ViewedSegment → ℕ
view_steps query segments = total_of (segment_steps query) segments
