-- One worker alone: what each line makes it print, and its state afterwards, which never depends on
-- the rows that were printed. Source: this project's own.
use Rattle.std.specs.Prelude.{ℕ, ◌+◌, not, nat_le, if◌then◌else◌, List, [], ◌∷◌, ◌++◌, length}
use Rattle.std.specs.Prelude.{filter, find, Option, Some, None, bytes_eq}
use Rattle.sg_context.specs.Queries.{PlainQuery}
use Rattle.sg_paths.specs.Operations.{PlainOp}
use Rattle.index_core.specs.Histories.{Record, View, Merge}
use Rattle.index_core.specs.Records.{accepted, open_views}
use Rattle.index_core.specs.Calls.{empty_record, after_accept, after_begin, after_end, begun_by}
use Rattle.index_core.specs.MergeCalls.{merge_begun_by, after_begin_merge, after_commit}
use Rattle.index_core.specs.declared.limits.TheConstants.{MOST_OPERATIONS, MOST_OPEN_VIEWS}
use Rattle.index_shared.specs.Offers.{after_flush, built_by_flush}
use Rattle.wire_json.specs.Commands.{Command, accepts, suggests, opens, closes, flushes, merges}
use Rattle.wire_json.specs.Commands.{refused}
use Rattle.wire_replies.specs.Replies.{Reply, numbered, opened, closed, built, merged, failed}
use Rattle.wire_replies.specs.declared.error_kind.ErrorKind.TheVariants.{Full, View as NoView}
use Rattle.wire_replies.specs.declared.error_kind.ErrorKind.TheVariants.{Views}

-- a view that is open under a name
pub record Open : Type 0 where
  pub name : List ℕ
  pub view : View

-- a worker: the record that it has seen, and its named views in the order of their opening
pub record Worker : Type 0 where
  pub seen : Record
  pub kept : List Open

-- the worker before any line
abbrev pub untouched : Worker
untouched = record { seen = empty_record; kept = [] }

-- the worker with another record
abbrev pub with_seen : Record → Worker → Worker
with_seen r w = record { seen = r; kept = w.kept }

-- what a line prints: this reply, or a report of a query over a view of a record
pub data Expected : Type 0 where
  prints : Reply → Expected
  reports : Record → View → PlainQuery → Expected

-- what a line prints, if anything, and the worker after it
pub record Step : Type 0 where
  pub expected : Option Expected
  pub after : Worker

-- a line that prints one reply
abbrev pub says : Reply → Worker → Step
says reply after = record { expected = Some (prints reply); after = after }

-- ---- merging

-- how many segments are merged, 0 where the plan is none
abbrev pub merged_count : Option Merge → ℕ
merged_count None = 0
merged_count (Some m) = length m.generations

-- a merge that begins next has begun and ended, if there is one
abbrev pub after_merge_of : ℕ → Record → Option Merge → Record
after_merge_of caller r None = r
after_merge_of caller r (Some m) = after_commit caller m (after_begin_merge caller r)

-- the merge that the plan begins has begun and ended
abbrev pub after_merge : ℕ → Record → Record
after_merge caller r = after_merge_of caller r (merge_begun_by caller r)

-- ---- named views

-- the view of that name, if one is open
abbrev pub named : List ℕ → List Open → Option Open
named name kept = find (λ o. bytes_eq o.name name) kept

-- those of other names
abbrev pub without_name : List ℕ → List Open → List Open
without_name name kept = filter (λ o. not (bytes_eq o.name name)) kept

-- ---- lines

-- an operation prints its number, unless the index is full
abbrev pub accept_step : ℕ → ℕ → PlainOp → Worker → Step
accept_step caller line operation w =
    if nat_le MOST_OPERATIONS (accepted w.seen)
    then says (failed line Full) w
    else says (numbered line (accepted w.seen + 1))
    (with_seen (after_accept caller operation w.seen) w)

-- a line that begins a view, over the record after a flush, unless too many are open
abbrev pub begin_step : ℕ → Worker → Record → Step → Step
begin_step line w r begins =
    if nat_le MOST_OPEN_VIEWS (length (open_views r))
    then says (failed line Views) (with_seen r w)
    else begins

-- a query over a view of its own, which is ended at once
abbrev pub query_step : ℕ → ℕ → PlainQuery → Worker → Step
query_step caller line query w =
    let r = after_flush caller w.seen in
    begin_step line w r (record {
      expected = Some (reports (after_begin caller r) (begun_by caller r) query);
      after = with_seen (after_end caller (begun_by caller r).view (after_begin caller r)) w;
    })

-- a query over a named view
abbrev pub named_step : ℕ → PlainQuery → Option Open → Worker → Step
named_step line query None w = says (failed line NoView) w
named_step line query (Some o) w =
    record { expected = Some (reports w.seen o.view query); after = w }

-- a view is begun under a name
abbrev pub open_step : ℕ → ℕ → List ℕ → Option Open → Worker → Step
open_step caller line name (Some o) w = says (failed line NoView) w
open_step caller line name None w =
    let r = after_flush caller w.seen in
    begin_step line w r (says (opened line name (begun_by caller r).upto) (record {
      seen = after_begin caller r;
      kept = w.kept ++ record { name = name; view = begun_by caller r } ∷ [];
    }))

-- a named view is ended
abbrev pub close_step : ℕ → ℕ → List ℕ → Option Open → Worker → Step
close_step caller line name None w = says (failed line NoView) w
close_step caller line name (Some o) w =
    says (closed line name) (record {
      seen = after_end caller o.view.view w.seen;
      kept = without_name name w.kept;
    })

-- what is buffered becomes segments
abbrev pub flush_step : ℕ → ℕ → Worker → Step
flush_step caller line w =
    says (built line (built_by_flush caller w.seen)) (with_seen (after_flush caller w.seen) w)

-- one merge, if the plan begins one
abbrev pub merge_step : ℕ → ℕ → Worker → Step
merge_step caller line w =
    says (merged line (merged_count (merge_begun_by caller w.seen)))
    (with_seen (after_merge caller w.seen) w)

-- A line, by what it asks for. A blank line prints nothing, and no line asks for a barrier.
abbrev pub step : ℕ → ℕ → Command → Worker → Step
step caller line (accepts lane operation) w = accept_step caller line operation w
step caller line (suggests lane query None) w = query_step caller line query w
step caller line (suggests lane query (Some name)) w =
    named_step line query (named name w.kept) w
step caller line (opens lane name) w = open_step caller line name (named name w.kept) w
step caller line (closes lane name) w = close_step caller line name (named name w.kept) w
step caller line (flushes lane) w = flush_step caller line w
step caller line (merges lane) w = merge_step caller line w
step caller line (refused kind) w = says (failed line kind) w
step caller line other w = record { expected = None; after = w }
