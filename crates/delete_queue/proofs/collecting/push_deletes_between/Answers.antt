-- The range of a batch is a slice of its operations.
use Rattle.std.proofs.Common.{◌++◌, List, ap, sym, ◌∙◌, map, append-nil}
use Rattle.std.specs.Prelude.{filter}
use Rattle.sg_paths.specs.declared.op.Op.{Op}
use Rattle.sg_paths.specs.Operations.{plain_op, PlainBatch}
use Rattle.delete_queue.specs.Deletes.{NumberedDelete, deletes_from, is_between}
use Rattle.delete_queue.proofs.RangeLemmas.{pushed_slice, outside_slice}
use Rattle.delete_queue.proofs.collecting.push_deletes_between.Goals as goal

pub returns-in_ok-push_deletes : goal.returns-in_ok-push_deletes
returns-in_ok-push_deletes c =
    let a = c.args.applied in
    let u = c.args.upto in
    let n = c.batch.inside.from in
    c.in_ok-push_deletes.ensures
    ∙ ap (λ (es : List NumberedDelete). c.args.deletes.now.items ++ es)
    (pushed_slice a u n c.items-ops.result.now c.count_upto-low.result c.count_upto-high.result
    c.count_upto-low.ensures c.count_upto-high.ensures c.if-low-high.true
    ∙ ap (λ (raw : List Op). filter (is_between a u) (deletes_from n (map plain_op raw)))
    c.items-ops.ensures
    ∙ ap (λ (b : PlainBatch). filter (is_between a u) (deletes_from b.from b.operations))
    c.batch.view_is)

pub returns-else-low-high : goal.returns-else-low-high
returns-else-low-high c =
    let a = c.args.applied in
    let u = c.args.upto in
    let n = c.batch.inside.from in
    sym (ap (λ (es : List NumberedDelete). c.args.deletes.now.items ++ es)
    (sym (ap (λ (raw : List Op). filter (is_between a u) (deletes_from n (map plain_op raw)))
    c.items-ops.ensures
    ∙ ap (λ (b : PlainBatch). filter (is_between a u) (deletes_from b.from b.operations))
    c.batch.view_is)
    ∙ outside_slice a u n c.items-ops.result.now c.count_upto-low.result
    c.count_upto-high.result c.count_upto-low.ensures c.count_upto-high.ensures
    c.if-low-high.false)
    ∙ append-nil c.args.deletes.now.items)
