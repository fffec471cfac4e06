-- A delete needs no analyzer, nor does a view, a flush or a merge.
use Rattle.std.proofs.lemmas.Result.{IfOk-weaker, IfErr-weaker}
use Rattle.wire_json.proofs.reading.command_for.Goals as goal

pub returns-in-Delete-clause-ok : goal.returns-in-Delete-clause-ok
returns-in-Delete-clause-ok c =
    rw c.in-Delete.is
    (IfOk-weaker c.delete.result _ _ (λ a h. h c.args.analyzer.now) c.delete.ensures.ok)

pub returns-in-Delete-clause-refused : goal.returns-in-Delete-clause-refused
returns-in-Delete-clause-refused c =
    rw c.in-Delete.is
    (IfErr-weaker c.delete.result _ _ (λ a h. h c.args.analyzer.now) c.delete.ensures.refused)

pub returns-in-OpenView-clause-ok : goal.returns-in-OpenView-clause-ok
returns-in-OpenView-clause-ok c =
    rw c.in-OpenView.is
    (IfOk-weaker c.open_view.result _ _ (λ a h. h c.args.analyzer.now) c.open_view.ensures.ok)

pub returns-in-OpenView-clause-refused : goal.returns-in-OpenView-clause-refused
returns-in-OpenView-clause-refused c =
    rw c.in-OpenView.is
    (IfErr-weaker c.open_view.result _ _ (λ a h. h c.args.analyzer.now) c.open_view.ensures.refused)

pub returns-in-CloseView-clause-ok : goal.returns-in-CloseView-clause-ok
returns-in-CloseView-clause-ok c =
    rw c.in-CloseView.is
    (IfOk-weaker c.close_view.result _ _ (λ a h. h c.args.analyzer.now) c.close_view.ensures.ok)

pub returns-in-CloseView-clause-refused : goal.returns-in-CloseView-clause-refused
returns-in-CloseView-clause-refused c =
    rw c.in-CloseView.is
    (IfErr-weaker c.close_view.result _ _ (λ a h. h c.args.analyzer.now) c.close_view.ensures.refused)

pub returns-in-Flush-clause-ok : goal.returns-in-Flush-clause-ok
returns-in-Flush-clause-ok c =
    rw c.in-Flush.is
    (IfOk-weaker c.flush.result _ _ (λ a h. h c.args.analyzer.now) c.flush.ensures.ok)

pub returns-in-Flush-clause-refused : goal.returns-in-Flush-clause-refused
returns-in-Flush-clause-refused c =
    rw c.in-Flush.is
    (IfErr-weaker c.flush.result _ _ (λ a h. h c.args.analyzer.now) c.flush.ensures.refused)

pub returns-in-Merge-clause-ok : goal.returns-in-Merge-clause-ok
returns-in-Merge-clause-ok c =
    rw c.in-Merge.is
    (IfOk-weaker c.merge.result _ _ (λ a h. h c.args.analyzer.now) c.merge.ensures.ok)

pub returns-in-Merge-clause-refused : goal.returns-in-Merge-clause-refused
returns-in-Merge-clause-refused c =
    rw c.in-Merge.is
    (IfErr-weaker c.merge.result _ _ (λ a h. h c.args.analyzer.now) c.merge.ensures.refused)
