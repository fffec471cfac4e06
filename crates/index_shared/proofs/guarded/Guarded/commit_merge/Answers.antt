-- The core's call.
use Rattle.std.proofs.Common.{ap, ◌∙◌}
use Rattle.index_core.specs.Histories.{Record}
use Rattle.index_core.specs.MergeCalls.{merge_of, released_by_merge, after_commit}
use Rattle.index_shared.proofs.guarded.Guarded.commit_merge.Goals as goal

pub returns-clause-freed : goal.returns-clause-freed
returns-clause-freed c =
    c.commit_merge.ensures.freed
    ∙ ap (λ (r : Record). released_by_merge c.args.caller (merge_of c.args.caller c.args.parts) r)
    c.self.view_is

pub returns-clause-ok : goal.returns-clause-ok
returns-clause-ok c =
    c.commit_merge.ensures.ok
    ∙ ap (λ (r : Record). after_commit c.args.caller (merge_of c.args.caller c.args.parts) r)
    c.self.view_is
