-- The merge that was begun stays open while operations are accepted.
use Rattle.std.proofs.Common.{Option, subst}
use Rattle.std.specs.Option.{IfSome}
use Rattle.segment.specs.Views.{PlainParts}
use Rattle.index_shared.specs.OwnViews.{HasMerge}
use Rattle.shared_speed.proofs.tests.merge_beside_changes.Goals as goal

pub commit_merge-freed-requires-clause-begun : goal.commit_merge-freed-requires-clause-begun
commit_merge-freed-requires-clause-begun g c =
    let begun = subst (λ (job : Option PlainParts). IfSome job (HasMerge c.begin_merge.new.handle))
    c.in-Some.is c.in_ok-job.ensures.has in
    rw (c.in-Ok.ensures.ok) (c.accept_all-changed.ensures.keeps c.in-Some.job begun)

pub drop_merge-requires-clause-begun : goal.drop_merge-requires-clause-begun
drop_merge-requires-clause-begun g c =
    let begun = subst (λ (job : Option PlainParts). IfSome job (HasMerge c.begin_merge.new.handle))
    c.in-Some.is c.in_ok-job.ensures.has in
    rw (c.in-Err.ensures.returned) (c.accept_all-changed.ensures.keeps c.in-Some.job begun).opened
