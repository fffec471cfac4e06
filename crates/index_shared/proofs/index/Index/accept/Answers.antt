-- The section is the core's accept over the record found.
use Rattle.sg_paths.specs.Operations.{plain_op}
use Rattle.index_shared.proofs.AppendedLemmas.{LeavesMerges, accept_leaves}
use Rattle.index_shared.proofs.MergeCallLemmas.{same_merges, keeps}
use Rattle.index_shared.proofs.SectionLemmas.{Enters, entering, leaves, Visited, visited}
use Rattle.index_shared.proofs.ViewCallLemmas.{same_views}
use Rattle.index_shared.proofs.index.Index.accept.Given.{Over}
use Rattle.index_shared.proofs.index.Index.accept.Goals as goal

entered : (g : Over) (c : goal.After-give g)
    → Enters c.args.handle.now c.take-hold.new.pass c.take-hold.result.value c.value.result.now
    c.number.result
entered g c =
    entering c.take-hold.ensures.found c.take-hold.ensures.handle c.value.ensures.value
    c.number.ensures

left : (g : Over) (c : goal.After-give g)
    → LeavesMerges c.number.result c.value.result.now c.accept-answer.new.self
left g c =
    accept_leaves c.number.result (plain_op c.args.op) c.accept-answer.result c.value.result.now
    c.accept-answer.new.self c.accept-answer.ensures.ok c.accept-answer.ensures.err

pub give-requires-clause-leaves : goal.give-requires-clause-leaves
give-requires-clause-leaves g c =
    let enters =
    entering c.take-hold.ensures.found c.take-hold.ensures.handle c.value.ensures.value
    c.number.ensures in
    let left =
    accept_leaves c.number.result (plain_op c.args.op) c.accept-answer.result c.value.result.now
    c.accept-answer.new.self c.accept-answer.ensures.ok c.accept-answer.ensures.err in
    leaves enters c.accept-answer.new.self left.more

section : (g : Over) (c : goal.After-give g)
    → Visited c.args.handle.now c.value.result.now c.accept-answer.new.self c.give.new.pass
section g c =
    visited (entered g c) c.requires.at.1 c.give.ensures.handle c.accept-answer.ensures.before

pub returns-clause-views : goal.returns-clause-views
returns-clause-views g c = same_views (section g c) c.accept-answer.ensures.views

pub returns-clause-merges : goal.returns-clause-merges
returns-clause-merges g c = same_merges (section g c) (left g c).merges

pub returns-clause-keeps : goal.returns-clause-keeps
returns-clause-keeps g c =
    keeps (section g c) (left g c).more c.accept-answer.ensures.legal (left g c).merges
