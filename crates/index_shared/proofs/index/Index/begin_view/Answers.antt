-- The section is the core's begin of a view over the record found.
use Rattle.std.proofs.Common.{refl}
use Rattle.index_core.specs.OpenViews.{view_of}
use Rattle.index_shared.proofs.AppendedLemmas.{LeavesMerges, begin_leaves}
use Rattle.index_shared.proofs.MergeCallLemmas.{same_merges, keeps}
use Rattle.index_shared.proofs.SectionLemmas.{Enters, entering, number_is, leaves, Visited, visited}
use Rattle.index_shared.proofs.ViewCallLemmas.{view_begun, view_fresh, no_view}
use Rattle.index_shared.proofs.index.Index.begin_view.Given.{Over}
use Rattle.index_shared.proofs.index.Index.begin_view.Goals as goal

entered : (g : Over) (c : goal.After-give g)
    → Enters c.args.handle.now c.take-hold.new.pass c.take-hold.result.value c.value.result.now
    c.number.result
entered g c =
    entering c.take-hold.ensures.found c.take-hold.ensures.handle c.value.ensures.value
    c.number.ensures

left : (g : Over) (c : goal.After-give g)
    → LeavesMerges c.number.result c.value.result.now c.begin_view-answer.new.self
left g c =
    begin_leaves c.number.result c.begin_view-answer.result c.value.result.now
    c.begin_view-answer.new.self c.begin_view-answer.ensures.ok c.begin_view-answer.ensures.err

pub give-requires-clause-leaves : goal.give-requires-clause-leaves
give-requires-clause-leaves g c =
    let enters =
    entering c.take-hold.ensures.found c.take-hold.ensures.handle c.value.ensures.value
    c.number.ensures in
    let left =
    begin_leaves c.number.result c.begin_view-answer.result c.value.result.now
    c.begin_view-answer.new.self c.begin_view-answer.ensures.ok c.begin_view-answer.ensures.err in
    leaves enters c.begin_view-answer.new.self left.more

section : (g : Over) (c : goal.After-give g)
    → Visited c.args.handle.now c.value.result.now c.begin_view-answer.new.self c.give.new.pass
section g c =
    visited (entered g c) c.requires.at.1 c.give.ensures.handle c.begin_view-answer.ensures.before

pub returns-clause-views : goal.returns-clause-views
returns-clause-views g c =
    view_begun (section g c) c.number.result c.begin_view-answer.result view_of
    (number_is (entered g c)) (λ n p. refl) c.begin_view-answer.ensures.opened

pub returns-clause-fresh : goal.returns-clause-fresh
returns-clause-fresh g c =
    view_fresh (section g c) c.begin_view-answer.result (λ t. t.number)
    c.begin_view-answer.ensures.others

pub returns-clause-no_view : goal.returns-clause-no_view
returns-clause-no_view g c =
    no_view (section g c) c.begin_view-answer.result c.begin_view-answer.ensures.err

pub returns-clause-merges : goal.returns-clause-merges
returns-clause-merges g c = same_merges (section g c) (left g c).merges

pub returns-clause-keeps : goal.returns-clause-keeps
returns-clause-keeps g c =
    keeps (section g c) (left g c).more c.begin_view-answer.ensures.legal (left g c).merges
