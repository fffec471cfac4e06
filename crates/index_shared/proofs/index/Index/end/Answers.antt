-- The view is open in what the section finds, and the section is the core's end of it.
use Rattle.std.proofs.Common.{ℕ, sym, subst}
use Rattle.std.specs.Prelude.{Contains}
use Rattle.index_core.specs.Records.{open_views}
use Rattle.index_core.specs.OpenViews.{view_of}
use Rattle.index_shared.proofs.AppendedLemmas.{LeavesMerges, end_leaves}
use Rattle.index_shared.proofs.MergeCallLemmas.{same_merges, keeps}
use Rattle.index_shared.proofs.SectionLemmas.{Enters, entering, finds_it, number_is, leaves}
use Rattle.index_shared.proofs.SectionLemmas.{Visited, visited}
use Rattle.index_shared.proofs.ViewCallLemmas.{view_found, fewer_views}
use Rattle.index_shared.proofs.index.Index.end.Given.{Over}
use Rattle.index_shared.proofs.index.Index.end.Goals as goal

entered : (g : Over) (c : goal.After-give g)
    → Enters c.args.handle.now c.take-hold.new.pass c.take-hold.result.value c.value.result.now
    c.number.result
entered g c =
    entering c.take-hold.ensures.found c.take-hold.ensures.handle c.value.ensures.value
    c.number.ensures

pub end_view-freed-requires : goal.end_view-freed-requires
end_view-freed-requires g c = λ legal.
    let enters =
    entering c.take-hold.ensures.found c.take-hold.ensures.handle c.value.ensures.value
    c.number.ensures in
    subst (λ (n : ℕ). Contains (open_views c.value.result.now) (view_of n c.args.parts))
    (sym (number_is enters))
    (view_found c.args.handle.now c.value.result.now (view_of c.args.handle.now.number c.args.parts)
    (finds_it enters) legal c.requires.begun)

left : (g : Over) (c : goal.After-give g)
    → LeavesMerges c.number.result c.value.result.now c.end_view-freed.new.self
left g c =
    end_leaves c.number.result c.args.parts.number c.value.result.now c.end_view-freed.new.self
    c.end_view-freed.ensures.ok

pub give-requires-clause-leaves : goal.give-requires-clause-leaves
give-requires-clause-leaves g c =
    let enters =
    entering c.take-hold.ensures.found c.take-hold.ensures.handle c.value.ensures.value
    c.number.ensures in
    let left =
    end_leaves c.number.result c.args.parts.number c.value.result.now c.end_view-freed.new.self
    c.end_view-freed.ensures.ok in
    leaves enters c.end_view-freed.new.self left.more

section : (g : Over) (c : goal.After-give g)
    → Visited c.args.handle.now c.value.result.now c.end_view-freed.new.self c.give.new.pass
section g c =
    visited (entered g c) c.requires.at.1 c.give.ensures.handle c.end_view-freed.ensures.before

pub returns-clause-views : goal.returns-clause-views
returns-clause-views g c =
    fewer_views (section g c) c.args.parts.number c.end_view-freed.ensures.ended

pub returns-clause-merges : goal.returns-clause-merges
returns-clause-merges g c = same_merges (section g c) (left g c).merges

pub returns-clause-keeps : goal.returns-clause-keeps
returns-clause-keeps g c =
    keeps (section g c) (left g c).more c.end_view-freed.ensures.legal (left g c).merges
