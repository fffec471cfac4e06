-- The section is the core's begin of a merge over the record found.
use Rattle.std.proofs.Common.{sym, subst}
use Rattle.std.specs.Prelude.{IfOk, option_map}
use Rattle.std.specs.Option.{IfSome}
use Rattle.index_core.specs.Histories.{Record}
use Rattle.index_core.specs.LegalHistories.{IsLegal}
use Rattle.index_core.specs.MergeCalls.{merge_of, AreMergeOf}
use Rattle.index_shared.specs.Sections.{seen_by}
use Rattle.index_shared.specs.SharedCalls.{MergeBegun}
use Rattle.index_shared.proofs.AppendedLemmas.{OwnMore, begin_merge_leaves}
use Rattle.index_shared.proofs.MergeBeginLemmas.{BeginsMerge, begins_merge, merge_begun, begun_has}
use Rattle.index_shared.proofs.MergeCallLemmas.{keeps_more}
use Rattle.index_shared.proofs.SectionLemmas.{Enters, entering, finds_it, number_is, leaves}
use Rattle.index_shared.proofs.SectionLemmas.{Visited, visited, seen_is}
use Rattle.index_shared.proofs.ViewCallLemmas.{same_views}
use Rattle.index_shared.proofs.index.Index.begin_merge.Given.{Over}
use Rattle.index_shared.proofs.index.Index.begin_merge.Goals as goal

entered : (g : Over) (c : goal.After-give g)
    → Enters c.args.handle.now c.take-hold.new.pass c.take-hold.result.value c.value.result.now
    c.number.result
entered g c =
    entering c.take-hold.ensures.found c.take-hold.ensures.handle c.value.ensures.value
    c.number.ensures

left : (g : Over) (c : goal.After-give g)
    → OwnMore c.number.result 3 c.value.result.now c.begin_merge-answer.new.self
left g c =
    begin_merge_leaves c.number.result c.begin_merge-answer.result c.value.result.now
    c.begin_merge-answer.new.self c.begin_merge-answer.ensures.ok
    c.begin_merge-answer.ensures.err

pub give-requires-clause-leaves : goal.give-requires-clause-leaves
give-requires-clause-leaves g c =
    let enters =
    entering c.take-hold.ensures.found c.take-hold.ensures.handle c.value.ensures.value
    c.number.ensures in
    let left =
    begin_merge_leaves c.number.result c.begin_merge-answer.result c.value.result.now
    c.begin_merge-answer.new.self c.begin_merge-answer.ensures.ok c.begin_merge-answer.ensures.err
    in
    leaves enters c.begin_merge-answer.new.self left

section : (g : Over) (c : goal.After-give g)
    → Visited c.args.handle.now c.value.result.now c.begin_merge-answer.new.self c.give.new.pass
section g c =
    visited (entered g c) c.requires.at.1 c.give.ensures.handle c.begin_merge-answer.ensures.before

begun : (g : Over) (c : goal.After-give g)
    → BeginsMerge c.args.handle.now c.begin_merge-answer.result
    (merge_of c.args.handle.now.number) c.begin_merge-answer.new.self
begun g c =
    let e = c.begin_merge-answer.ensures in
    begins_merge c.args.handle.now c.number.result c.begin_merge-answer.result merge_of
    c.value.result.now c.begin_merge-answer.new.self (number_is (entered g c))
    (finds_it (entered g c)) e.before e.merge e.ok e.err

-- the same of what the handle has seen
told : (g : Over) (c : goal.After-give g)
    → BeginsMerge c.args.handle.now c.begin_merge-answer.result
    (merge_of c.args.handle.now.number) (seen_by c.give.new.pass)
told g c =
    subst (BeginsMerge c.args.handle.now c.begin_merge-answer.result
    (merge_of c.args.handle.now.number)) (sym (seen_is (section g c))) (begun g c)

pub returns-clause-ok : goal.returns-clause-ok
returns-clause-ok g c =
    let h = c.args.handle.now in
    let e = c.begin_merge-answer.ensures in
    subst (λ (r : Record). IfOk c.begin_merge-answer.result (λ job.
    MergeBegun h (option_map (merge_of h.number) job) r)) (sym (seen_is (section g c)))
    (merge_begun h c.number.result c.begin_merge-answer.result merge_of c.value.result.now
    c.begin_merge-answer.new.self (number_is (entered g c)) (finds_it (entered g c)) e.before
    e.merge e.ok)

pub returns-clause-parts : goal.returns-clause-parts
returns-clause-parts g c =
    subst (λ (r : Record). IfOk c.begin_merge-answer.result (λ job. IfSome job (AreMergeOf r)))
    (sym (seen_is (section g c))) c.begin_merge-answer.ensures.parts

pub returns-clause-legal : goal.returns-clause-legal
returns-clause-legal g c =
    subst IsLegal (sym (seen_is (section g c))) c.begin_merge-answer.ensures.legal

pub returns-clause-has : goal.returns-clause-has
returns-clause-has g c =
    begun_has c.args.handle.now c.give.new.pass c.number.result c.begin_merge-answer.new.self
    c.begin_merge-answer.result (section g c).now_is (number_is (entered g c))
    c.begin_merge-answer.ensures.legal c.begin_merge-answer.ensures.parts
    c.begin_merge-answer.ensures.begun

pub returns-clause-views : goal.returns-clause-views
returns-clause-views g c = same_views (section g c) c.begin_merge-answer.ensures.views

pub returns-clause-merges : goal.returns-clause-merges
returns-clause-merges g c = (told g c).merges

pub returns-clause-fresh : goal.returns-clause-fresh
returns-clause-fresh g c = (told g c).fresh

pub returns-clause-no_merge : goal.returns-clause-no_merge
returns-clause-no_merge g c = (told g c).no_merge

pub returns-clause-keeps : goal.returns-clause-keeps
returns-clause-keeps g c =
    keeps_more (section g c) (left g c) c.begin_merge-answer.ensures.legal (begun g c).still
