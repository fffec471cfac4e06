-- The merge is open in what the section finds, which says of its segment what the work brings; the
-- section is the core's end of it.
use Rattle.std.proofs.Common.{ℕ, ◌≡◌, sym, ap, ◌∙◌, subst}
use Rattle.std.specs.Prelude.{Contains}
use Rattle.segment.specs.Views.{PlainParts}
use Rattle.index_core.specs.Histories.{Record}
use Rattle.index_core.specs.Records.{open_merges}
use Rattle.index_core.specs.MergeCalls.{merge_of, without_merge}
use Rattle.index_shared.specs.SharedCalls.{Committed}
use Rattle.index_shared.proofs.AppendedLemmas.{OwnMore, commit_leaves}
use Rattle.index_shared.proofs.MergeCallLemmas.{merge_found, worked_found, committed}
use Rattle.index_shared.proofs.MergeCallLemmas.{fewer_merges, keeps_other}
use Rattle.index_shared.proofs.SectionLemmas.{Enters, entering, finds_it, number_is, leaves}
use Rattle.index_shared.proofs.SectionLemmas.{Visited, visited, seen_is}
use Rattle.index_shared.proofs.ViewCallLemmas.{same_views}
use Rattle.index_shared.proofs.index.Index.commit_merge.Given.{Over}
use Rattle.index_shared.proofs.index.Index.commit_merge.Goals as goal

entered : (g : Over) (c : goal.After-give g)
    → Enters c.args.handle.now c.take-hold.new.pass c.take-hold.result.value c.value.result.now
    c.number.result
entered g c =
    entering c.take-hold.ensures.found c.take-hold.ensures.handle c.value.ensures.value
    c.number.ensures

pub commit_merge-freed-requires-clause-open : goal.commit_merge-freed-requires-clause-open
commit_merge-freed-requires-clause-open g c = λ legal.
    let enters =
    entering c.take-hold.ensures.found c.take-hold.ensures.handle c.value.ensures.value
    c.number.ensures in
    let h = c.args.handle.now in
    let there = merge_found h c.value.result.now (merge_of h.number c.args.done.parts)
    (finds_it enters) legal c.requires.begun.opened in
    subst (λ (n : ℕ). Contains (open_merges c.value.result.now) (merge_of n c.parts-parts.result.0))
    (sym (number_is enters))
    (subst (λ (p : PlainParts). Contains (open_merges c.value.result.now) (merge_of h.number p))
    (sym c.parts-parts.ensures.parts) there)

pub commit_merge-freed-requires-clause-segment : goal.commit_merge-freed-requires-clause-segment
commit_merge-freed-requires-clause-segment g c = λ legal.
    let enters =
    entering c.take-hold.ensures.found c.take-hold.ensures.handle c.value.ensures.value
    c.number.ensures in
    c.parts-parts.ensures.segment
    ∙ worked_found c.args.handle.now c.number.result c.value.result.now c.args.done.parts
    c.parts-parts.result.0 c.args.done.segment (number_is enters) c.parts-parts.ensures.parts
    (finds_it enters) legal c.requires.begun c.parts-parts.ensures.worked

left : (g : Over) (c : goal.After-give g)
    → OwnMore c.number.result 3 c.value.result.now c.commit_merge-freed.new.self
left g c =
    commit_leaves c.number.result (merge_of c.number.result c.parts-parts.result.0)
    c.value.result.now c.commit_merge-freed.new.self c.commit_merge-freed.ensures.ok

fewer : (g : Over) (c : goal.After-give g)
    → open_merges c.commit_merge-freed.new.self
    ≡ without_merge c.args.done.parts.number (open_merges c.value.result.now)
fewer g c =
    c.commit_merge-freed.ensures.ended
    ∙ ap (λ (p : PlainParts). without_merge p.number (open_merges c.value.result.now))
    c.parts-parts.ensures.parts

pub give-requires-clause-leaves : goal.give-requires-clause-leaves
give-requires-clause-leaves g c =
    let enters =
    entering c.take-hold.ensures.found c.take-hold.ensures.handle c.value.ensures.value
    c.number.ensures in
    let left =
    commit_leaves c.number.result (merge_of c.number.result c.parts-parts.result.0)
    c.value.result.now c.commit_merge-freed.new.self c.commit_merge-freed.ensures.ok in
    leaves enters c.commit_merge-freed.new.self left

section : (g : Over) (c : goal.After-give g)
    → Visited c.args.handle.now c.value.result.now c.commit_merge-freed.new.self c.give.new.pass
section g c =
    visited (entered g c) c.requires.at.1 c.give.ensures.handle c.commit_merge-freed.ensures.before

pub returns-clause-ended : goal.returns-clause-ended
returns-clause-ended g c =
    let h = c.args.handle.now in
    let e = c.commit_merge-freed.ensures in
    subst (λ (r : Record). Committed h (merge_of h.number c.args.done.parts)
    c.commit_merge-freed.result.gens.items r) (sym (seen_is (section g c)))
    (committed h c.number.result c.args.done.parts c.parts-parts.result.0
    c.commit_merge-freed.result.gens.items c.value.result.now c.commit_merge-freed.new.self
    (number_is (entered g c)) c.parts-parts.ensures.parts (finds_it (entered g c)) e.before e.freed
    e.ok)

pub returns-clause-views : goal.returns-clause-views
returns-clause-views g c = same_views (section g c) c.commit_merge-freed.ensures.views

pub returns-clause-merges : goal.returns-clause-merges
returns-clause-merges g c = fewer_merges (section g c) c.args.done.parts.number (fewer g c)

pub returns-clause-keeps : goal.returns-clause-keeps
returns-clause-keeps g c =
    keeps_other (section g c) (left g c) c.commit_merge-freed.ensures.legal
    c.args.done.parts.number (fewer g c)
