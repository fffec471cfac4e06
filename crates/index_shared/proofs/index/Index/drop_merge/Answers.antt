-- The merge is open in what the section finds, and the section is the core's drop of it.
use Rattle.std.proofs.Common.{ℕ, ◌≡◌, sym, ap, ◌∙◌, subst}
use Rattle.std.specs.Prelude.{Contains}
use Rattle.segment.specs.Views.{PlainParts}
use Rattle.index_core.specs.Records.{open_merges}
use Rattle.index_core.specs.MergeCalls.{merge_of, without_merge}
use Rattle.index_shared.proofs.AppendedLemmas.{OwnMore, drop_leaves}
use Rattle.index_shared.proofs.MergeCallLemmas.{merge_found, fewer_merges, keeps_other}
use Rattle.index_shared.proofs.SectionLemmas.{Enters, entering, finds_it, number_is, leaves}
use Rattle.index_shared.proofs.SectionLemmas.{Visited, visited}
use Rattle.index_shared.proofs.ViewCallLemmas.{same_views}
use Rattle.index_shared.proofs.index.Index.drop_merge.Given.{Over}
use Rattle.index_shared.proofs.index.Index.drop_merge.Goals as goal

entered : (g : Over) (c : goal.After-give g)
    → Enters c.args.handle.now c.take-hold.new.pass c.take-hold.result.value c.value.result.now
    c.number.result
entered g c =
    entering c.take-hold.ensures.found c.take-hold.ensures.handle c.value.ensures.value
    c.number.ensures

pub drop_merge-requires : goal.drop_merge-requires
drop_merge-requires g c = λ legal.
    let enters =
    entering c.take-hold.ensures.found c.take-hold.ensures.handle c.value.ensures.value
    c.number.ensures in
    let h = c.args.handle.now in
    let there = merge_found h c.value.result.now (merge_of h.number c.args.job)
    (finds_it enters) legal c.requires.begun in
    subst (λ (n : ℕ). Contains (open_merges c.value.result.now) (merge_of n c.parts-parts.result))
    (sym (number_is enters))
    (subst (λ (p : PlainParts). Contains (open_merges c.value.result.now) (merge_of h.number p))
    (sym c.parts-parts.ensures) there)

left : (g : Over) (c : goal.After-give g)
    → OwnMore c.number.result 3 c.value.result.now c.drop_merge.new.self
left g c =
    drop_leaves c.number.result (merge_of c.number.result c.parts-parts.result) c.value.result.now
    c.drop_merge.new.self c.drop_merge.ensures.ok

fewer : (g : Over) (c : goal.After-give g)
    → open_merges c.drop_merge.new.self
    ≡ without_merge c.args.job.number (open_merges c.value.result.now)
fewer g c =
    c.drop_merge.ensures.ended
    ∙ ap (λ (p : PlainParts). without_merge p.number (open_merges c.value.result.now))
    c.parts-parts.ensures

pub give-requires-clause-leaves : goal.give-requires-clause-leaves
give-requires-clause-leaves g c =
    let enters =
    entering c.take-hold.ensures.found c.take-hold.ensures.handle c.value.ensures.value
    c.number.ensures in
    let left =
    drop_leaves c.number.result (merge_of c.number.result c.parts-parts.result) c.value.result.now
    c.drop_merge.new.self c.drop_merge.ensures.ok in
    leaves enters c.drop_merge.new.self left

section : (g : Over) (c : goal.After-give g)
    → Visited c.args.handle.now c.value.result.now c.drop_merge.new.self c.give.new.pass
section g c =
    visited (entered g c) c.requires.at.1 c.give.ensures.handle c.drop_merge.ensures.before

pub returns-clause-views : goal.returns-clause-views
returns-clause-views g c = same_views (section g c) c.drop_merge.ensures.views

pub returns-clause-merges : goal.returns-clause-merges
returns-clause-merges g c = fewer_merges (section g c) c.args.job.number (fewer g c)

pub returns-clause-keeps : goal.returns-clause-keeps
returns-clause-keeps g c =
    keeps_other (section g c) (left g c) c.drop_merge.ensures.legal c.args.job.number (fewer g c)
