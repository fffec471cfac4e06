-- Between the two halvings.
use Rattle.std.proofs.Common.{List, refl, ap, ◌∙◌}
use Rattle.std.proofs.Common.{bytes_eq}
use Rattle.sg_paths.specs.Operations.{PlainNumbered}
use Rattle.seg_table.specs.declared.finding.Reach.TheVariants.{Before, Through}
use Rattle.seg_table.specs.Ids.{places_from}
use Rattle.seg_table.proofs.RunLemmas.{falls_in, places_in, in_turn_in, run_in}
use Rattle.seg_table.proofs.table.SegTable.with_id.Goals as goal

pub count_within-low-requires-clause-places : goal.count_within-low-requires-clause-places
count_within-low-requires-clause-places c =
    places_in c.self.inside.docs c.self.inside.docs c.as_slice-ids.result.now
    refl (c.as_slice-ids.ensures.value ∙ c.self.invariant.indexed)

pub count_within-low-requires-clause-falls : goal.count_within-low-requires-clause-falls
count_within-low-requires-clause-falls c =
    falls_in c.self.inside.docs c.self.inside.docs c.as_slice-ids.result.now Before
    c.args.id.now refl (c.as_slice-ids.ensures.value ∙ c.self.invariant.indexed)

pub count_within-high-requires-clause-places : goal.count_within-high-requires-clause-places
count_within-high-requires-clause-places c =
    places_in c.self.inside.docs c.self.inside.docs c.as_slice-ids.result.now
    refl (c.as_slice-ids.ensures.value ∙ c.self.invariant.indexed)

pub count_within-high-requires-clause-falls : goal.count_within-high-requires-clause-falls
count_within-high-requires-clause-falls c =
    falls_in c.self.inside.docs c.self.inside.docs c.as_slice-ids.result.now Through
    c.args.id.now refl (c.as_slice-ids.ensures.value ∙ c.self.invariant.indexed)

pub slice_bounds-of-count : goal.slice_bounds-of-count
slice_bounds-of-count c =
    in_turn_in c.self.inside.docs c.self.inside.docs c.as_slice-ids.result.now
    c.args.id.now c.count_within-low.result c.count_within-high.result
    refl (c.as_slice-ids.ensures.value ∙ c.self.invariant.indexed)
    c.count_within-low.ensures.within c.count_within-low.ensures.below
    c.count_within-high.ensures.from

pub slice_bounds-of-start : goal.slice_bounds-of-start
slice_bounds-of-start c =
    in_turn_in c.self.inside.docs c.self.inside.docs c.as_slice-ids.result.now
    c.args.id.now c.count_within-low.result c.count_within-high.result
    refl (c.as_slice-ids.ensures.value ∙ c.self.invariant.indexed)
    c.count_within-low.ensures.within c.count_within-low.ensures.below
    c.count_within-high.ensures.from

pub returns : goal.returns
returns c =
    c.of.ensures
    ∙ run_in c.self.inside.docs c.self.inside.docs c.as_slice-ids.result.now
    c.args.id.now c.count_within-low.result c.count_within-high.result
    refl (c.as_slice-ids.ensures.value ∙ c.self.invariant.indexed)
    c.count_within-low.ensures.within c.count_within-high.ensures.within
    c.count_within-low.ensures.below c.count_within-low.ensures.from
    c.count_within-high.ensures.below c.count_within-high.ensures.from
    ∙ ap (λ (ds : List PlainNumbered). places_from 0 (λ d. bytes_eq d.document.id c.args.id.now) ds)
    c.self.view_is
