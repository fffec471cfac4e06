-- What is shared are the parts.
use Rattle.std.proofs.Common.{◌∙◌, sym, subst}
use Rattle.segment.specs.Views.{AreBuildable}
use Rattle.index_core.specs.Histories.{Record}
use Rattle.index_core.specs.CurrentPieces.{AreOf}
use Rattle.index_core.specs.Fields.{record_of}
use Rattle.index_core.proofs.PartsLemmas.{parts_given, none_behind}
use Rattle.index_core.proofs.ViewingLemmas.{shared}
use Rattle.index_core.proofs.machine.Core.pieces.Goals as goal

given : (c : goal.In_ok-parts)
    → AreOf (record_of c.self.inside.store) c.in_ok-parts.parts × AreBuildable c.in_ok-parts.parts
given c =
    let e = c.in_ok-parts.ensures in
    let parts = c.in_ok-parts.parts in
    parts_given (shared c.self.invariant) parts.number parts.upto parts.pieces parts.batches
    parts.generations (e.upto ∙ sym c.self.invariant.fields.frozen_upto_last) e.pieces e.batches
    e.gens

pub returns-clause-parts : goal.returns-clause-parts
returns-clause-parts c =
    subst (λ (r : Record). AreOf r c.in_ok-parts.parts) c.self.view_is (given c).0

pub returns-clause-buildable : goal.returns-clause-buildable
returns-clause-buildable c = (given c).1

pub returns-clause-none : goal.returns-clause-none
returns-clause-none c none =
    let e = c.in_ok-parts.ensures in
    let parts = c.in_ok-parts.parts in
    none_behind (shared c.self.invariant) parts.upto parts.pieces parts.batches
    (e.upto ∙ sym c.self.invariant.fields.frozen_upto_last) e.pieces e.batches none
