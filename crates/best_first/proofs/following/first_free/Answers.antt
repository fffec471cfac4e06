-- The first free arc is found where it stands.
use Rattle.std.proofs.Common.{ap, ◌∙◌, arith, sym}
use Rattle.sg_base.specs.declared.node.Edge.{Edge}
use Rattle.fst_code.specs.Views.{edges_of}
use Rattle.best_first.proofs.SearchLemmas.{not_yet, found_free}
use Rattle.best_first.proofs.following.first_free.Goals as goal

pub loop-at-preserved : goal.loop-at-preserved
loop-at-preserved c = (
  omega arith,
  λ us vs a f.
      not_yet (edges_of c.args.node) us vs a a c.loop-at.at f (c.loop-at.invariant.1 us vs a f)
      (λ e. c.if-edge-ne0.true (ap (λ (z : Edge). z.cost) (c.edge.ensures a) ∙ e)),
)

pub returns-else-edge-ne0-clause-free : goal.returns-else-edge-ne0-clause-free
returns-else-edge-ne0-clause-free c =
    let us = c.requires.0 in
    let vs = c.requires.1 in
    let a = c.requires.2 in
    let f = c.requires.3 in (
      us,
      vs,
      a,
      f,
      found_free (edges_of c.args.node) us vs a a c.loop-at.at f
          (c.loop-at.invariant.1 us vs a f)
          (sym (ap (λ (z : Edge). z.cost) (c.edge.ensures a)) ∙ c.if-edge-ne0.false),
    )
