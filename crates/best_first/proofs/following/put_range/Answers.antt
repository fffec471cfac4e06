-- One more entry is put in.
use Rattle.std.proofs.Common.{ap, ◌∙◌, arith, sym, subst, refl}
use Rattle.sg_base.specs.Lists.{In}
use Rattle.fst_code.specs.Views.{edges_of}
use Rattle.best_first.specs.Steps.{child_entry}
use Rattle.best_first.proofs.SearchLemmas.{index-in, put-more}
use Rattle.best_first.proofs.following.put_range.Goals as goal

pub put_child-requires-clause-within : goal.put_child-requires-clause-within
put_child-requires-clause-within c =
    let edges = edges_of c.args.node in
    let e = c.edge.ensures c.edge.result in
    let low = c.loop-at-test.true in
    let range = c.requires.range.1 in
    c.requires.within c.edge.result
    (subst (λ z. In z edges) (sym e)
    (index-in edges c.edge.result c.loop-at.at (omega (arith, low, range))))

pub loop-at-preserved : goal.loop-at-preserved
loop-at-preserved c =
    let inv = c.loop-at.invariant in
    let is = c.in_ok-put_child.ensures.value in
    record {
      range = omega arith;
      followed = ap (λ d. d.followed) is ∙ inv.followed;
      reached = ap (λ d. d.reached) is ∙ inv.reached;
      room = ap (λ d. d.room) is ∙ inv.room;
      lists = c.in_ok-put_child.ensures.lists.0 ∙ inv.lists;
      need = c.in_ok-put_child.ensures.lists.1 ∙ inv.need;
      same = put-more c.args.desk.now c.loop-at.desk c.put_child.new.desk c.args.entry
          (child_entry c.args.entry c.edge.result) c.edge.result (edges_of c.args.node) c.loop-at.at
          c.args.to c.loop-at-test.true c.requires.range.1 inv.followed
          (c.edge.ensures c.edge.result) refl is
          ∙ inv.same;
    }
