-- One arc more.
use Rattle.std.proofs.Common.{◌∙◌, arith, inr}
use Rattle.best_first.proofs.following.follow_to_end.Goals as goal

pub loop-entry-preserved : goal.loop-entry-preserved
loop-entry-preserved g c =
    let more = c.in_ok-entry.ensures.longer in
    let low = c.in_ok-entry.ensures.within in
    let tick = c.in_ok-entry.ensures.tick in
    let inv = c.loop-entry.invariant in
    let before = inv.longer in
    let ticks = inv.ticks in
    record {
      follows = λ s r h. c.in_ok-entry.ensures.follows s r (inv.follows s r h);
      some = (
        inv.some.0,
        inv.some.1,
        c.in_ok-entry.ensures.follows inv.some.0 inv.some.1 inv.some.2,
      );
      longer = omega (arith, more, before);
      bounded = inr (omega (arith, more, low));
      ticks = omega (arith, more, before, ticks, tick);
      reached = c.in_ok-entry.ensures.fixed.0 ∙ inv.reached;
      room = c.in_ok-entry.ensures.fixed.1 ∙ inv.room;
      lists = c.in_ok-entry.ensures.lists.0 ∙ inv.lists;
      need = c.in_ok-entry.ensures.lists.1 ∙ inv.need;
    }
