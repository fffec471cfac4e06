-- One size more joins, or doesn't.
use Rattle.std.proofs.Common.{◌∙◌, false, sym}
use Rattle.merge_plan.specs.declared.size.Size.{Size}
use Rattle.merge_plan.proofs.TogetherLemmas.{going-passed, going-taken}
use Rattle.merge_plan.proofs.levels.first_ten.Goals as goal
use Rattle.merge_plan.proofs.levels.first_ten.Goals.{else-joins, then-joins}

abbrev no_size : Size
no_size = record { generation = 0; documents = 0; live = 0; paths = 0; held = false }

pub loop-size-preserved : goal.loop-size-preserved
loop-size-preserved c =
    let going = c.loop-size.invariant in
    let within = c.loop-size-test.true in
    elim c.if-joins.branch [
      | then-joins w ↦
          rw w.together-is (going-taken no_size w.joined-together.result.left
          w.joined-together.result.documents w.joined-together.result.paths going within
          (sym c.joins.ensures ∙ w.if-joins.true) w.joined-together.ensures.left
          w.joined-together.ensures.documents w.joined-together.ensures.paths
          w.joined-together.ensures.room)
      | else-joins w ↦
          rw w.together-is (going-passed no_size going within
          (sym c.joins.ensures ∙ w.if-joins.false))
    ]
