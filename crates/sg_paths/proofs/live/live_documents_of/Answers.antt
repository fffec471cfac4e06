-- At first all operations are left.
use Rattle.std.proofs.Common.{map, arith}
use Rattle.std.proofs.lemmas.Grind.{common_steps}
use Rattle.sg_paths.specs.Operations.{plain_op}
use Rattle.sg_paths.proofs.LiveDocumentsLemmas.{live_from-is}
use Rattle.sg_paths.proofs.live.live_documents_of.Goals as goal

pub loop-i-init : goal.loop-i-init
loop-i-init c =
    rw c.new-live.ensures.items
    (grind (arith, live_from-is (map plain_op c.args.journal.now), common_steps))
