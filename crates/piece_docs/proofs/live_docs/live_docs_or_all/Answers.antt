-- Where none are said, all are live.
use Rattle.std.proofs.Common.{◌∙◌}
use Rattle.piece_docs.proofs.LiveLemmas.{all_live}
use Rattle.piece_docs.proofs.live_docs.live_docs_or_all.Goals as goal

pub returns-in-None : goal.returns-in-None
returns-in-None c =
    let live_docs = c.all.ensures ∙ all_live c.args.table.now _ c.len.ensures.value in
    rw c.in-None.is (rw (← live_docs) c.shared.ensures)
