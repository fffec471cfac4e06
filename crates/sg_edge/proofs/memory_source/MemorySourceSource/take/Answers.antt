-- What was left is what was moved, and what is left now.
use Rattle.std.proofs.Common.{Some, ap, take, ◌∙◌}
use Rattle.sg_edge.proofs.EdgeLemmas.{drop-moved}
use Rattle.sg_edge.proofs.memory_source.MemorySourceSource.take.Goals as goal

pub returns-then-not-is_empty-clause-ok : goal.returns-then-not-is_empty-clause-ok
returns-then-not-is_empty-clause-ok c =
    let count = c.next_len-count.result in
    let moved = c.copy_front.ensures ∙ ap (λ bytes. take count bytes) c.left-2.ensures in
    let source = c.self.inside in
    rw (← c.self.view_is)
    (ap Some (drop-moved source.bytes.items c.copy_front.new.into source.at count moved))
