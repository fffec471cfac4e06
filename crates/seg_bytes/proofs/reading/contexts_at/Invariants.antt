-- The contexts that are out, continued by those that are left, are all.
use Rattle.std.proofs.Common.{◌≡◌, length}
use Rattle.seg_bytes.specs.DocumentsRead.{context_at}
use Rattle.seg_bytes.proofs.ManyLemmas.{Continues}
use Rattle.seg_bytes.proofs.reading.contexts_at.Given as goal

abbrev pub invariant-loop : goal.invariant-loop
invariant-loop l =
    Continues context_at l.bytes l.at l.count l.contexts.items l.end l.counter
    × (length l.contexts.items ≡ l.counter)
