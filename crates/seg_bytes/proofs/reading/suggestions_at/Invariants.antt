-- The suggestions that are out, continued by those that are left, are all.
use Rattle.std.proofs.Common.{◌≡◌, length}
use Rattle.seg_bytes.specs.DocumentsRead.{suggestion_at}
use Rattle.seg_bytes.proofs.ManyLemmas.{Continues}
use Rattle.seg_bytes.proofs.reading.suggestions_at.Given as goal

abbrev pub invariant-loop : goal.invariant-loop
invariant-loop l =
    Continues suggestion_at l.bytes l.at l.count l.suggestions.items l.end l.counter
    × (length l.suggestions.items ≡ l.counter)
