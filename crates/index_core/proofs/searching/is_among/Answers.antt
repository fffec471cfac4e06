-- Where halving finds no place, all before it are lesser and the others greater.
use Rattle.std.proofs.Common.{Err, sym}
use Rattle.std.proofs.lemmas.List.Sorted.{searched}
use Rattle.index_holds.proofs.PlaceLemmas.{not_among_at}
use Rattle.index_core.proofs.searching.is_among.Goals as goal

pub returns-in-Err : goal.returns-in-Err
returns-in-Err c =
    let at = searched c.args.gens.now c.args.generation (Err c.in-Err.field-0)
    c.in-Err.ensures.position (λ i j le within. c.requires i j 0 le within) in
    sym (not_among_at c.args.generation c.in-Err.field-0 c.args.gens.now at.1 at.2)
