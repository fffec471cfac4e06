-- The header's count.
use Rattle.std.proofs.Common.{◌∙◌, arith}
use Rattle.fst_code.proofs.OneTextLemmas.{bytes_of, paths_are}
use Rattle.fst_code.proofs.ViewLemmas.{parts_of}
use Rattle.fst_code.proofs.transducer.paths_in.Goals as goal

pub number_at-requires : goal.number_at-requires
number_at-requires c = let l = (parts_of c.args.bytes.now c.requires).long in omega (arith, l)

pub returns : goal.returns
returns c =
    c.number_at.ensures
    ∙ paths_are c.args.bytes.now (bytes_of c.args.bytes.now c.type_inv.bytes) c.requires
