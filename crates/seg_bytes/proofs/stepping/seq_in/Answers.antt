-- The first eight bytes.
use Rattle.std.proofs.Common.{◌∙◌}
use Rattle.seg_bytes.proofs.SteppingLemmas.{has_seq, seq_is}
use Rattle.seg_bytes.proofs.stepping.seq_in.Goals as goal

pub first_u64-requires : goal.first_u64-requires
first_u64-requires c = has_seq c.requires.0 c.requires.1 c.args.bytes.now c.requires.2

pub returns : goal.returns
returns c = λ d rest h. c.first_u64.ensures ∙ seq_is d rest c.args.bytes.now h
