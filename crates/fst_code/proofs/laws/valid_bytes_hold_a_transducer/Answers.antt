-- From the rules in plain words.
use Rattle.fst_code.proofs.TransducerLemmas.{transducer_of}
use Rattle.fst_code.proofs.laws.valid_bytes_hold_a_transducer.Goals as goal

pub returns : goal.returns
returns c = transducer_of
