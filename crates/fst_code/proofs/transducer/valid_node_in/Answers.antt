-- Valid bytes say where the nodes stand, and their nodes are a transducer's.
use Rattle.fst_code.proofs.OneTextLemmas.{bytes_of}
use Rattle.fst_code.proofs.TransducerLemmas.{transducer_of}
use Rattle.fst_code.proofs.ViewLemmas.{framed_of}
use Rattle.fst_code.proofs.transducer.valid_node_in.Goals as goal

pub node_in-requires : goal.node_in-requires
node_in-requires c = record {
  framed = framed_of c.args.bytes.now c.requires.valid;
  there = c.requires.there;
}

pub returns-clause-sound : goal.returns-clause-sound
returns-clause-sound c =
    transducer_of c.args.bytes.now (bytes_of c.args.bytes.now c.type_inv.bytes) c.requires.valid
