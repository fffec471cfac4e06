-- Part by part.
use Rattle.fst_code.proofs.BytesLemmas.{valid_bytes}
use Rattle.fst_code.proofs.laws.valid_bytes_encode_their_nodes.Goals as goal

pub returns : goal.returns
returns c = valid_bytes
