-- The encoding is valid and read again.
use Rattle.fst_code.proofs.EncodingLemmas.{encoded_valid}
use Rattle.fst_code.proofs.laws.valid_nodes_have_valid_bytes.Goals as goal

pub returns : goal.returns
returns c = encoded_valid
