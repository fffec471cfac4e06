-- Two entries of one context and key differ in place, so one of them is kept over the other.
use Rattle.sg_paths.proofs.PathLemmas.{pair_has_one_path}
use Rattle.sg_paths.proofs.path_laws.each_pair_has_one_path.Goals as goal

pub returns : goal.returns
returns c = pair_has_one_path
