-- The best of the entries of one context and key is kept.
use Rattle.sg_paths.proofs.PathLemmas.{entry_has_path}
use Rattle.sg_paths.proofs.path_laws.each_entry_has_a_path.Goals as goal

pub returns : goal.returns
returns c = entry_has_path
