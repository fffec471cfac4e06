use Rattle.std.proofs.Common.{rules}
use Rattle.sg_base.proofs.EqualNodes.{length-differs}
use Rattle.fst_register.proofs.hashing.same.Goals as goal

pub returns-then-a-b : goal.returns-then-a-b
returns-then-a-b c = search (length-differs, rules)
