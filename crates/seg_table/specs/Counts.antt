-- Counts of owners by document. No public clause cites this module.
use Rattle.std.specs.Prelude.{ℕ, zero, suc, ◌+◌, cond, nat_eq, List, [], ◌∷◌}
use Rattle.seg_table.specs.declared.owner.Owner.{Owner}

-- how many owners have this document
abbrev pub count_of : ℕ → List Owner → ℕ
count_of i [] = 0
count_of i (o ∷ os) = cond (nat_eq o.doc i) 1 0 + count_of i os

-- how many owners each of k documents from n on has
abbrev pub counts_from : ℕ → ℕ → List Owner → List ℕ
counts_from n zero os = []
counts_from n (suc k) os = count_of n os ∷ counts_from (n + 1) k os

-- how many owners each of the first k documents has
abbrev pub counts_of : ℕ → List Owner → List ℕ
counts_of k os = counts_from 0 k os
