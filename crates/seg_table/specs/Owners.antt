-- Owners of paths, and how many paths a document has. Source: this project's own.
use Rattle.std.specs.Prelude.{ℕ, max, map, length, List, [], ◌∷◌}
use Rattle.sg_paths.specs.Operations.{PlainNumbered}
use Rattle.sg_paths.specs.Paths.{paths}
use Rattle.sg_paths.specs.AllPaths.{FullPath}
use Rattle.seg_table.specs.declared.owner.Owner.{Owner}

-- the places of the document and of the suggestion of a path
abbrev pub owner_of : FullPath → Owner
owner_of p = record { doc = p.entry.doc; place = p.entry.place }

-- the greatest of numbers, 0 of none
abbrev pub greatest : List ℕ → ℕ
greatest [] = 0
greatest (n ∷ ns) = max n (greatest ns)

-- the greatest number of paths of one document
abbrev pub most_paths : List PlainNumbered → ℕ
most_paths docs = greatest (map (λ d. length (paths d.document)) docs)
