-- The rows of hits. Source: this project's own.
use Rattle.std.specs.Prelude.{ℕ, List, map}
use Rattle.sg_base.specs.declared.rank.Rank.{Rank}
use Rattle.sg_base.specs.declared.hit.Hit.{Hit}

-- a hit's row, where its key is known
abbrev pub row_of : (Hit → List ℕ) → Hit → Rank
row_of key h = record { score = h.score; key = key h; seq = h.seq; place = h.place }

-- the rows of hits
abbrev pub rows_of : (Hit → List ℕ) → List Hit → List Rank
rows_of key hits = map (row_of key) hits
