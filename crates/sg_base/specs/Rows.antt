-- Rows in rank order, one for each document. Source: after Lucene's TopSuggestDocsCollector; that a
-- document has one row is this project's own.
use Rattle.std.specs.Prelude.{ℕ, not, nat_eq, if◌then◌else◌, List, [], ◌∷◌, filter}
use Rattle.std.specs.Ordering.{is_lt}
use Rattle.sg_base.specs.Ranking.{rank_cmp}
use Rattle.sg_base.specs.declared.rank.Rank.{Rank}

-- the rows of other documents
abbrev pub without : ℕ → List Rank → List Rank
without seq rows = filter (λ r. not (nat_eq r.seq seq)) rows

-- one row more: where a row of its document stands before it, nothing changes; else it takes its
-- place, and a later row of its document goes
abbrev pub put_row : Rank → List Rank → List Rank
put_row r [] = r ∷ []
put_row r (x ∷ xs) =
    if is_lt (rank_cmp x r) then (if nat_eq x.seq r.seq then x ∷ xs else x ∷ put_row r xs)
    else r ∷ without r.seq (x ∷ xs)

-- the ranking of rows that were put one after another, the last one first
abbrev pub ranked : List Rank → List Rank
ranked [] = []
ranked (r ∷ rs) = put_row r (ranked rs)
