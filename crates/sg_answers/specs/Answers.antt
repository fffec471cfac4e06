-- The answer to a query over documents, each of which has one row at most. Source: keys match as in
-- Lucene's PrefixCompletionQuery, and the score is that of Elasticsearch's context suggester. That
-- a document has one row, which it is, and that a weight of 0 has the score 0, is this project's
-- own.
use Rattle.std.specs.Prelude.{◌≡◌, ℕ, ◌*◌, nat_eq, min, if◌then◌else◌, List, ◌++◌, Option, None}
use Rattle.std.specs.Prelude.{option_map, length, filter_map, slice_get, take}
use Rattle.std.specs.List.{starts_with}
use Rattle.std.specs.List.Sorted.{IsPermutation, IsSorted}
use Rattle.sg_base.specs.Ranking.{rank_cmp, in_order}
use Rattle.sg_base.specs.declared.rank.Rank.{Rank}
use Rattle.sg_context.specs.Boosts.{boost_of}
use Rattle.sg_context.specs.Queries.{PlainQuery}
use Rattle.sg_paths.specs.Operations.{PlainNumbered}
use Rattle.sg_paths.specs.Paths.{PlainPath, paths}

-- the boost of a path that matches: its key begins with the query's, and its context has a boost
abbrev pub path_boost : PlainQuery → PlainPath → Option ℕ
path_boost query p =
    if starts_with nat_eq p.key query.prefix then boost_of query.contexts p.context else None

-- where a path of a document stands with a boost: its score is its weight times the boost
abbrev pub rank_with : ℕ → PlainPath → ℕ → Rank
rank_with seq p boost =
    record { score = p.weight * boost; key = p.key; seq = seq; place = p.place }

-- the rank of a path, if it matches
abbrev pub path_rank : PlainQuery → ℕ → PlainPath → Option Rank
path_rank query seq p = option_map (rank_with seq p) (path_boost query p)

-- the ranks of the paths of a document that match
abbrev pub matching_ranks : PlainQuery → PlainNumbered → List Rank
matching_ranks query d = filter_map (path_rank query d.seq) (paths d.document)

-- the first by rank, where there is one
abbrev pub first_rank : List Rank → Option Rank
first_rank ranks = slice_get (in_order rank_cmp ranks) 0

-- a document's row, the first of its ranks, if one of its paths matches
abbrev pub document_row : PlainQuery → PlainNumbered → Option Rank
document_row query d = first_rank (matching_ranks query d)

-- the rows of the documents, in rank order
abbrev pub answer : PlainQuery → List PlainNumbered → List Rank
answer query ds = in_order rank_cmp (filter_map (document_row query) ds)

-- as many of them as are asked for, or all where there are fewer
abbrev pub first_rows : PlainQuery → List PlainNumbered → List Rank
first_rows query ds = take query.k (answer query ds)

-- the first k of all rows, or all where there are fewer: with the others behind them they are all
-- rows, in rank order
pub record AreFirst (k : ℕ) (all rows : List Rank) : Type 0 where
  pub others : List Rank
  pub permutation : IsPermutation all (rows ++ others)
  pub sorted : IsSorted rank_cmp (rows ++ others)
  pub count : length rows ≡ min k (length all)
