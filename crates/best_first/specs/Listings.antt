-- What the search knows of the list of all matching paths. No public clause cites it. Source: this
-- project's own.
use Rattle.std.specs.Cmp.Lexicographic.{slice_cmp}
use Rattle.std.specs.Ordering.{nat_cmp, ordering_then, is_lt}
use Rattle.std.specs.Prelude.{ℕ, ◌≡◌, ◌<◌, true, List}
use Rattle.sg_base.specs.Cuts.{Mark, mark}
use Rattle.sg_base.specs.Lists.{In}
use Rattle.sg_base.specs.Ranking.{rank_cmp}
use Rattle.path_desk.specs.Entries.{key_part}
use Rattle.best_first.specs.Matches.{Match}

-- where a matching path's row stands
abbrev pub mark_of_match : Match → Mark
mark_of_match m = mark m.rank.score m.rank.key

-- the key is that of the bytes, starts are numbered from 0, and within a start score and bytes
-- order as ranks do
pub record IsListing (all : List Match) (starts : ℕ) : Type 0 where
  pub keyed : (m : Match) → In m all → m.rank.key ≡ key_part m.bytes
  pub within : (m : Match) → In m all → m.start < starts
  pub ordered : (a b : Match) → In a all → In b all → a.start ≡ b.start
      → is_lt (ordering_then (nat_cmp b.rank.score a.rank.score)
      (slice_cmp nat_cmp a.bytes b.bytes)) ≡ true
      → is_lt (rank_cmp a.rank b.rank) ≡ true
