-- When a search is done, and what it answers, over its matching paths. No public clause cites it.
-- Source: this project's own.
use Rattle.std.specs.Ordering.{is_lt}
use Rattle.std.specs.Prelude.{ℕ, ◌≡◌, ◌<◌, ◌≤◌, ◌+◌, ◌-◌, Bool, true, false, not, ◌||◌, nat_lt}
use Rattle.std.specs.Prelude.{nat_le, if◌then◌else◌, List, length, take, filter, Option, Some, None}
use Rattle.std.specs.Prelude.{slice_get}
use Rattle.sg_base.specs.ByteStrings.{begins}
use Rattle.sg_base.specs.Cuts.{PlainCut, mark_cmp, row_mark, cut_mark, precedes}
use Rattle.sg_base.specs.Lists.{In}
use Rattle.sg_base.specs.Rows.{ranked}
use Rattle.sg_base.specs.declared.rank.Rank.{Rank}
use Rattle.path_desk.specs.Desks.{PlainDesk, is_settled}
use Rattle.best_first.specs.Listings.{mark_of_match}
use Rattle.best_first.specs.Lists.{passing}
use Rattle.best_first.specs.Matches.{Match, ranks_of}

-- the k-th row
abbrev pub last_row : ℕ → List Rank → Option Rank
last_row k rows = if nat_lt (length rows) k then None else slice_get rows (k - 1)

-- whether k rows are kept and what is left doesn't matter to them: there is one start, or the last
-- of them is settled
abbrev pub is_done : Bool → PlainDesk → Option Rank → Bool
is_done one d None = false
is_done one d (Some r) = one || is_settled d (row_mark r)

-- what is true of a truncated search, over all its matching paths
pub record IsCutShort (all : List Match) (prefix : List ℕ) (starts k room generation : ℕ)
    (rows : List Rank) (cut : PlainCut) : Type 0 where
  pub preceding : rows ≡ filter (precedes cut) (ranked (ranks_of all))
  pub few : length rows < k
  pub of_segment : cut.generation ≡ generation
  pub of_room : cut.room ≡ room
  pub crowded : room < passing (λ m. nat_le cut.score m.rank.score) all
  pub in_query : begins prefix cut.key ≡ true
  pub met : (m : Match) × In m all × (m.rank.score ≡ cut.score) × (begins cut.key m.rank.key ≡ true)
  pub up_to : room + 1
      ≤ passing (λ m. not (is_lt (mark_cmp (cut_mark cut) (mark_of_match m)))) all + starts

-- the outcome of a search: without a truncation point it has the first k rows of all
abbrev pub IsOutcome : List Match → List ℕ → ℕ → ℕ → ℕ → ℕ → List Rank → Option PlainCut → Type 0
IsOutcome all prefix starts k room generation rows None = rows ≡ take k (ranked (ranks_of all))
IsOutcome all prefix starts k room generation rows (Some cut) =
    IsCutShort all prefix starts k room generation rows cut
