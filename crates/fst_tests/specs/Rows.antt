-- Rows of paths with their costs. Source: this project's own.
use Rattle.std.specs.Prelude.{ℕ, ◌<◌, ◌≤◌, List, length, map, take, get_or}
use Rattle.fst_code.specs.Tails.{Tail}
use Rattle.fst_build.specs.Sorted.{MayFollow}
use Rattle.fst_tests.specs.declared.rows.Row.{Row}
use Rattle.fst_tests.specs.declared.rows.RowsError.{RowsError}
use Rattle.fst_tests.specs.declared.rows.RowsError.TheVariants.{Memory}
use Rattle.fst_tests.specs.declared.rows.RowsError.TheVariants as variant

-- a row's path and cost
abbrev pub tail_of : Row → Tail
tail_of row = (row.path.items, row.cost)

-- a path and a cost within the limits
pub record Fits (tail : Tail) : Type 0 where
  pub some : 0 < length tail.0
  pub long : length tail.0 ≤ 324
  pub cost : tail.1 ≤ 2147483647

-- a builder that has the rows before this one takes it
pub record MayBeAdded (rows : List Row) (at : ℕ) : Type 0 where
  pub few : at < 4194304
  pub fits : (row : Row) → Fits (tail_of (get_or rows at row))
  pub follows : (row : Row) → MayFollow (map tail_of (take at rows)) (get_or rows at row).path.items

-- what an error says of rows; of want of memory nothing
abbrev pub RefusesRows : List Row → RowsError → Type 0
RefusesRows rows Memory = Unit {0}
RefusesRows rows (variant.Row at) = MayBeAdded rows at → ⊥
