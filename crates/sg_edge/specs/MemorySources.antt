-- A source in memory: what it holds, and what its next take moves. Source: this project's own.
use Rattle.std.specs.Prelude.{◌≡◌, ℕ, List, [], ◌∷◌, Bool, take, if◌then◌else◌}
use Rattle.sg_edge.specs.Edge.{next_count}
use Rattle.sg_edge.specs.LineFeeds.{is_line_feed}

-- the bytes that are left, how they are given, which calls fail, and what was counted
pub record PlainMemorySource : Type 0 where
  pub left : List ℕ
  pub by_line : Bool
  pub fails : List ℕ
  pub calls : ℕ
  pub faults : ℕ
  pub ended : Bool

-- the bytes through the first line feed, or all of them
abbrev pub through_line_feed : List ℕ → List ℕ
through_line_feed [] = []
through_line_feed (byte ∷ bytes) =
    if is_line_feed byte then byte ∷ [] else byte ∷ through_line_feed bytes

-- of the bytes that are left, those that a take moves into so much room
abbrev pub next_bytes : Bool → ℕ → List ℕ → List ℕ
next_bytes by_line room left =
    if by_line then through_line_feed (take room left) else take room left

-- one call was counted, and the next goes by the same lists
pub record IsAtNextCall (old new : PlainMemorySource) : Type 0 where
  pub calls : new.calls ≡ next_count old.calls
  pub by_line : new.by_line ≡ old.by_line
  pub fails : new.fails ≡ old.fails
