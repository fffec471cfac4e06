-- The lines of an input. Source: this project's own.
use Rattle.std.specs.Prelude.{ℕ, Bool, true, false, List, [], ◌∷◌, ◌++◌}
use Rattle.sg_edge.specs.LineFeeds.{is_line_feed}

-- the lines that end with a line feed, and what stands after the last of them
pub record SplitText : Type 0 where
  pub ended : List (List ℕ)
  pub rest : List ℕ

-- a byte in front of what was split
abbrev pub split_with : Bool → ℕ → List (List ℕ) → List ℕ → SplitText
split_with true b lines rest = record { ended = [] ∷ lines; rest = rest }
split_with false b [] rest = record { ended = []; rest = b ∷ rest }
split_with false b (line ∷ lines) rest = record { ended = (b ∷ line) ∷ lines; rest = rest }

-- bytes split at each line feed
abbrev pub split_lines : List ℕ → SplitText
split_lines [] = record { ended = []; rest = [] }
split_lines (b ∷ bs) = split_with (is_line_feed b) b (split_lines bs).ended (split_lines bs).rest

-- a last line without a line feed counts where it isn't empty
abbrev pub last_line : List ℕ → List (List ℕ)
last_line [] = []
last_line (b ∷ bs) = (b ∷ bs) ∷ []

-- the lines of an input
abbrev pub lines_of : List ℕ → List (List ℕ)
lines_of bytes = (split_lines bytes).ended ++ last_line (split_lines bytes).rest
