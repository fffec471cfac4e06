-- The lines of a run with their replies. Source: this project's own.
use Rattle.std.specs.Prelude.{ℕ, ◌+◌, true, List, [], ◌∷◌, map, flat_map}
use Rattle.sg_analysis.specs.declared.analyzer.Analyzer.{Analyzer}
use Rattle.wire_json.specs.Commands.{Command, command_of}
use Rattle.wire_replies.specs.Replies.{Reply, reply_text}
use Rattle.sg_shell.specs.Lines.{lines_of}
use Rattle.sg_shell.specs.declared.engine.TheConstants.{LANES}

-- a line: its number, from 1, and what it asks for
pub record Line : Type 0 where
  pub number : ℕ
  pub command : Command

-- a line with its reply
pub record Said : Type 0 where
  pub line : Line
  pub reply : Reply

-- lines numbered from this number on
abbrev pub numbered_from : ℕ → List Command → List Line
numbered_from n [] = []
numbered_from n (c ∷ cs) = record { number = n; command = c } ∷ numbered_from (n + 1) cs

-- the program's analyzer keeps separators
abbrev pub standard : Analyzer
standard = record { separators = true }

-- what lines ask for, for one worker, the first of which has this number
abbrev pub lines_from : ℕ → List (List ℕ) → List Line
lines_from n lines = numbered_from n (map (command_of standard LANES) lines)

-- the lines of an input
abbrev pub input_lines : List ℕ → List Line
input_lines input = lines_from 1 (lines_of input)

-- the output of a transcript: its replies, a line each
abbrev pub output : List Said → List ℕ
output = flat_map (λ e. reply_text e.reply)
