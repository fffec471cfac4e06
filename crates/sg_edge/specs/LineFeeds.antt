-- Line feeds. Source: this project's own.
use Rattle.std.specs.Prelude.{ℕ, Bool, ◌==◌}

-- whether the byte ends a line
abbrev pub is_line_feed : ℕ → Bool
is_line_feed byte = byte == 10
