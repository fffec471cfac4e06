-- The shape of nodes that the first four rules leave. Source: this project's own.
use Rattle.std.specs.Prelude.{◌≡◌, ℕ, ◌<◌, ◌≤◌, List, [], get_or, length}
use Rattle.std.specs.List.{AllByRecursion}
use Rattle.sg_base.specs.declared.node.Edge.{Edge}

-- what holds of the nodes before their rules are looked at
pub record AreShaped (ns : List (List Edge)) : Type 0 where
  pub two : 2 ≤ length ns
  pub end_is : get_or ns 0 [] ≡ []
  pub some : (id : ℕ) → 0 < id → id < length ns → 0 < length (get_or ns id [])
  pub labels : (id : ℕ) → AllByRecursion (λ (e : Edge). e.label < 256) (get_or ns id [])

-- a list of bytes
abbrev pub IsBytes : List ℕ → Type 0
IsBytes bytes = (i : ℕ) → get_or bytes i 0 < 256
