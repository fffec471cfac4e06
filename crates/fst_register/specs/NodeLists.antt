-- Nodes one behind the other. No public clause cites it. Source: this project's own.
use Rattle.std.specs.Prelude.{◌≡◌, ℕ, zero, suc, ◌-◌, ◌≤◌, List, [], ◌∷◌, get_or, length, take}
use Rattle.std.specs.Prelude.{drop}
use Rattle.sg_base.specs.declared.node.Edge.{Edge}

-- the nodes whose arcs stand one after the other, by where each node's arcs end
abbrev pub nodes_between : ℕ → List ℕ → List Edge → List (List Edge)
nodes_between from [] edges = []
nodes_between from (e ∷ es) edges = take (e - from) (drop from edges) ∷ nodes_between e es edges

-- where the arcs of a node begin
abbrev pub begins_at : ℕ → List ℕ → ℕ → ℕ
begins_at from ends zero = from
begins_at from ends (suc id) = get_or ends id 0

-- ends that don't fall, the last at the end of all
abbrev pub EndsAt : ℕ → List ℕ → ℕ → Type 0
EndsAt from [] total = from ≡ total
EndsAt from (e ∷ es) total = (from ≤ e) × EndsAt e es total

-- the nodes take up all arcs
pub record AreContiguous (ends : List ℕ) (edges : List Edge) : Type 0 where
  pub ends_at : EndsAt 0 ends (length edges)
