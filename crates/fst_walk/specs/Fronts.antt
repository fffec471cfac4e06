-- Paths that begin with given bytes, and paths behind bytes. Source: this project's own.
use Rattle.std.specs.Prelude.{ℕ, ◌+◌, Bool, false, ◌||◌, ◌==◌, List, [], ◌∷◌, ◌++◌, map}
use Rattle.sg_base.specs.declared.node.Edge.{Edge}
use Rattle.sg_base.specs.ByteStrings.{begins}
use Rattle.fst_code.specs.Tails.{Tail}

-- whether some path begins with the bytes
abbrev pub is_front : List Tail → List ℕ → Bool
is_front [] bytes = false
is_front (t ∷ ts) bytes = begins bytes t.0 || is_front ts bytes

-- paths with bytes put before them and a cost added
abbrev pub behind : List ℕ → ℕ → List Tail → List Tail
behind bytes cost ts = map (λ (t : Tail). (bytes ++ t.0, cost + t.1)) ts

-- whether an arc has the label
abbrev pub has_label : ℕ → List Edge → Bool
has_label label [] = false
has_label label (e ∷ es) = (label == e.label) || has_label label es
