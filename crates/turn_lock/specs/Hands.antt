-- The slots that a seat of the lock has in its hand. Source: this project's own. No public clause
-- cites it.
use Rattle.std.specs.Prelude.{ℕ, Bool, true, false, List, [], ◌∷◌, Option, None}

-- the one slot while it has the turn, and the value is out of it
abbrev pub hand_of : {V : Type 0} → Bool → List (ℕ × Option V)
hand_of true = (0, None) ∷ []
hand_of false = []
