-- How the writing of an output ends. Source: this project's own.
use Rattle.std.specs.Prelude.{◌≡◌, ◌<◌, ℕ, List, length, take, Option}
use Rattle.sg_edge.specs.Edge.{behind}

-- the sink was given so many of the bytes, and not all
pub record StopsInside {K : Type 0} (given : K → Option (List ℕ)) (bytes : List ℕ)
    (old new : K) : Type 0 where
  pub written : ℕ
  pub within : written < length bytes
  pub appended : given new ≡ behind (take written bytes) (given old)
