-- A row as it is printed. Source: this project's own.
use Rattle.std.specs.Prelude.{ℕ, List}

-- the document's id, the score, the number of the document's operation, and the suggestion's text
pub record Row : Type 0 where
  pub id : List ℕ
  pub score : ℕ
  pub seq : ℕ
  pub text : List ℕ
