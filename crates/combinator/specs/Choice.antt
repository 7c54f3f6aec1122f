-- The value of a choice: the option that is used, its weight, and the paths that it leaves.
use Rattle.std.specs.Prelude.{ℕ, List, Option}
use Rattle.combinator.specs.Candidate.{PathValue}

-- the choice among options: the used option and its weight, and its paths
pub record ChosenValue : Type 0 where
  pub used : Option ℕ
  pub weight : ℕ
  pub paths : List PathValue
