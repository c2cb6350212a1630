-- What is seen of a tree.
use Rattle.std.specs.Prelude.{Option}

-- the plan, and the value of all its rows
pub record TreeOf (Plan V : Type 0) : Type 0 where
  pub plan : Plan
  pub top : Option V
