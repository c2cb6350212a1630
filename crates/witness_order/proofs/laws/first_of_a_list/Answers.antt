use Rattle.witness_order.specs.Before.{before}
use Rattle.witness_order.proofs.Orders.{before-IsRanking}
use Rattle.witness_order.proofs.Meanings.{first_of-IsFirstOf}
use Rattle.witness_order.proofs.laws.first_of_a_list.Goals as goal

pub returns : goal.returns
returns c = λ greatest k xs. first_of-IsFirstOf (before greatest) (before-IsRanking greatest) k xs
