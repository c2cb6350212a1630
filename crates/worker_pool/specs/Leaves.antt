-- The leaves that a worker takes.
use Rattle.std.specs.Prelude.{ℕ, ◌≡◌, ◌<◌, ◌≤◌, [], ◌∷◌, ◌++◌}
use Rattle.std.specs.List.{All}
use Rattle.steal_deal.specs.declared.view.View.{View}
use Rattle.steal_deal.specs.declared.hand.Drawn.{Drawn}
use Rattle.steal_deal.specs.declared.hand.Drawn.TheVariants as drawn
use Rattle.steal_deal.specs.Views.{copies}
use Rattle.steal_deal.specs.Draws.{HasMet}

-- the hand has met every block
abbrev pub HasMetAll : View → Type 0
HasMetAll v = (b : ℕ) → b < v.partition.workers → HasMet v b

-- numbers that were dealt, each once
pub record AreDealt (v : View) : Type 0 where
  pub once : (y : ℕ) → copies y v.taken ≤ 1
  pub below : All (λ y. y < v.partition.count) v.taken

-- a number that the hand hasn't got joins those that it has
pub record TakesLeaf (v : View) (y : ℕ) (w : View) : Type 0 where
  pub joins : w.taken ≡ v.taken ++ y ∷ []
  pub below : y < v.partition.count
  pub not_taken : copies y v.taken ≡ 0
  pub number : w.number ≡ v.number

pub record FindsNoLeaf (v w : View) : Type 0 where
  pub taken : w.taken ≡ v.taken
  pub met : HasMetAll w
  pub number : w.number ≡ v.number

abbrev pub DrawsNext : View → Drawn → View → Type 0
DrawsNext v (drawn.Leaf y) w = TakesLeaf v y w
DrawsNext v drawn.Empty w = FindsNoLeaf v w
