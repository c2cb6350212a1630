-- Places in two lists, which stand for the product of the items there.
use Rattle.std.specs.Prelude.{ℕ, ◌<◌, List, length, slice_index_or}
use Rattle.first_k.specs.declared.product.Pick.{Pick}

-- the product that a pick stands for; unit is named for places that no list has
abbrev pub product_at : {E : Type 0} → (E → E → E) → E → List E → List E → Pick → E
product_at mul unit a b pick = mul (slice_index_or a pick.left unit) (slice_index_or b pick.right unit)

-- both places are within their lists
pub record IsPickOf {E : Type 0} (a b : List E) (pick : Pick) : Type 0 where
  pub left : pick.left < length a
  pub right : pick.right < length b

-- the pick at a place, which is within the list
abbrev pub pick_at : List Pick → ℕ → Pick
pick_at picks place = slice_index_or picks place (record { left = 0; right = 0 })
