-- How a sum takes its entries from two lists in order.
use Rattle.std.specs.Prelude.{ℕ, zero, suc, cond, List, [], ◌∷◌, take, Option, None, Some}
use Rattle.std.specs.declared.cmp.Ordering.{Ordering}
use Rattle.std.specs.Ordering.{is_gt}
use Rattle.first_k.specs.declared.sum.Source.{Source}
use Rattle.first_k.specs.declared.sum.Source.TheVariants.{Left, Right, End}

-- the list whose first item is next, given both first items: the left one's, unless it comes after the right one's
abbrev pub next_of : {E : Type 0} → (E → E → Ordering) → Option E → Option E → Source
next_of cmp None None = End
next_of cmp None (Some y) = Right
next_of cmp (Some x) None = Left
next_of cmp (Some x) (Some y) = cond (is_gt (cmp x y)) Right Left

-- the first k items that are next
abbrev pub merged : {E : Type 0} → (E → E → Ordering) → ℕ → List E → List E → List E
merged cmp zero xs ys = []
merged cmp (suc k) [] ys = take (suc k) ys
merged cmp (suc k) (x ∷ xs) [] = take (suc k) (x ∷ xs)
merged cmp (suc k) (x ∷ xs) (y ∷ ys) =
    cond (is_gt (cmp x y)) (y ∷ merged cmp k (x ∷ xs) ys) (x ∷ merged cmp k xs (y ∷ ys))
