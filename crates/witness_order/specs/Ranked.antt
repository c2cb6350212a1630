-- Lists in the order of a ranking, and the first few of a list in that order.
use Rattle.std.specs.Prelude.{◌≡◌, ℕ, ◌≤◌, false, cond, List, [], ◌∷◌, ◌++◌, length, min, take}
use Rattle.std.specs.List.{All}
use Rattle.std.specs.List.Sorted.{IsPermutation, IsSorted}
use Rattle.std.specs.declared.cmp.Ordering.{Ordering}
use Rattle.std.specs.Ordering.{is_gt}

-- x put into a list in order, in front of what it doesn't come after
abbrev pub placed : {E : Type 0} → (E → E → Ordering) → E → List E → List E
placed cmp x [] = x ∷ []
placed cmp x (y ∷ ys) = cond (is_gt (cmp x y)) (y ∷ placed cmp x ys) (x ∷ y ∷ ys)

-- the list in order
abbrev pub ranked : {E : Type 0} → (E → E → Ordering) → List E → List E
ranked cmp [] = []
ranked cmp (x ∷ xs) = placed cmp x (ranked cmp xs)

-- the first k of a list in order, or all where they are fewer
abbrev pub first_of : {E : Type 0} → (E → E → Ordering) → ℕ → List E → List E
first_of cmp k xs = take k (ranked cmp xs)

-- x doesn't come after the first of the list
abbrev pub Leads : {E : Type 0} → (E → E → Ordering) → E → List E → Type 0
Leads cmp x [] = Unit {0}
Leads cmp x (y ∷ ys) = is_gt (cmp x y) ≡ false

-- no item of the list comes after the next one
abbrev pub Ascends : {E : Type 0} → (E → E → Ordering) → List E → Type 0
Ascends cmp [] = Unit {0}
Ascends cmp (x ∷ xs) = Leads cmp x xs × Ascends cmp xs

-- a list in order, of no more than k items
pub record IsRankedWithin {E : Type 0} (cmp : E → E → Ordering) (k : ℕ) (xs : List E) : Type 0 where
  pub ordered : Ascends cmp xs
  pub few : length xs ≤ k

-- no item of the one list comes after an item of the other
abbrev pub ComesUpTo : {E : Type 0} → (E → E → Ordering) → List E → List E → Type 0
ComesUpTo cmp xs ys = All (λ x. All (λ y. is_gt (cmp x y) ≡ false) ys) xs

-- kept are k items of xs, or all where they are fewer, in order; none of them comes after one that is left out
pub record IsFirstOf {E : Type 0} (cmp : E → E → Ordering) (k : ℕ) (xs kept : List E) : Type 0 where
  pub left_out : List E
  pub permutation : IsPermutation xs (kept ++ left_out)
  pub count : length kept ≡ min k (length xs)
  pub in_order : IsSorted cmp kept
  pub comes_first : ComesUpTo cmp kept left_out
