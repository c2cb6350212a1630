-- Lists in ascending order of a number of their elements.
use Rattle.std.specs.Prelude.{ℕ, ◌<◌, Bool, cond, nat_le, List, [], ◌∷◌}

module _ {A : Type 0} where
  -- x goes before the first element whose key is no lower
  abbrev pub put_by : (A → ℕ) → A → List A → List A
  put_by key x [] = x ∷ []
  put_by key x (y ∷ ys) = cond (nat_le (key x) (key y)) (x ∷ y ∷ ys) (y ∷ put_by key x ys)

  -- the first element that passes the test is left out
  abbrev pub without : (A → Bool) → List A → List A
  without test [] = []
  without test (x ∷ xs) = cond (test x) xs (x ∷ without test xs)

  -- P holds of each element
  abbrev pub Each : (A → Type 0) → List A → Type 0
  Each P [] = Unit {0}
  Each P (x ∷ xs) = P x × Each P xs

  -- each key is below all later ones
  abbrev pub IsRisingBy : (A → ℕ) → List A → Type 0
  IsRisingBy key [] = Unit {0}
  IsRisingBy key (x ∷ xs) = Each (λ y. key x < key y) xs × IsRisingBy key xs
