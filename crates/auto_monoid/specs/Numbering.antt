-- The order in which the functions of words are numbered: the identity first, and then each function in order is
-- followed by each letter in order, and what is new gets the next number.
use Rattle.std.specs.Prelude.{◌≡◌, ℕ, zero, suc, ◌<◌, List, [], ◌∷◌, ◌++◌, length, map, slice_index_or, nat_lt}
use Rattle.std.specs.Prelude.{Bool, if◌then◌else◌}
use Rattle.std.specs.List.{fold, range_with_len}
use Rattle.monoid_kit.specs.declared.table.TheConstants.{GREATEST_TABLE}
use Rattle.auto_monoid.specs.Auto.{PlainAuto}
use Rattle.auto_monoid.specs.Functions.{identity, followed_by, number_of}

-- f, and then each of the letters
abbrev pub extensions : PlainAuto → List ℕ → List (List ℕ)
extensions a f = map (followed_by a f) (range_with_len 0 a.letters)

-- the functions, and f after them if it is new
abbrev pub with_new : List (List ℕ) → List ℕ → List (List ℕ)
with_new functions f = if nat_lt (number_of functions f) (length functions) then functions else functions ++ f ∷ []

-- what is found when the first n functions have been followed by each letter; where there is no further function, the
-- identity stands for it, and nothing is new
abbrev pub discovered : PlainAuto → ℕ → List (List ℕ)
discovered a zero = identity a ∷ []
discovered a (suc n) =
    fold with_new (discovered a n) (extensions a (slice_index_or (discovered a n) n (identity a)))

-- the functions of words in their order: all, where there are no more than 64, and else more than 64 of them
unfoldable pub all_functions : PlainAuto → List (List ℕ)
all_functions a = discovered a GREATEST_TABLE

-- whether more than 64 functions are those of words
unfoldable pub are_too_many : PlainAuto → Bool
are_too_many a = nat_lt GREATEST_TABLE (length (all_functions a))

-- all of the functions have been followed by each letter, and what that gives is among them
pub record IsNumbering (a : PlainAuto) (functions : List (List ℕ)) : Type 0 where
  pub in_order : functions ≡ discovered a (length functions)
  pub closed : (e letter : ℕ) → e < length functions → letter < a.letters
      → number_of functions (followed_by a (slice_index_or functions e []) letter) < length functions
