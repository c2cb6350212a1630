-- Functions on the states of an automaton. A function is the list of where it takes each state.
use Rattle.std.specs.Prelude.{◌≡◌, ℕ, ◌<◌, List, All, Bool, length, map, slice_index_or, nat_eq}
use Rattle.std.specs.List.{position_or_len, range_with_len, IsDistinct}
use Rattle.std.specs.Cmp.Lexicographic.{pointwise}
use Rattle.monoid_kit.specs.declared.table.TheConstants.{GREATEST_TABLE}
use Rattle.auto_monoid.specs.Auto.{PlainAuto, IsWord, move, state_after_word}

-- a function from the numbers below n to themselves
pub record IsFunction (n : ℕ) (f : List ℕ) : Type 0 where
  pub whole : length f ≡ n
  pub below : All (λ state. state < n) f

-- each state stays
abbrev pub identity : PlainAuto → List ℕ
identity a = range_with_len 0 a.states

-- the function of a word: where its letters lead from each state
abbrev pub function_of : PlainAuto → List ℕ → List ℕ
function_of a word = map (λ state. state_after_word a state word) (identity a)

-- f, and then g
abbrev pub composition : List ℕ → List ℕ → List ℕ
composition f g = map (λ state. slice_index_or g state 0) f

-- f, and then a letter
abbrev pub followed_by : PlainAuto → List ℕ → ℕ → List ℕ
followed_by a f letter = map (move a letter) f

abbrev pub same : List ℕ → List ℕ → Bool
same f g = pointwise nat_eq f g

-- the place of the function in a list, or the length of the list where it isn't there
abbrev pub number_of : List (List ℕ) → List ℕ → ℕ
number_of functions f = position_or_len (same f) functions

-- the function is that of a word
abbrev pub IsReached : PlainAuto → List ℕ → Type 0
IsReached a f = (word : List ℕ) × IsWord a word × (function_of a word ≡ f)

-- there are more than 64 words with a function of its own each
abbrev pub AreMany : PlainAuto → Type 0
AreMany a =
    (words : List (List ℕ)) × All (IsWord a) words × IsDistinct same (map (function_of a) words)
    × (GREATEST_TABLE < length words)

-- there are no more than 64 different functions of words
abbrev pub AreFew : PlainAuto → Type 0
AreFew a = AreMany a → ⊥
