-- The transition monoid of an automaton: its elements are the numbers of the functions of words.
use Rattle.std.specs.Prelude.{ℕ, List, [], ◌∷◌, length, map, slice_index_or}
use Rattle.std.specs.List.{flat_map, range_with_len}
use Rattle.monoid_kit.specs.Product.{product_by}
use Rattle.monoid_kit.specs.Table.{PlainTable, table_mul}
use Rattle.auto_monoid.specs.Auto.{PlainAuto}
use Rattle.auto_monoid.specs.Functions.{function_of, composition, number_of}

-- the products of one function with each
abbrev pub products : List (List ℕ) → List ℕ → List ℕ
products functions f = map (λ g. number_of functions (composition f g)) functions

-- the table of the numbers of all compositions
abbrev pub product_table : List (List ℕ) → PlainTable
product_table functions =
    record { size = length functions; unit = 0; cells = flat_map (products functions) functions }

-- the function that an element is the number of
abbrev pub function_at : List (List ℕ) → ℕ → List ℕ
function_at functions element = slice_index_or functions element []

-- the number of a letter's function
abbrev pub letter_element : PlainAuto → List (List ℕ) → ℕ → ℕ
letter_element a functions letter = number_of functions (function_of a (letter ∷ []))

-- the numbers of the functions of all letters
abbrev pub letter_elements : PlainAuto → List (List ℕ) → List ℕ
letter_elements a functions = map (letter_element a functions) (range_with_len 0 a.letters)

-- the product of the elements of a word's letters
abbrev pub word_element : PlainAuto → List (List ℕ) → List ℕ → ℕ
word_element a functions word =
    product_by 0 (table_mul (product_table functions)) (letter_element a functions) word

-- the state to which the function of an element takes the start
abbrev pub state_after_element : PlainAuto → List (List ℕ) → ℕ → ℕ
state_after_element a functions element = slice_index_or (function_at functions element) a.start 0
