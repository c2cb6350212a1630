-- The first negative value of a compared sum, by test, row and label.
use Rattle.std.specs.Prelude.{ℕ, ◌+◌, pos, List, [], ◌∷◌, Option, None, option_map}
use Rattle.std.specs.Option.{option_or}
use Rattle.std.specs.List.{find, range_with_len}
use Rattle.std.specs.Int.RustNames.{int_lt}
use Rattle.gta_spec.specs.declared.parts.Check.{Check}
use Rattle.gta_spec.specs.declared.parts.Check.TheVariants.{Compare, Mod}
use Rattle.gta_checked.specs.PlainRows.{PlainRows}
use Rattle.gta_checked.specs.Plain.{PlainTest, Sum, PlainChecked}
use Rattle.gta_meaning.specs.InRange.{label_count}
use Rattle.gta_meaning.specs.Values.{value}
use Rattle.test_homs.specs.declared.negatives.Negative.{Negative}

-- the first answer that an item gets
abbrev pub first_some : {A B : Type 0} → (A → Option B) → List A → Option B
first_some f [] = None
first_some f (x ∷ xs) = option_or (f x) (first_some f xs)

-- the first label with which a row's value is negative
abbrev pub negative_label : PlainChecked → PlainRows → ℕ → ℕ → Option ℕ
negative_label checked rows measure row =
    find (λ label. int_lt (value checked rows measure row label) (pos 0))
    (range_with_len 0 (label_count checked))

-- the first label at which a measure is negative in a row
abbrev pub negative_at : PlainChecked → PlainRows → ℕ → ℕ → ℕ → Option Negative
negative_at checked rows test measure row =
    option_map (λ label. record {
      test = test;
      row = row;
      label = label;
      value = value checked rows measure row label;
    }) (negative_label checked rows measure row)

-- the first row and label at which a measure is negative
abbrev pub negative_value : PlainChecked → PlainRows → ℕ → ℕ → Option Negative
negative_value checked rows test measure =
    first_some (negative_at checked rows test measure) (range_with_len 0 rows.count)

abbrev pub negative_of_check : PlainChecked → PlainRows → ℕ → ℕ → Check → Option Negative
negative_of_check checked rows test measure (Compare cmp number) = negative_value checked rows test measure
negative_of_check checked rows test measure (Mod modulus residue) = None

abbrev pub negative_of_test : PlainChecked → PlainRows → ℕ → PlainTest → Option Negative
negative_of_test checked rows test (Sum measure check) = negative_of_check checked rows test measure check
negative_of_test checked rows test _ = None

-- the first negative value of the compared sums among the tests from this number on
abbrev pub negative_from : PlainChecked → PlainRows → ℕ → List PlainTest → Option Negative
negative_from checked rows number [] = None
negative_from checked rows number (test ∷ tests) =
    option_or (negative_of_test checked rows number test) (negative_from checked rows (number + 1) tests)

-- the first negative value of a compared sum
abbrev pub first_negative : PlainChecked → PlainRows → Option Negative
first_negative checked rows = negative_from checked rows 0 checked.tests
