-- Tests with their letters and accepted elements in lists.
use Rattle.std.specs.Prelude.{ℕ, Bool, List, length, map, slice_index_or}
use Rattle.std.specs.List.{flat_map, range_with_len}
use Rattle.gta_checked.specs.PlainRows.{PlainRows}
use Rattle.gta_spec.specs.declared.parts.Check.TheVariants.{Mod}
use Rattle.gta_checked.specs.Plain.{PlainTest, Length, PlainChecked}
use Rattle.gta_meaning.specs.InRange.{label_count}
use Rattle.monoid_product.specs.Component.{PlainComponent, component_size}
use Rattle.monoid_product.specs.ComponentOf.{plain_component}
use Rattle.test_homs.specs.declared.prepared.Prepared.{Prepared}
use Rattle.test_homs.specs.Hom.{Hom}
use Rattle.test_homs.specs.Kinds.{hom_of}

-- the number of a test among the lines, its monoid, the letters by row and then by label, and for each element whether
-- it is accepted
pub record PlainPrepared : Type 0 where
  pub number : ℕ
  pub component : PlainComponent
  pub letters : List ℕ
  pub accept : List Bool

abbrev pub plain_prepared : Prepared → PlainPrepared
plain_prepared test = record {
  number = test.number;
  component = plain_component test.component;
  letters = test.letters.items;
  accept = test.accept.items;
}

-- the letters of a row, label by label
abbrev pub row_letters : Hom → PlainRows → ℕ → ℕ → List ℕ
row_letters hom rows labels row = map (hom.letter rows row) (range_with_len 0 labels)

abbrev pub letters_of : Hom → PlainRows → ℕ → List ℕ
letters_of hom rows labels = flat_map (row_letters hom rows labels) (range_with_len 0 rows.count)

abbrev pub accepted_by : Hom → List Bool
accepted_by hom = map hom.accepts (range_with_len 0 (component_size hom.component))

-- the test of a number, with the letters of so many labels
abbrev pub prepared_of : PlainRows → ℕ → ℕ → Hom → PlainPrepared
prepared_of rows labels number hom = record {
  number = number;
  component = hom.component;
  letters = letters_of hom rows labels;
  accept = accepted_by hom;
}

-- what stands past the last test: one that all candidates pass
abbrev pub no_test : PlainTest
no_test = Length (Mod 1 0)

-- the test of a number, from 0
abbrev pub test_at : PlainChecked → ℕ → PlainTest
test_at checked number = slice_index_or checked.tests number no_test

-- the test of a number of a specification
abbrev pub prepared_test : PlainChecked → PlainRows → ℕ → PlainPrepared
prepared_test checked rows number =
    prepared_of rows (label_count checked) number (hom_of checked (test_at checked number))

-- all of them
abbrev pub prepared_tests : PlainChecked → PlainRows → List PlainPrepared
prepared_tests checked rows = map (prepared_test checked rows) (range_with_len 0 (length checked.tests))
