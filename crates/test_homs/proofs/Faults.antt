-- The first fault of tests over rows, by the number of keys.
use Rattle.std.proofs.Common.{◌≡◌, ℕ, ◌<◌, ◌≤◌, true, false, nat_lt, option_map, Option, Some, None, refl, ap, ◌∙◌}
use Rattle.std.proofs.Common.{arith}
use Rattle.std.proofs.lemmas.Bool.Decides.{nat_tests}
use Rattle.std.specs.Option.{option_or}
use Rattle.gta_checked.specs.PlainRows.{PlainRows}
use Rattle.gta_checked.specs.Plain.{PlainChecked}
use Rattle.monoid_product.specs.declared.product.TheConstants.{KEY_LIMIT}
use Rattle.test_homs.specs.declared.negatives.Negative.{Negative}
use Rattle.test_homs.specs.declared.tests_of.ValueFault.TheVariants.{TooManyKeys}
use Rattle.test_homs.specs.Faults.{keys_fault, negative_fault, value_fault}
use Rattle.test_homs.specs.Negatives.{first_negative}
use Rattle.test_homs.specs.Sizes.{key_count}

module _ (checked : PlainChecked) (rows : PlainRows) (natural : first_negative checked rows ≡ None) where
  -- where no value is negative, the fault is that of the keys
  pub value_fault-keys : value_fault checked rows ≡ keys_fault checked
  value_fault-keys = ap (λ (o : Option Negative). option_or (option_map negative_fault o) (keys_fault checked)) natural

  pub few_keys : key_count checked ≤ KEY_LIMIT → value_fault checked rows ≡ None
  few_keys few =
      let test : nat_lt KEY_LIMIT (key_count checked) ≡ false = grind (arith, nat_tests) in
      value_fault-keys ∙ rw test refl

  pub many_keys : {keys : ℕ} → keys ≡ key_count checked → KEY_LIMIT < key_count checked
      → value_fault checked rows ≡ Some (TooManyKeys keys)
  many_keys same many =
      let test : nat_lt KEY_LIMIT (key_count checked) ≡ true = grind (arith, nat_tests) in
      value_fault-keys ∙ rw (test, same) refl
