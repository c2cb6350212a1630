-- The refusal of too many keys, from the fault of tests over rows without a negative value.
use Rattle.std.proofs.Common.{◌≡◌, ℕ, ℤ, Bool, true, false, nat_lt, if◌then◌else◌, Option, Some, None, refl, sym, ◌∙◌}
use Rattle.gta_checked.specs.PlainRows.{PlainRows}
use Rattle.gta_checked.specs.Plain.{PlainChecked}
use Rattle.monoid_product.specs.declared.product.TheConstants.{KEY_LIMIT}
use Rattle.test_homs.specs.declared.tests_of.ValueFault.{ValueFault}
use Rattle.test_homs.specs.declared.tests_of.ValueFault.TheVariants.{Negative, TooManyKeys}
use Rattle.test_homs.specs.Faults.{value_fault}
use Rattle.test_homs.specs.Negatives.{first_negative}
use Rattle.test_homs.specs.Sizes.{key_count}
use Rattle.test_homs.proofs.Faults.{value_fault-keys}
use Rattle.report_text.specs.declared.refusal.Refusal.{Refusal}
use Rattle.report_text.specs.declared.refusal.Refusal.TheVariants.{Keys}
use Rattle.gta_job.specs.Sizes.{keys_refusal}

abbrev fault_if : Bool → ℕ → Option ValueFault
fault_if past keys = if past then Some (TooManyKeys keys) else None

abbrev refusal_if : Bool → ℕ → Option Refusal
refusal_if past keys = if past then Some (Keys keys) else None

none_if : (past : Bool) (keys : ℕ) → fault_if past keys ≡ None → refusal_if past keys ≡ None
none_if true keys is = absurd (let h : Some (TooManyKeys keys) ≡ None = is in cc)
none_if false keys is = refl

some_if : (past : Bool) (keys told : ℕ) → fault_if past keys ≡ Some (TooManyKeys told)
    → refusal_if past keys ≡ Some (Keys told)
some_if true keys told is = let h : Some (TooManyKeys keys) ≡ Some (TooManyKeys told) = is in cc
some_if false keys told is = absurd (let h : None ≡ Some (TooManyKeys told) = is in cc)

no_other : (past : Bool) (keys test row label : ℕ) (value : ℤ)
    → fault_if past keys ≡ Some (Negative test row label value) → ⊥
no_other true keys test row label value is =
    let h : Some (TooManyKeys keys) ≡ Some (Negative test row label value) = is in cc
no_other false keys test row label value is =
    let h : None ≡ Some (Negative test row label value) = is in cc

module _ (checked : PlainChecked) (rows : PlainRows) (natural : first_negative checked rows ≡ None) where
  pub keys-few : value_fault checked rows ≡ None → keys_refusal checked ≡ None
  keys-few is = none_if (nat_lt KEY_LIMIT (key_count checked)) (key_count checked)
      (sym (value_fault-keys checked rows natural) ∙ is)

  pub keys-many : (keys : ℕ) → value_fault checked rows ≡ Some (TooManyKeys keys)
      → keys_refusal checked ≡ Some (Keys keys)
  keys-many keys is = some_if (nat_lt KEY_LIMIT (key_count checked)) (key_count checked) keys
      (sym (value_fault-keys checked rows natural) ∙ is)

  pub no-negative : (test row label : ℕ) (value : ℤ)
      → value_fault checked rows ≡ Some (Negative test row label value) → ⊥
  no-negative test row label value is = no_other (nat_lt KEY_LIMIT (key_count checked)) (key_count checked) test row
      label value
      (sym (value_fault-keys checked rows natural) ∙ is)
