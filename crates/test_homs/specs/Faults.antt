-- The faults of tests over rows: the first negative value of a compared sum, or else too many keys.
use Rattle.std.specs.Prelude.{nat_lt, if◌then◌else◌, Option, Some, None, option_map}
use Rattle.std.specs.Option.{option_or}
use Rattle.gta_checked.specs.PlainRows.{PlainRows}
use Rattle.gta_checked.specs.Plain.{PlainChecked}
use Rattle.monoid_product.specs.declared.product.TheConstants.{KEY_LIMIT}
use Rattle.test_homs.specs.declared.negatives.Negative.{Negative}
use Rattle.test_homs.specs.declared.tests_of.ValueFault.{ValueFault}
use Rattle.test_homs.specs.declared.tests_of.ValueFault.TheVariants as faults
use Rattle.test_homs.specs.Negatives.{first_negative}
use Rattle.test_homs.specs.Sizes.{key_count}

abbrev pub negative_fault : Negative → ValueFault
negative_fault first = faults.Negative first.test first.row first.label first.value

-- the number of keys, where it is past the limit
abbrev pub keys_fault : PlainChecked → Option ValueFault
keys_fault checked =
    if nat_lt KEY_LIMIT (key_count checked) then Some (faults.TooManyKeys (key_count checked)) else None

-- the first fault, or none: the first negative value, and only where there is none, the number of keys
abbrev pub value_fault : PlainChecked → PlainRows → Option ValueFault
value_fault checked rows = option_or (option_map negative_fault (first_negative checked rows)) (keys_fault checked)

-- the fault that an end tells of; want of memory is none
abbrev pub fault_in : ValueFault → Option ValueFault
fault_in faults.Memory = None
fault_in fault = Some fault
