-- What a law of semirings by tables cites: each weight gives an element.
use Rattle.std.specs.Prelude.{◌≡◌, ◌<◌, ℤ, pos, negsuc, Bool, true, false, nat_lt, cond}
use Rattle.std.proofs.Common.{refl}
use Rattle.std.proofs.lemmas.Bool.{ltb-true}
use Rattle.table_semiring.specs.Table.{PlainRaw, IsRaw, element_of}

pub element_of-is_element : (t : PlainRaw) → IsRaw t → (weight : ℤ) → element_of t weight < t.size
element_of-is_element t table (pos n) = by_test (nat_lt n t.size) refl
  where
    by_test : (test : Bool) → nat_lt n t.size ≡ test → cond test n t.zero < t.size
    by_test true is = ltb-true n t.size is
    by_test false is = table.zero_is_element
element_of-is_element t table (negsuc n) = table.zero_is_element
