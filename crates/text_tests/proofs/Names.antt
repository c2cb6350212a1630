-- Version 1 reserves no word that comes later.
use Rattle.std.proofs.Common.{◌≡◌, ℕ, Bool, true, false, List, refl}
use Rattle.std.specs.Prelude.{nat_le, if◌then◌else◌}
use Rattle.std.specs.List.{list_any}
use Rattle.std.specs.Str.{bytes_eq}
use Rattle.gta_spec.specs.Versions.{is_later, second_words, third_words}

any_way : (second third : Bool)
    → (if second then nat_le 2 1 else if third then nat_le 3 1 else false) ≡ false
any_way true third = refl
any_way false true = refl
any_way false false = refl

pub first_reserves_none : (word : List ℕ) → is_later 1 word ≡ false
unfolding is_later
first_reserves_none word = any_way (list_any (bytes_eq word) second_words) (list_any (bytes_eq word) third_words)
