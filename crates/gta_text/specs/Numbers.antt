-- Numbers in decimal digits: which bytes are one, and its value.
use Rattle.std.specs.Prelude.{ℕ, Bool, ◌&&◌, List, [], ◌∷◌, length, ℤ, pos, neg_ℤ, ◌==◌, nat_lt, nat_le}
use Rattle.std.specs.Prelude.{if◌then◌else◌, Option, Some, None, option_map}
use Rattle.std.specs.List.{list_all}
use Rattle.std.specs.Str.Parse.{digits_value}
use Rattle.gta_text.specs.declared.numbers.TheConstants.{NUMBER_BOUND}

-- a digit, 0 to 9
abbrev pub is_digit : ℕ → Bool
is_digit b = nat_le 48 b && nat_le b 57

-- one digit or more, and nothing else
abbrev pub is_number : List ℕ → Bool
is_number bs = nat_lt 0 (length bs) && list_all is_digit bs

-- the number that the digits write, if they are digits and it is within the bound
abbrev pub digits_number : List ℕ → Option ℕ
digits_number bs = if is_number bs && nat_le (digits_value 10 bs) NUMBER_BOUND then Some (digits_value 10 bs) else None

-- the number of a cell: digits behind a plus, a minus or no sign
abbrev pub cell_number : List ℕ → Option ℤ
cell_number [] = None
cell_number (b ∷ bs) =
    if b == 43 then option_map pos (digits_number bs)
    else if b == 45 then option_map (λ n. neg_ℤ (pos n)) (digits_number bs)
    else option_map pos (digits_number (b ∷ bs))
