-- What the matches of a parse say of a number.
use Rattle.std.specs.Prelude.{ℕ, ◌≡◌, ◌≤◌, List, Some}
use Rattle.std.specs.Option.{option_map_or}
use Rattle.std.specs.Str.Parse.{IsNumeral, digits_value, without_leading_plus}
use Rattle.clap.specs.Words.{Row, Text, one_of}

-- the number that a text of digits writes, where a plus may stand first
abbrev pub number_of : Text → ℕ
number_of text = digits_value 10 (without_leading_plus text)

-- the number that the matches hold under this name, or 0 where they hold none
abbrev pub number_under : Text → List Row → ℕ
number_under name rows = option_map_or number_of (one_of name rows) 0

-- the matches hold a number from least to most under this name
pub record HasNumber (least most : ℕ) (name : Text) (rows : List Row) : Type 0 where
  pub text : Text
  pub found : one_of name rows ≡ Some text
  pub numeral : IsNumeral 10 (without_leading_plus text)
  pub at_least : least ≤ number_of text
  pub at_most : number_of text ≤ most
