-- Words, and which of them are names.
use Rattle.std.specs.Prelude.{ℕ, Bool, false, not, ◌&&◌, ◌||◌, List, [], ◌∷◌, ◌==◌, nat_le, codes}
use Rattle.std.specs.List.{list_all, list_any}
use Rattle.std.specs.Str.{bytes_eq}
use Rattle.gta_text.specs.Numbers.{is_digit}

-- a letter A to Z or a to z, or an underscore
abbrev pub is_letter : ℕ → Bool
is_letter b = nat_le 65 b && nat_le b 90 || nat_le 97 b && nat_le b 122 || b == 95

abbrev pub is_word_byte : ℕ → Bool
is_word_byte b = is_letter b || is_digit b

-- a letter, and then any number of letters and digits
abbrev pub is_word : List ℕ → Bool
is_word [] = false
is_word (b ∷ bs) = is_letter b && list_all is_word_byte bs

-- the words of the language itself
abbrev pub reserved_words : List (List ℕ)
reserved_words =
    codes "gta" ∷ codes "columns" ∷ codes "labels" ∷ codes "measure" ∷ codes "table" ∷ codes "times"
    ∷ codes "generate" ∷ codes "test" ∷ codes "aggregate" ∷ codes "rows" ∷ codes "sum" ∷ codes "length"
    ∷ codes "fold" ∷ codes "by" ∷ codes "accept" ∷ codes "mod" ∷ codes "if" ∷ codes "and" ∷ codes "label"
    ∷ codes "unit" ∷ codes "elements" ∷ codes "best" ∷ codes "max" ∷ codes "min" ∷ codes "count"
    ∷ codes "any" ∷ codes "sublists" ∷ codes "segments" ∷ codes "prefixes" ∷ codes "suffixes"
    ∷ codes "assign" ∷ []

unfoldable pub is_reserved : List ℕ → Bool
is_reserved bs = list_any (bytes_eq bs) reserved_words

-- a name: a word that is not reserved
abbrev pub is_name_text : List ℕ → Bool
is_name_text bs = is_word bs && not (is_reserved bs)
