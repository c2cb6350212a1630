-- The versions of the language, and what each adds to the first.
use Rattle.std.specs.Prelude.{ℕ, Bool, false, ◌||◌, List, [], ◌∷◌, ◌==◌, nat_le, if◌then◌else◌}
use Rattle.std.specs.Prelude.{Option, Some, None, codes}
use Rattle.std.specs.List.{list_any}
use Rattle.std.specs.Str.{bytes_eq}
use Rattle.gta_spec.specs.declared.limits.TheConstants.{FIRST_ROW_LIMIT, ROW_LIMIT}

abbrev pub is_version : ℕ → Bool
is_version version = version == 1 || version == 2 || version == 3

-- the version whose number is spelled just so
abbrev pub version_named : List ℕ → Option ℕ
version_named digits =
    if bytes_eq digits (codes "1") then Some 1
    else if bytes_eq digits (codes "2") then Some 2
    else if bytes_eq digits (codes "3") then Some 3
    else None

-- the words that are reserved from version 2 on
abbrev pub second_words : List (List ℕ)
second_words = codes "keep" ∷ codes "or" ∷ codes "not" ∷ codes "then" ∷ []

-- the words that are reserved from version 3 on
abbrev pub third_words : List (List ℕ)
third_words =
    codes "automaton" ∷ codes "states" ∷ codes "start" ∷ codes "letters" ∷ codes "step" ∷ codes "run" ∷ codes "end"
    ∷ codes "move" ∷ codes "skip" ∷ codes "take" ∷ codes "semiring" ∷ codes "zero" ∷ codes "one" ∷ codes "plus"
    ∷ codes "mult" ∷ codes "in" ∷ []

-- whether the version reserves a word that version 1 doesn't
unfoldable pub is_later : ℕ → List ℕ → Bool
is_later version word =
    if list_any (bytes_eq word) second_words then nat_le 2 version
    else if list_any (bytes_eq word) third_words then nat_le 3 version
    else false

-- the most rows of a table
abbrev pub row_limit : ℕ → ℕ
row_limit version = if version == 1 then FIRST_ROW_LIMIT else ROW_LIMIT
