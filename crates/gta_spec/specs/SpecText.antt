-- Which specification a text is: its lines, each derived by the grammar.
use Rattle.std.specs.Prelude.{◌≡◌, ℕ, Bool, true, false, ◌&&◌, List, [], ◌∷◌, nat_lt, Option, Some, None, Ok, codes}
use Rattle.std.specs.Prelude.{if◌then◌else◌}
use Rattle.std.specs.List.{list_any}
use Rattle.gta_text.specs.declared.numbers.TheConstants.{NUMBER_BOUND}
use Rattle.gta_text.specs.declared.token.Token.{Token}
use Rattle.gta_text.specs.declared.token.TokenKind.{TokenKind}
use Rattle.gta_text.specs.declared.token.TokenKind.TheVariants as kinds
use Rattle.gta_text.specs.Text.{Numbered, first_tokens, read_lines, token_text, is_the_word}
use Rattle.gta_spec.specs.Parts.{KindTree, PartTree, SpecTree}
use Rattle.gta_spec.specs.Versions.{version_named}
use Rattle.gta_spec.specs.Symbols.{Symbol, Word, Later, Digits, Text, Sign, Stray, symbol_of, symbols}
use Rattle.gta_spec.specs.Grammar.{IsPart}

abbrev pub is_digits_kind : TokenKind → Bool
is_digits_kind kinds.Word = false
is_digits_kind kinds.Digits = true
is_digits_kind kinds.Text = false
is_digits_kind kinds.Sign = false
is_digits_kind kinds.Stray = false

-- the version that the tokens name: `gta` and a number
abbrev pub version_in : List ℕ → List Token → Option ℕ
version_in source [] = None
version_in source (word ∷ []) = None
version_in source (word ∷ digits ∷ []) =
    if is_the_word (codes "gta") source word && is_digits_kind digits.kind
    then version_named (token_text source digits)
    else None
version_in source (word ∷ digits ∷ third ∷ others) = None

-- the version that the first line with tokens names, whatever bytes the lines hold
unfoldable pub first_version : List ℕ → Option ℕ
first_version bytes = version_in bytes (first_tokens bytes)

-- a number past the bound
abbrev pub is_past : Symbol → Bool
is_past (Word x) = false
is_past (Later x) = false
is_past (Digits n) = nat_lt NUMBER_BOUND n
is_past (Text x) = false
is_past (Sign s) = false
is_past Stray = false

abbrev pub has_past : ℕ → List ℕ → List Token → Bool
has_past version source tokens = list_any (λ token. is_past (symbol_of version source token)) tokens

-- each line is derived as the part that stands at its place
pub data AreParts (version : ℕ) (source : List ℕ) : List Numbered → List PartTree → Type 0 where
  none : AreParts version source [] []
  some : {line : Numbered} {lines : List Numbered} {kind : KindTree} {parts : List PartTree}
      → IsPart version kind (symbols version source line.tokens) → AreParts version source lines parts
      → AreParts version source (line ∷ lines) (record { line = line.number; kind = kind } ∷ parts)

-- the bytes are this specification, and the table begins at this place
pub record SpecText (bytes : List ℕ) (spec : SpecTree) (place : ℕ) : Type 0 where
  pub first : Numbered
  pub others : List Numbered
  pub lines : read_lines bytes ≡ Ok (record { lines = first ∷ others; rows_at = Some place })
  pub version : version_in bytes first.tokens ≡ Some spec.version
  pub parts : AreParts spec.version bytes others spec.parts
  pub numbers : list_any (λ line. has_past spec.version bytes line.tokens) others ≡ false
