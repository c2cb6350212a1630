-- What a token says: a line of tokens as symbols, over which the grammar stands.
use Rattle.std.specs.Prelude.{ℕ, ◌+◌, ◌-◌, List, map, length, take, drop, unwrap_or, if◌then◌else◌}
use Rattle.gta_text.specs.declared.token.Token.{Token}
use Rattle.gta_text.specs.declared.token.TokenKind.{TokenKind}
use Rattle.gta_text.specs.declared.token.TokenKind.TheVariants as kinds
use Rattle.gta_text.specs.declared.numbers.TheConstants.{NUMBER_BOUND}
use Rattle.gta_text.specs.Numbers.{digits_number}
use Rattle.gta_text.specs.Text.{token_text}
use Rattle.gta_spec.specs.Versions.{is_later}

-- Digits stand for their number, and for one past the bound where the number is past it.
-- A text stands without its quotes. A word that the version reserves, and version 1 doesn't, is a `Later`.
pub data Symbol : Type 0 where
  Word : List ℕ → Symbol
  Later : List ℕ → Symbol
  Digits : ℕ → Symbol
  Text : List ℕ → Symbol
  Sign : List ℕ → Symbol
  Stray : Symbol

abbrev pub unquoted : List ℕ → List ℕ
unquoted bs = take (length bs - 2) (drop 1 bs)

abbrev pub word_as : ℕ → List ℕ → Symbol
word_as version text = if is_later version text then Later text else Word text

abbrev pub symbol_as : ℕ → TokenKind → List ℕ → Symbol
symbol_as version kinds.Word text = word_as version text
symbol_as version kinds.Digits text = Digits (unwrap_or (digits_number text) (NUMBER_BOUND + 1))
symbol_as version kinds.Text text = Text (unquoted text)
symbol_as version kinds.Sign text = Sign text
symbol_as version kinds.Stray text = Stray

-- what a token says in this version
abbrev pub symbol_of : ℕ → List ℕ → Token → Symbol
symbol_of version source token = symbol_as version token.kind (token_text source token)

abbrev pub symbols : ℕ → List ℕ → List Token → List Symbol
symbols version source tokens = map (symbol_of version source) tokens
