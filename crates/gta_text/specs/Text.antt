-- A text as its lines of tokens, up to the line `rows`, and the first byte that may not stand there.
use Rattle.std.specs.Prelude.{◌≡◌, ℕ, ◌+◌, ◌-◌, ◌<◌, ◌≤◌, Bool, true, false, not, ◌&&◌, ◌||◌, List, [], ◌∷◌, ◌++◌}
use Rattle.std.specs.Prelude.{length, take, drop, map, ◌==◌, nat_eq, nat_lt, nat_le, if◌then◌else◌, slice_index}
use Rattle.std.specs.Prelude.{slice_range, position, Option, Some, None, Result, Ok, Err, codes}
use Rattle.std.specs.List.{onto_first, starts_with}
use Rattle.std.specs.Str.{bytes_eq}
use Rattle.gta_text.specs.declared.token.TokenKind.{TokenKind}
use Rattle.gta_text.specs.declared.token.TokenKind.TheVariants.{Word, Digits, Text, Sign, Stray}
use Rattle.gta_text.specs.declared.token.Token.{Token}
use Rattle.gta_text.specs.declared.lines.Line.{Line}
use Rattle.gta_text.specs.declared.lines.Lines.{Lines}
use Rattle.gta_text.specs.declared.fault.TextFault.{TextFault}
use Rattle.gta_text.specs.declared.fault.TextFault.TheVariants.{Byte, Memory}
use Rattle.gta_text.specs.Tokens.{tokens_from}

-- the lines, each with the LF that ends it
unfoldable pub raw_lines : List ℕ → List (List ℕ)
raw_lines [] = []
raw_lines (b ∷ bs) = if b == 10 then (b ∷ []) ∷ raw_lines bs else onto_first b (raw_lines bs)

-- the bytes without b at their end
abbrev pub without_last : ℕ → List ℕ → List ℕ
without_last b bs =
    if nat_lt 0 (length bs) && slice_index bs (length bs - 1) == b then take (length bs - 1) bs else bs

-- what a line holds: without its LF, and then without a CR at its end
abbrev pub content : List ℕ → List ℕ
content line = without_last 13 (without_last 10 line)

-- a tab, or a byte of 32 to 126
abbrev pub is_plain : ℕ → Bool
is_plain b = b == 9 || nat_le 32 b && nat_le b 126

-- the index of the first byte that may not stand in a line of a specification
abbrev pub first_bad : List ℕ → Option ℕ
first_bad bs = position (λ b. not (is_plain b)) bs

-- the bytes of the token
abbrev pub token_text : List ℕ → Token → List ℕ
token_text source token = slice_range source token.start token.end

abbrev pub is_word_kind : TokenKind → Bool
is_word_kind Word = true
is_word_kind Digits = false
is_word_kind Text = false
is_word_kind Sign = false
is_word_kind Stray = false

-- the token is this word
abbrev pub is_the_word : List ℕ → List ℕ → Token → Bool
is_the_word word source token = is_word_kind token.kind && bytes_eq (token_text source token) word

-- the only token is the word `rows`
abbrev pub is_rows : List ℕ → List Token → Bool
is_rows source [] = false
is_rows source (token ∷ []) = is_the_word (codes "rows") source token
is_rows source (token ∷ second ∷ others) = false

-- a line that has tokens, by its number
pub record Numbered : Type 0 where
  pub number : ℕ
  pub tokens : List Token

-- the lines that have tokens before the line `rows`, and where the bytes after that line begin
pub record Found : Type 0 where
  pub lines : List Numbered
  pub rows_at : Option ℕ

-- a line's number and a place in it, both from 1
pub record BadByte : Type 0 where
  pub line : ℕ
  pub place : ℕ

-- the line, where it has tokens
abbrev pub line_if : ℕ → List Token → List Numbered
line_if number [] = []
line_if number (token ∷ tokens) = record { number = number; tokens = token ∷ tokens } ∷ []

abbrev pub with_lines : List Numbered → Result Found BadByte → Result Found BadByte
with_lines lines (Ok found) = Ok (record { lines = lines ++ found.lines; rows_at = found.rows_at })
with_lines lines (Err bad) = Err bad

abbrev pub unless_bad : ℕ → Option ℕ → Result Found BadByte → Result Found BadByte
unless_bad number None found = found
unless_bad number (Some k) found = Err (record { line = number; place = k + 1 })

-- the lines from the one with this number on, which stands at `place`
unfoldable pub lines_from : List ℕ → ℕ → ℕ → List (List ℕ) → Result Found BadByte
lines_from source number place [] = Ok (record { lines = []; rows_at = None })
lines_from source number place (line ∷ others) =
    let tokens = tokens_from 0 place (content line) in
    if is_rows source tokens then Ok (record { lines = []; rows_at = Some (place + length line) })
    else unless_bad number (first_bad (content line))
    (with_lines (line_if number tokens) (lines_from source (number + 1) (place + length line) others))

-- the length of the mark EF BB BF, where the bytes begin with it
abbrev pub mark_length : List ℕ → ℕ
mark_length bs = if starts_with nat_eq bs (239 ∷ 187 ∷ 191 ∷ []) then 3 else 0

-- the lines of the text behind a mark
unfoldable pub read_lines : List ℕ → Result Found BadByte
read_lines bs = lines_from bs 1 (mark_length bs) (raw_lines (drop (mark_length bs) bs))

-- these tokens, or the others where there are none
abbrev pub or_tokens : List Token → List Token → List Token
or_tokens [] others = others
or_tokens (token ∷ tokens) others = token ∷ tokens

-- the tokens of the first of these lines that has some, whatever bytes they hold; the lines stand at `place`
unfoldable pub first_tokens_from : ℕ → List (List ℕ) → List Token
first_tokens_from place [] = []
first_tokens_from place (line ∷ others) =
    or_tokens (tokens_from 0 place (content line)) (first_tokens_from (place + length line) others)

-- the tokens of the first line that has some
unfoldable pub first_tokens : List ℕ → List Token
first_tokens bs = first_tokens_from (mark_length bs) (raw_lines (drop (mark_length bs) bs))

abbrev pub line_view : Line → Numbered
line_view line = record { number = line.number; tokens = line.tokens.items }

abbrev pub lines_view : Lines → Found
lines_view lines = record { lines = map line_view lines.lines.items; rows_at = lines.rows_at }

-- the byte that a fault names; want of memory names none
abbrev pub fault_in : TextFault → Option BadByte
fault_in (Byte line place) = Some (record { line = line; place = place })
fault_in Memory = None

-- tokens between two places, in order, each with a byte or more
abbrev pub AreInOrder : ℕ → ℕ → List Token → Type 0
AreInOrder lo hi [] = Unit {0}
AreInOrder lo hi (token ∷ tokens) =
    (lo ≤ token.start) × (token.start < token.end) × (token.end ≤ hi)
    × AreInOrder token.end hi tokens

-- the line's tokens are those of a part of the source, at its place
pub record IsHeld (source : List ℕ) (line : Numbered) : Type 0 where
  pub front : List ℕ
  pub held : List ℕ
  pub back : List ℕ
  pub whole : source ≡ front ++ (held ++ back)
  pub tokens : line.tokens ≡ tokens_from 0 (length front) held
  pub ordered : AreInOrder 0 (length source) line.tokens

-- lines of the source with ascending numbers, from `low` on
abbrev pub AreHeld : List ℕ → ℕ → List Numbered → Type 0
AreHeld source low [] = Unit {0}
AreHeld source low (line ∷ lines) = (low ≤ line.number) × IsHeld source line × AreHeld source (line.number + 1) lines
