-- Going over a text line by line.
use Rattle.std.proofs.Common.{◌≡◌, ℕ, suc, ◌+◌, ◌<◌, true, false, List, [], ◌∷◌, ◌++◌, length, min, take, drop, refl}
use Rattle.std.proofs.Common.{sym, ◌∙◌, arith, append_assoc}
use Rattle.std.proofs.lemmas.List.{append-nil, nil_from_length}
use Rattle.std.specs.Prelude.{if◌then◌else◌, ◌==◌, Some, None, Result, Ok, Err}
use Rattle.std.specs.List.{prefix_len, onto_first}
use Rattle.gta_text.specs.declared.token.Token.{Token}
use Rattle.gta_text.specs.Lines.{is_inside}
use Rattle.gta_text.specs.Tokens.{tokens_from}
use Rattle.gta_text.specs.Text.{raw_lines, content, is_rows, first_bad, Found, BadByte, Numbered, line_if, with_lines}
use Rattle.gta_text.specs.Text.{unless_bad, lines_from, or_tokens, first_tokens_from}

-- the length of the first line with its LF
abbrev pub line_length : List ℕ → ℕ
line_length bs = min (prefix_len is_inside bs + 1) (length bs)

abbrev Next : List ℕ → Type 0
Next bs = raw_lines bs ≡ take (line_length bs) bs ∷ raw_lines (drop (line_length bs) bs)

raw_more : (b : ℕ) (bs : List ℕ) → (b == 10) ≡ false → raw_lines (b ∷ bs) ≡ onto_first b (raw_lines bs)
unfolding raw_lines
raw_more b bs isnt = rw isnt refl

one_line : (b : ℕ) (bs : List ℕ) → (b == 10) ≡ true → Next (b ∷ bs)
unfolding raw_lines
one_line b bs is =
    let len : line_length (b ∷ bs) ≡ 1 = rw is (omega arith) in
    rw (len, is) refl

last_line : (b : ℕ) → (b == 10) ≡ false → Next (b ∷ [])
unfolding raw_lines
last_line b isnt =
    let len : line_length (b ∷ []) ≡ 1 = rw isnt (omega arith) in
    rw (len, isnt) refl

more_line : (b c : ℕ) (bs : List ℕ) → (b == 10) ≡ false → Next (c ∷ bs) → Next (b ∷ c ∷ bs)
more_line b c bs isnt next =
    let len : line_length (b ∷ c ∷ bs) ≡ suc (line_length (c ∷ bs)) = rw isnt (omega arith) in
    let unfolded : raw_lines (b ∷ c ∷ bs) ≡ onto_first b (raw_lines (c ∷ bs)) = raw_more b (c ∷ bs) isnt in
    rw (len, unfolded, next) refl

rest_next : (b : ℕ) (bs : List ℕ) → (b == 10) ≡ false → (0 < length bs → Next bs) → Next (b ∷ bs)
rest_next b [] isnt next = last_line b isnt
rest_next b (c ∷ cs) isnt next = more_line b c cs isnt (next (omega arith))

pub raw_next : (bs : List ℕ) → 0 < length bs → Next bs
raw_next [] lt = absurd (omega arith)
raw_next (b ∷ bs) lt = elim (b == 10) as (λ t. (b == 10) ≡ t → Next (b ∷ bs))
    [ true ↦ (λ is. one_line b bs is) | false ↦ (λ isnt. rest_next b bs isnt (raw_next bs)) ] refl

pub no_front : (found : Result Found BadByte) → with_lines [] found ≡ found
no_front (Ok found) = refl
no_front (Err bad) = refl

regroup : (front more : List Numbered) (found : Result Found BadByte)
    → with_lines front (with_lines more found) ≡ with_lines (front ++ more) found
regroup front more (Ok found) = simp append_assoc
regroup front more (Err bad) = refl

-- the first line of what is left, and its tokens
pub record Turn (place n : ℕ) (rest line after held : List ℕ) (tokens : List Token) : Type 0 where
  pub some : 0 < length rest
  pub len : n ≡ line_length rest
  pub front : line ≡ take n rest
  pub back : after ≡ drop n rest
  pub holds : held ≡ content line
  pub read : tokens ≡ tokens_from 0 place held

-- the lines found so far, and those that are still read, are all lines
pub record SoFar (source rest : List ℕ) (front : List Numbered) (number place : ℕ) (whole : Result Found BadByte) :
    Type 0 where
  pub joined : with_lines front (lines_from source number place (raw_lines rest)) ≡ whole

pub at_end : {source rest : List ℕ} {front : List Numbered} {number place : ℕ} {whole : Result Found BadByte}
    → SoFar source rest front number place whole → length rest ≡ 0
    → whole ≡ Ok (record { lines = front; rows_at = None })
unfolding raw_lines lines_from
at_end {source = source} {rest = rest} {front = front} {number = number} {place = place} so_far none =
    let empty : rest ≡ [] = nil_from_length rest none in
    let one : with_lines front (lines_from source number place (raw_lines rest)) ≡ Ok
    (record { lines = front; rows_at = None }) =
    rw (empty, append-nil front) refl in
    sym so_far.joined ∙ one

module _ {source rest : List ℕ} {front : List Numbered} {number place n : ℕ} {line after held : List ℕ}
    {tokens : List Token} {whole : Result Found BadByte}
    (turn : Turn place n rest line after held tokens) (so_far : SoFar source rest front number place whole) where
  at_line : with_lines front
      (if is_rows source tokens then Ok (record { lines = []; rows_at = Some (place + length line) })
      else unless_bad number (first_bad held)
      (with_lines (line_if number tokens)
      (lines_from source (number + 1) (place + length line) (raw_lines after)))) ≡ whole
  unfolding lines_from
  at_line =
      let unfolds : raw_lines rest ≡ line ∷ raw_lines after = rw (turn.front, turn.back, turn.len)
      (raw_next rest turn.some) in
      rw (turn.read, turn.holds) (rw unfolds at so_far.joined)

  pub at_rows : is_rows source tokens ≡ true
      → whole ≡ Ok (record { lines = front; rows_at = Some (place + length line) })
  at_rows rows = sym (rw (rows, append-nil front) at at_line)

  pub at_bad : (k : ℕ) → is_rows source tokens ≡ false → first_bad held ≡ Some k
      → whole ≡ Err (record { line = number; place = k + 1 })
  at_bad k no_rows bad = sym (rw (no_rows, bad) at at_line)

  pub at_good : is_rows source tokens ≡ false → first_bad held ≡ None
      → SoFar source after (front ++ line_if number tokens) (number + 1) (place + length line) whole
  at_good no_rows good =
      record { joined = sym (regroup front (line_if number tokens) _) ∙ (rw (no_rows, good) at at_line) }

-- The first line that has tokens.

pub no_lines : (place : ℕ) (rest : List ℕ) → length rest ≡ 0 → first_tokens_from place (raw_lines rest) ≡ []
unfolding raw_lines first_tokens_from
no_lines place rest none = rw (nil_from_length rest none) refl

first_turn : {place n : ℕ} {rest line after held : List ℕ} {tokens : List Token}
    → Turn place n rest line after held tokens
    → first_tokens_from place (raw_lines rest)
    ≡ or_tokens tokens (first_tokens_from (place + length line) (raw_lines after))
unfolding first_tokens_from
first_turn {rest = rest} {line = line} {after = after} turn =
    let unfolds : raw_lines rest ≡ line ∷ raw_lines after = rw (turn.front, turn.back, turn.len)
    (raw_next rest turn.some) in
    rw (unfolds, turn.read, turn.holds) refl

pub goes_on : {place n : ℕ} {rest line after held : List ℕ} {tokens : List Token}
    → Turn place n rest line after held tokens → length tokens ≡ 0
    → first_tokens_from place (raw_lines rest) ≡ first_tokens_from (place + length line) (raw_lines after)
goes_on {tokens = tokens} turn none = first_turn turn ∙ (rw (nil_from_length tokens none) refl)

some_first : (tokens others : List Token) → 0 < length tokens → or_tokens tokens others ≡ tokens
some_first [] others some = absurd (omega arith)
some_first (token ∷ tokens) others some = refl

pub ends_here : {place n : ℕ} {rest line after held : List ℕ} {tokens : List Token}
    → Turn place n rest line after held tokens → 0 < length tokens
    → first_tokens_from place (raw_lines rest) ≡ tokens
ends_here {tokens = tokens} turn some = first_turn turn ∙ some_first tokens _ some
