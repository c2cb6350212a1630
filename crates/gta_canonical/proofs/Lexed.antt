-- The tokens of the text of pieces are their symbols.
use Rattle.std.proofs.Common.{◌≡◌, ℕ, suc, ◌+◌, ◌-◌, ◌≤◌, ◌<◌, ◌^◌, Bool, true, false, cond, ◌&&◌, List, [], ◌∷◌}
use Rattle.std.proofs.Common.{◌++◌, length, map, refl, ap, ◌∙◌, arith, append_assoc, one-add, length-append}
use Rattle.std.proofs.lemmas.Bool.Decides.{nat_tests}
use Rattle.std.proofs.Math.Seq.{take-append_seam, drop-append_seam}
use Rattle.std.proofs.lemmas.Fmt.{digits_decimal, digits_value-decimal, decimal_nonempty}
use Rattle.std.proofs.lemmas.Str.Parse.{IsNumeralModel, numerals_by_value}
use Rattle.std.specs.Prelude.{unwrap_or, nat_eq, nat_lt, nat_le, codes, decimal}
use Rattle.std.specs.List.{list_all, prefix_len}
use Rattle.std.specs.Str.Parse.{digits_value}
use Rattle.gta_text.specs.declared.token.TokenKind.{TokenKind}
use Rattle.gta_text.specs.declared.token.TokenKind.TheVariants as kinds
use Rattle.gta_text.specs.declared.numbers.TheConstants.{NUMBER_BOUND}
use Rattle.gta_text.specs.Numbers.{is_digit, digits_number}
use Rattle.gta_text.specs.Names.{is_letter, is_word_byte, is_word}
use Rattle.gta_text.specs.Tokens.{is_blank, is_text_byte, token_at}
use Rattle.gta_text.proofs.Slices.{spelled_from}
use Rattle.gta_spec.specs.Versions.{is_later}
use Rattle.gta_spec.specs.Symbols.{Symbol, Word, Later, Digits, Text, Sign, Stray, unquoted, word_as}
use Rattle.gta_canonical.specs.Canonical.{Piece, symbol_text, piece_text, line_text}
use Rattle.gta_spec.proofs.WellRead.{as_symbol}
use Rattle.std.proofs.Common.{rules}

-- a sign of the language
pub data IsSignText : List ℕ → Type 0 where
  at_most : IsSignText (codes "<=")
  at_least : IsSignText (codes ">=")
  equal : IsSignText (codes "=")
  plus : IsSignText (codes "+")
  minus : IsSignText (codes "-")
  times : IsSignText (codes "*")
  semicolon : IsSignText (codes ";")
  opening : IsSignText (codes "(")
  closing : IsSignText (codes ")")

abbrev pub is_sign_symbol : Symbol → Bool
is_sign_symbol (Word x) = false
is_sign_symbol (Later x) = false
is_sign_symbol (Digits n) = false
is_sign_symbol (Text x) = false
is_sign_symbol (Sign s) = true
is_sign_symbol Stray = false

-- what may stand right behind a word or a number
abbrev pub closes : Bool → Symbol → Bool
closes is_glued symbol = cond is_glued (is_sign_symbol symbol) true

abbrev pub Closed : List Piece → Type 0
Closed [] = Unit {0}
Closed (p ∷ ps) = closes p.glued p.symbol ≡ true

-- a word and a number end where something else begins
abbrev pub ClosedBehind : Symbol → List Piece → Type 0
ClosedBehind (Word x) ps = Closed ps
ClosedBehind (Later x) ps = Closed ps
ClosedBehind (Digits n) ps = Closed ps
ClosedBehind (Text x) ps = Unit {0}
ClosedBehind (Sign s) ps = Unit {0}
ClosedBehind Stray ps = Unit {0}

prefix_seam : (p : ℕ → Bool) (xs t : List ℕ) → list_all p xs ≡ true → prefix_len p t ≡ 0
    → prefix_len p (xs ++ t) ≡ length xs
prefix_seam p [] t all none = none
prefix_seam p (x ∷ xs) t all none = elim (p x) as
    (λ b. (b && list_all p xs) ≡ true → cond b (1 + prefix_len p (xs ++ t)) 0 ≡ suc (length xs))
    [ true ↦ (λ e. simp one-add (ap (λ n. suc n) (prefix_seam p xs t e none))) | false ↦ (λ e. absurd cc) ] all

skip_seam : (bs t : List ℕ) → spelled_from (length bs) (bs ++ t) ≡ spelled_from 0 t
unfolding spelled_from
skip_seam [] t = refl
skip_seam (b ∷ bs) t = skip_seam bs t

token_step : (b : ℕ) (bs t : List ℕ) (kind : TokenKind) → is_blank b ≡ false → nat_eq b 35 ≡ false
    → token_at b (bs ++ t) ≡ (kind, length bs)
    → spelled_from 0 (b ∷ (bs ++ t)) ≡ (kind, b ∷ bs) ∷ spelled_from 0 t
unfolding spelled_from
token_step b bs t kind not_blank no_comment token =
    rw (not_blank, no_comment, token, take-append_seam bs t) (ap (λ ts. (kind, b ∷ bs) ∷ ts) (skip_seam bs t))

and_left : (a b : Bool) → (a && b) ≡ true → a ≡ true
and_left true b e = refl
and_left false b e = absurd cc

and_right : (a b : Bool) → (a && b) ≡ true → b ≡ true
and_right true b e = e
and_right false b e = absurd cc

letter_not_blank : (b : ℕ) → is_letter b ≡ true → is_blank b ≡ false
letter_not_blank b e = grind (arith, nat_tests)

letter_no_comment : (b : ℕ) → is_letter b ≡ true → nat_eq b 35 ≡ false
letter_no_comment b e = grind (arith, nat_tests)

digit_not_blank : (b : ℕ) → is_digit b ≡ true → is_blank b ≡ false
digit_not_blank b e = grind (arith, nat_tests)

digit_no_comment : (b : ℕ) → is_digit b ≡ true → nat_eq b 35 ≡ false
digit_no_comment b e = grind (arith, nat_tests)

digit_no_letter : (b : ℕ) → is_digit b ≡ true → is_letter b ≡ false
digit_no_letter b e = grind (arith, nat_tests)

word_token : (b : ℕ) (bs t : List ℕ) → is_letter b ≡ true → list_all is_word_byte bs ≡ true
    → prefix_len is_word_byte t ≡ 0
    → token_at b (bs ++ t) ≡ (kinds.Word, length bs)
unfolding token_at
word_token b bs t letter all none = rw (letter, prefix_seam is_word_byte bs t all none) refl

digits_token : (b : ℕ) (bs t : List ℕ) → is_digit b ≡ true → list_all is_digit bs ≡ true → prefix_len is_digit t ≡ 0
    → token_at b (bs ++ t) ≡ (kinds.Digits, length bs)
unfolding token_at
digits_token b bs t digit all none = rw (digit_no_letter b digit, digit, prefix_seam is_digit bs t all none) refl

text_token : (x t : List ℕ) → list_all is_text_byte x ≡ true
    → token_at 34 ((x ++ 34 ∷ []) ++ t) ≡ (kinds.Text, length (x ++ 34 ∷ []))
unfolding token_at
text_token x t all =
    let len : length (x ++ 34 ∷ []) ≡ length x + 1 = length-append x (34 ∷ []) in
    let inside : prefix_len is_text_byte (x ++ (34 ∷ t)) ≡ length x = prefix_seam is_text_byte x (34 ∷ t) all refl in
    rw (append_assoc x (34 ∷ []) t, len, inside, drop-append_seam x (34 ∷ t)) refl

own : IsNumeralModel (λ ds. list_all is_digit ds ≡ true) (digits_value 10)
own = numerals_by_value _ (search rules)

small : (n : ℕ) → n ≤ NUMBER_BOUND → n < 2 ^ 64
small n le = omega arith

value_again : (n : ℕ) → n ≤ NUMBER_BOUND → unwrap_or (digits_number (decimal n)) (NUMBER_BOUND + 1) ≡ n
value_again n le =
    let all : list_all is_digit (decimal n) ≡ true = digits_decimal own n (small n le) in
    let value : digits_value 10 (decimal n) ≡ n = digits_value-decimal own n (small n le) in
    let some : nat_lt 0 (length (decimal n)) ≡ true = let lt : 0 < length (decimal n) = decimal_nonempty n
    (small n le) in grind (arith, nat_tests) in
    let bound : nat_le n NUMBER_BOUND ≡ true = grind (arith, nat_tests) in
    rw (some, all, value, bound) refl

unquotes : (x : List ℕ) → unquoted (34 ∷ (x ++ 34 ∷ [])) ≡ x
unquotes x =
    let len : length (34 ∷ (x ++ 34 ∷ [])) - 2 ≡ length x = omega (arith, length-append x (34 ∷ [])) in
    rw len (take-append_seam x (34 ∷ []))

-- nothing in t belongs to a word or a number before it
abbrev Stops : List ℕ → Type 0
Stops t = (prefix_len is_word_byte t ≡ 0) × (prefix_len is_digit t ≡ 0)

sign_stops : (s t : List ℕ) → IsSignText s → Stops (s ++ t)
sign_stops s t IsSignText.at_most = (refl, refl)
sign_stops s t IsSignText.at_least = (refl, refl)
sign_stops s t IsSignText.equal = (refl, refl)
sign_stops s t IsSignText.plus = (refl, refl)
sign_stops s t IsSignText.minus = (refl, refl)
sign_stops s t IsSignText.times = (refl, refl)
sign_stops s t IsSignText.semicolon = (refl, refl)
sign_stops s t IsSignText.opening = (refl, refl)
sign_stops s t IsSignText.closing = (refl, refl)

-- every byte is printed ASCII

abbrev pub is_print : ℕ → Bool
is_print b = nat_le 32 b && nat_le b 126

all_weaker : (p q : ℕ → Bool) → ((b : ℕ) → p b ≡ true → q b ≡ true) → (xs : List ℕ) → list_all p xs ≡ true
    → list_all q xs ≡ true
all_weaker p q each [] all = refl
all_weaker p q each (x ∷ xs) all =
    rw (each x (and_left (p x) (list_all p xs) all)) (all_weaker p q each xs (and_right (p x) (list_all p xs) all))

all_both : (p : ℕ → Bool) (xs ys : List ℕ) → list_all p xs ≡ true → list_all p ys ≡ true → list_all p (xs ++ ys) ≡ true
all_both p [] ys first second = second
all_both p (x ∷ xs) ys first second = rw (and_left (p x) (list_all p xs) first)
    (all_both p xs ys (and_right (p x) (list_all p xs) first) second)

letter_print : (b : ℕ) → is_letter b ≡ true → is_print b ≡ true
letter_print b e = grind (arith, nat_tests)

word_byte_print : (b : ℕ) → is_word_byte b ≡ true → is_print b ≡ true
word_byte_print b e = grind (arith, nat_tests)

digit_print : (b : ℕ) → is_digit b ≡ true → is_print b ≡ true
digit_print b e = grind (arith, nat_tests)

text_print : (b : ℕ) → is_text_byte b ≡ true → is_print b ≡ true
text_print b e = grind (arith, nat_tests)

word_prints : (x : List ℕ) → is_word x ≡ true → list_all is_print x ≡ true
word_prints [] word = absurd cc
word_prints (b ∷ bs) word =
    rw (letter_print b (and_left (is_letter b) (list_all is_word_byte bs) word))
    (all_weaker is_word_byte is_print word_byte_print bs
    (and_right (is_letter b) (list_all is_word_byte bs) word))

sign_prints : (s : List ℕ) → IsSignText s → list_all is_print s ≡ true
sign_prints s IsSignText.at_most = refl
sign_prints s IsSignText.at_least = refl
sign_prints s IsSignText.equal = refl
sign_prints s IsSignText.plus = refl
sign_prints s IsSignText.minus = refl
sign_prints s IsSignText.times = refl
sign_prints s IsSignText.semicolon = refl
sign_prints s IsSignText.opening = refl
sign_prints s IsSignText.closing = refl

module _ (version : ℕ) where
  -- a symbol that can be written in this version
  abbrev pub Writable : Symbol → Type 0
  Writable (Word x) = (is_word x ≡ true) × (is_later version x ≡ false)
  Writable (Later x) = (is_word x ≡ true) × (is_later version x ≡ true)
  Writable (Digits n) = n ≤ NUMBER_BOUND
  Writable (Text x) = list_all is_text_byte x ≡ true
  Writable (Sign s) = IsSignText s
  Writable Stray = ⊥

  abbrev pub AreWritable : List Piece → Type 0
  AreWritable [] = Unit {0}
  AreWritable (p ∷ ps) = Writable p.symbol × ClosedBehind p.symbol ps × AreWritable ps

  -- what the tokens of the text say
  abbrev said : List ℕ → List Symbol
  said t = map (as_symbol version) (spelled_from 0 t)

  -- the text of one symbol, and then t
  abbrev Lexes : Symbol → List ℕ → Type 0
  Lexes s t = said (symbol_text s ++ t) ≡ s ∷ said t

  lex_word : (x t : List ℕ) → is_word x ≡ true → prefix_len is_word_byte t ≡ 0
      → said (x ++ t) ≡ word_as version x ∷ said t
  lex_word [] t word none = absurd cc
  lex_word (b ∷ bs) t word none =
      let letter = and_left (is_letter b) (list_all is_word_byte bs) word in
      ap (λ ps. map (as_symbol version) ps)
      (token_step b bs t kinds.Word (letter_not_blank b letter) (letter_no_comment b letter)
      (word_token b bs t letter (and_right (is_letter b) (list_all is_word_byte bs) word) none))

  word_is : (x : List ℕ) → is_later version x ≡ false → word_as version x ≡ Word x
  word_is x off = rw off refl

  later_is : (x : List ℕ) → is_later version x ≡ true → word_as version x ≡ Later x
  later_is x on = rw on refl

  lex_digits_of : (ds t : List ℕ) → 0 < length ds → list_all is_digit ds ≡ true → prefix_len is_digit t ≡ 0
      → said (ds ++ t) ≡ Digits (unwrap_or (digits_number ds) (NUMBER_BOUND + 1)) ∷ said t
  lex_digits_of [] t some all none = absurd (omega arith)
  lex_digits_of (b ∷ bs) t some all none =
      let digit = and_left (is_digit b) (list_all is_digit bs) all in
      ap (λ ps. map (as_symbol version) ps)
      (token_step b bs t kinds.Digits (digit_not_blank b digit) (digit_no_comment b digit)
      (digits_token b bs t digit (and_right (is_digit b) (list_all is_digit bs) all) none))

  lex_digits : (n : ℕ) (t : List ℕ) → n ≤ NUMBER_BOUND → prefix_len is_digit t ≡ 0 → Lexes (Digits n) t
  lex_digits n t le none =
      lex_digits_of (decimal n) t (decimal_nonempty n (small n le)) (digits_decimal own n (small n le)) none
      ∙ ap (λ v. Digits v ∷ said t) (value_again n le)

  lex_text : (x t : List ℕ) → list_all is_text_byte x ≡ true → Lexes (Text x) t
  lex_text x t all =
      ap (λ ps. map (as_symbol version) ps) (token_step 34 (x ++ 34 ∷ []) t kinds.Text refl refl (text_token x t all))
      ∙ ap (λ y. Text y ∷ said t) (unquotes x)

  lex_sign : (s t : List ℕ) → IsSignText s → Lexes (Sign s) t
  unfolding token_at
  lex_sign s t IsSignText.at_most =
      ap (λ ps. map (as_symbol version) ps) (token_step 60 (61 ∷ []) t kinds.Sign refl refl refl)
  lex_sign s t IsSignText.at_least =
      ap (λ ps. map (as_symbol version) ps) (token_step 62 (61 ∷ []) t kinds.Sign refl refl refl)
  lex_sign s t IsSignText.equal = ap (λ ps. map (as_symbol version) ps) (token_step 61 [] t kinds.Sign refl refl refl)
  lex_sign s t IsSignText.plus = ap (λ ps. map (as_symbol version) ps) (token_step 43 [] t kinds.Sign refl refl refl)
  lex_sign s t IsSignText.minus = ap (λ ps. map (as_symbol version) ps) (token_step 45 [] t kinds.Sign refl refl refl)
  lex_sign s t IsSignText.times = ap (λ ps. map (as_symbol version) ps) (token_step 42 [] t kinds.Sign refl refl refl)
  lex_sign s t IsSignText.semicolon =
      ap (λ ps. map (as_symbol version) ps) (token_step 59 [] t kinds.Sign refl refl refl)
  lex_sign s t IsSignText.opening = ap (λ ps. map (as_symbol version) ps) (token_step 40 [] t kinds.Sign refl refl refl)
  lex_sign s t IsSignText.closing = ap (λ ps. map (as_symbol version) ps) (token_step 41 [] t kinds.Sign refl refl refl)

  piece_stops : (g : Bool) (s : Symbol) (t : List ℕ) → Writable s → closes g s ≡ true
      → Stops ((cond g [] (32 ∷ []) ++ symbol_text s) ++ t)
  piece_stops false s t w closed = (refl, refl)
  piece_stops true (Word x) t w closed = absurd cc
  piece_stops true (Later x) t w closed = absurd cc
  piece_stops true (Digits n) t w closed = absurd cc
  piece_stops true (Text x) t w closed = absurd cc
  piece_stops true (Sign s) t w closed = sign_stops s t w
  piece_stops true Stray t w closed = absurd w

  stops : (ps : List Piece) → AreWritable ps → Closed ps → Stops (line_text ps)
  stops [] w closed = (refl, refl)
  stops (p ∷ ps) w closed = piece_stops p.glued p.symbol (line_text ps) w.0 closed

  lex_symbol : (s : Symbol) (ps : List Piece) → Writable s → ClosedBehind s ps → AreWritable ps → Lexes s (line_text ps)
  lex_symbol (Word x) ps w closed ws =
      lex_word x (line_text ps) w.0 (stops ps ws closed).0
      ∙ ap (λ s. s ∷ said (line_text ps)) (word_is x w.1)
  lex_symbol (Later x) ps w closed ws =
      lex_word x (line_text ps) w.0 (stops ps ws closed).0
      ∙ ap (λ s. s ∷ said (line_text ps)) (later_is x w.1)
  lex_symbol (Digits n) ps w closed ws = lex_digits n (line_text ps) w (stops ps ws closed).1
  lex_symbol (Text x) ps w closed ws = lex_text x (line_text ps) w
  lex_symbol (Sign s) ps w closed ws = lex_sign s (line_text ps) w
  lex_symbol Stray ps w closed ws = absurd w

  lex_piece : (g : Bool) (s : Symbol) (t : List ℕ) → Lexes s t
      → said ((cond g [] (32 ∷ []) ++ symbol_text s) ++ t) ≡ s ∷ said t
  unfolding spelled_from
  lex_piece true s t lexes = lexes
  lex_piece false s t lexes = lexes

  pub lexed : (ps : List Piece) → AreWritable ps → said (line_text ps) ≡ map (λ p. p.symbol) ps
  unfolding spelled_from
  lexed [] w = refl
  lexed (p ∷ ps) w =
      lex_piece p.glued p.symbol (line_text ps) (lex_symbol p.symbol ps w.0 w.1 w.2)
      ∙ ap (λ ts. p.symbol ∷ ts) (lexed ps w.2)

  symbol_prints : (s : Symbol) → Writable s → list_all is_print (symbol_text s) ≡ true
  symbol_prints (Word x) w = word_prints x w.0
  symbol_prints (Later x) w = word_prints x w.0
  symbol_prints (Digits n) w = all_weaker is_digit is_print digit_print (decimal n) (digits_decimal own n (small n w))
  symbol_prints (Text x) w = all_both is_print x (34 ∷ []) (all_weaker is_text_byte is_print text_print x w) refl
  symbol_prints (Sign s) w = sign_prints s w
  symbol_prints Stray w = absurd w

  piece_prints : (g : Bool) (s : Symbol) → Writable s → list_all is_print (cond g [] (32 ∷ []) ++ symbol_text s) ≡ true
  piece_prints true s w = symbol_prints s w
  piece_prints false s w = symbol_prints s w

  pub prints : (ps : List Piece) → AreWritable ps → list_all is_print (line_text ps) ≡ true
  prints [] w = refl
  prints (p ∷ ps) w =
      all_both is_print (piece_text p) (line_text ps) (piece_prints p.glued p.symbol w.0) (prints ps w.2)
