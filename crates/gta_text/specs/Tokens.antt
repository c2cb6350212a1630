-- The tokens of a line. They are read from the left, each as long as possible.
use Rattle.std.specs.Prelude.{ℕ, zero, suc, ◌+◌, Bool, false, not, ◌&&◌, ◌||◌, List, [], ◌∷◌, drop, ◌==◌, nat_le}
use Rattle.std.specs.Prelude.{if◌then◌else◌}
use Rattle.std.specs.List.{prefix_len}
use Rattle.gta_text.specs.declared.token.TokenKind.{TokenKind}
use Rattle.gta_text.specs.declared.token.TokenKind.TheVariants.{Word, Digits, Text, Sign, Stray}
use Rattle.gta_text.specs.declared.token.Token.{Token}
use Rattle.gta_text.specs.Numbers.{is_digit}
use Rattle.gta_text.specs.Names.{is_letter, is_word_byte}

-- a space or a tab
abbrev pub is_blank : ℕ → Bool
is_blank b = b == 32 || b == 9

-- what may stand between quotes: 32 to 126, but no quote
abbrev pub is_text_byte : ℕ → Bool
is_text_byte b = nat_le 32 b && nat_le b 126 && not (b == 34)

-- `<` or `>`, which a `=` has to follow
abbrev pub may_begin_sign : ℕ → Bool
may_begin_sign b = b == 60 || b == 62

-- one of `=` `+` `-` `*` `;` `(` `)`
abbrev pub is_sign : ℕ → Bool
is_sign b = b == 61 || b == 43 || b == 45 || b == 42 || b == 59 || b == 40 || b == 41

-- the bytes begin with b
abbrev pub next_is : ℕ → List ℕ → Bool
next_is b [] = false
next_is b (x ∷ xs) = x == b

-- what a quote begins that the bytes follow: a text up to the next quote, or a stray byte
abbrev pub quoted_at : List ℕ → TokenKind × ℕ
quoted_at bs =
    if next_is 34 (drop (prefix_len is_text_byte bs) bs) then (Text, prefix_len is_text_byte bs + 1)
    else (Stray, 0)

-- the kind of the token whose first byte is b, and how many of the bytes after it belong to it
unfoldable pub token_at : ℕ → List ℕ → TokenKind × ℕ
token_at b bs =
    if is_letter b then (Word, prefix_len is_word_byte bs)
    else if is_digit b then (Digits, prefix_len is_digit bs)
    else if b == 34 then quoted_at bs
    else if may_begin_sign b && next_is 61 bs then (Sign, 1)
    else if is_sign b then (Sign, 0)
    else (Stray, 0)

-- the tokens of the bytes, the first of which stands at `place` in the input, and `skip` of which
-- belong to the token before; a `#` where a token could begin ends them
unfoldable pub tokens_from : ℕ → ℕ → List ℕ → List Token
tokens_from skip place [] = []
tokens_from (suc skip) place (b ∷ bs) = tokens_from skip (place + 1) bs
tokens_from zero place (b ∷ bs) =
    if is_blank b then tokens_from 0 (place + 1) bs
    else if b == 35 then []
    else record { kind = (token_at b bs).0; start = place; end = place + 1 + (token_at b bs).1 }
    ∷ tokens_from (token_at b bs).1 (place + 1) bs
