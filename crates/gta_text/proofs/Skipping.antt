-- Going over the bytes of a line: those of a token are passed over.
use Rattle.std.proofs.Common.{◌≡◌, ℕ, zero, suc, ◌+◌, List, [], ◌∷◌, ◌++◌, drop, refl, sym, ◌∙◌, ap, arith, add-zero}
use Rattle.std.proofs.Common.{append_assoc}
use Rattle.std.specs.Prelude.{false, nat_eq}
use Rattle.gta_text.specs.declared.token.Token.{Token}
use Rattle.gta_text.specs.Tokens.{is_blank, token_at, tokens_from}

pub tokens_skip : (k place : ℕ) (bs : List ℕ) → tokens_from k place bs ≡ tokens_from 0 (place + k) (drop k bs)
unfolding tokens_from
tokens_skip zero place bs = ap (λ n. tokens_from 0 n bs) (sym (add-zero place))
tokens_skip (suc k) place [] = refl
tokens_skip (suc k) place (b ∷ bs) =
    let e : place + 1 + k ≡ place + suc k = omega arith in
    tokens_skip k (place + 1) bs ∙ ap (λ n. tokens_from 0 n (drop k bs)) e

-- a token's turn: what was read before it, the token, and what is still read
pub at_token : (before whole : List Token) (at b : ℕ) (bs : List ℕ) → is_blank b ≡ false → nat_eq b 35 ≡ false
    → before ++ tokens_from 0 at (b ∷ bs) ≡ whole
    → (before ++ record { kind = (token_at b bs).0; start = at; end = at + 1 + (token_at b bs).1 } ∷ [])
    ++ tokens_from 0 (at + 1 + (token_at b bs).1) (drop (token_at b bs).1 bs) ≡ whole
unfolding tokens_from
at_token before whole at b bs not_blank no_comment so_far =
    rw (append_assoc, ← tokens_skip (token_at b bs).1 (at + 1) bs) (rw (not_blank, no_comment) at so_far)
