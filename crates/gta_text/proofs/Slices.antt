-- The tokens of a line with their bytes: what stands at their places in any source that holds the line.
use Rattle.std.proofs.Common.{◌≡◌, ℕ, zero, suc, ◌+◌, ◌-◌, ◌≤◌, ◌<◌, Bool, true, false, cond, ◌&&◌, List, [], ◌∷◌}
use Rattle.std.proofs.Common.{◌++◌, length, take, drop, map, refl, sym, ap, ◌∙◌, arith, append_assoc, length-append}
use Rattle.std.proofs.Common.{length-drop}
use Rattle.std.proofs.lemmas.List.{drop_at, take-append-le}
use Rattle.std.proofs.lemmas.List.Sums.{prefix_len-le-length}
use Rattle.std.specs.Prelude.{nat_eq, ◌==◌}
use Rattle.std.specs.List.{prefix_len}
use Rattle.gta_text.specs.declared.token.TokenKind.{TokenKind}
use Rattle.gta_text.specs.declared.token.Token.{Token}
use Rattle.gta_text.specs.Numbers.{is_digit}
use Rattle.gta_text.specs.Names.{is_letter, is_word_byte}
use Rattle.gta_text.specs.Tokens.{is_blank, is_text_byte, is_sign, may_begin_sign, next_is, quoted_at, token_at}
use Rattle.gta_text.specs.Tokens.{tokens_from}
use Rattle.gta_text.specs.Text.{token_text}

-- a choice of two meets what both meet, each where it is taken
pub pick : {A : Type 0} (P : A → Type 0) (t : Bool) {x y : A} → (t ≡ true → P x) → (t ≡ false → P y) → P (cond t x y)
pick P true here there = here refl
pick P false here there = there refl

pub both_right : (a b : Bool) → (a && b) ≡ true → b ≡ true
both_right true b e = e
both_right false b e = absurd cc

pub next_there : (b : ℕ) (bs : List ℕ) → next_is b bs ≡ true → 0 < length bs
next_there b [] e = absurd cc
next_there b (x ∷ xs) e = omega arith

abbrev Within : ℕ → TokenKind × ℕ → Type 0
Within n token = token.1 ≤ n

quoted_within : (bs : List ℕ) → Within (length bs) (quoted_at bs)
quoted_within bs =
    pick (Within (length bs)) (next_is 34 (drop (prefix_len is_text_byte bs) bs))
    (λ e. omega (
      arith,
      next_there 34 (drop (prefix_len is_text_byte bs) bs) e,
      length-drop
          (prefix_len is_text_byte bs) bs,
    ))
    (λ e. omega arith)

pub token_within : (b : ℕ) (bs : List ℕ) → (token_at b bs).1 ≤ length bs
unfolding token_at
token_within b bs =
    pick (Within (length bs)) (is_letter b) (λ e. prefix_len-le-length is_word_byte bs) (λ e.
    pick (Within (length bs)) (is_digit b) (λ e. prefix_len-le-length is_digit bs) (λ e.
    pick (Within (length bs)) (b == 34) (λ e. quoted_within bs) (λ e.
    pick (Within (length bs)) (may_begin_sign b && next_is 61 bs)
    (λ e. next_there 61 bs (both_right (may_begin_sign b) (next_is 61 bs) e)) (λ e.
    pick (Within (length bs)) (is_sign b) (λ e. omega arith) (λ e. omega arith)))))

-- the tokens with their bytes; `skip` bytes belong to the token before
unfoldable pub spelled_from : ℕ → List ℕ → List (TokenKind × List ℕ)
spelled_from skip [] = []
spelled_from (suc skip) (b ∷ bs) = spelled_from skip bs
spelled_from zero (b ∷ bs) =
    cond (is_blank b) (spelled_from 0 bs)
    (cond (nat_eq b 35) [] (((token_at b bs).0, b ∷ take (token_at b bs).1 bs) ∷ spelled_from (token_at b bs).1 bs))

abbrev pub with_text : List ℕ → Token → TokenKind × List ℕ
with_text source token = (token.kind, token_text source token)

slice_at : (front bs back : List ℕ) (b k : ℕ) → k ≤ length bs
    → take (length front + 1 + k - length front) (drop (length front) (front ++ (b ∷ (bs ++ back)))) ≡ b ∷ take k bs
slice_at front bs back b k le =
    let len : length front + 1 + k - length front ≡ suc k = omega arith in
    rw (len, drop_at front (b ∷ (bs ++ back)) (length front) refl)
    (ap (λ (xs : List ℕ). b ∷ xs) (take-append-le k bs back le))

pub slices : (line front back source : List ℕ) (skip place : ℕ) → source ≡ front ++ (line ++ back)
    → place ≡ length front
    → map (with_text source) (tokens_from skip place line) ≡ spelled_from skip line
unfolding tokens_from spelled_from
slices [] front back source skip place is at = refl
slices (b ∷ bs) front back source (suc skip) place is at =
    slices bs (front ++ b ∷ []) back source skip (place + 1) (is ∙ sym (append_assoc front (b ∷ []) (bs ++ back)))
    (omega (arith, length-append front (b ∷ [])))
slices (b ∷ bs) front back source zero place is at =
    let next = front ++ b ∷ [] in
    let next_is_source : source ≡ next ++ (bs ++ back) = is ∙ sym (append_assoc front (b ∷ []) (bs ++ back)) in
    let next_place : place + 1 ≡ length next = omega (arith, length-append front (b ∷ [])) in
    let text : take (place + 1 + (token_at b bs).1 - place) (drop place source) ≡ b ∷ take (token_at b bs).1 bs =
    rw (is, at) (slice_at front bs back b (token_at b bs).1 (token_within b bs)) in
    elim (is_blank b) as (λ t. map (with_text source)
    (cond t (tokens_from 0 (place + 1) bs)
    (cond (nat_eq b 35) []
    (record { kind = (token_at b bs).0; start = place; end = place + 1 + (token_at b bs).1 } ∷ tokens_from
    (token_at b bs).1 (place + 1) bs)))
    ≡ cond t (spelled_from 0 bs)
    (cond (nat_eq b 35) []
    (((token_at b bs).0, b ∷ take (token_at b bs).1 bs) ∷ spelled_from (token_at b bs).1 bs))) [
      | true ↦ slices bs next back source 0 (place + 1) next_is_source next_place
      | false ↦ elim (nat_eq b 35) as
          (λ t. map (with_text source)
          (cond t [] (record { kind = (token_at b bs).0; start = place; end = place + 1 + (token_at b bs).1 } ∷
          tokens_from (token_at b bs).1 (place + 1) bs))
          ≡ cond t [] (((token_at b bs).0, b ∷ take (token_at b bs).1 bs) ∷ spelled_from (token_at b bs).1 bs)) [
            | true ↦ refl
            | false ↦ rw (text, slices bs next back source (token_at b bs).1 (place + 1) next_is_source next_place) refl
          ]
    ]
