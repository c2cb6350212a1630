-- One symbol that is derived is read, and none of another kind is.
use Rattle.std.proofs.Common.{◌≡◌, ℕ, ◌<◌, true, false, List, [], length, refl, sym, ap, ◌∙◌, arith}
use Rattle.std.specs.Prelude.{Some, None}
use Rattle.std.specs.Str.{bytes_eq}
use Rattle.std.proofs.lemmas.Slice.Eq.{bytes_eq-Decides}
use Rattle.gta_text.specs.Names.{is_name_text}
use Rattle.gta_spec.specs.Symbols.{Symbol}
use Rattle.gta_spec.specs.Grammar.{IsWord, IsLater, IsSign, IsDigits, IsText, IsName}
use Rattle.gta_syntax.specs.Rules.{word_at, later_at, sign_at, digits_at, text_at, name_at, begins_name}

same : (xs : List ℕ) → bytes_eq xs xs ≡ true
same xs = (bytes_eq-Decides xs xs).1 refl

pub word_again : {w : List ℕ} {ts rest : List Symbol} → IsWord w ts rest → word_at w ts ≡ Some rest
unfolding word_at
word_again {w = w} e = rw (e, same w) refl

pub sign_again : {s : List ℕ} {ts rest : List Symbol} → IsSign s ts rest → sign_at s ts ≡ Some rest
unfolding sign_at
sign_again {s = s} e = rw (e, same s) refl

pub digits_again : {n : ℕ} {ts rest : List Symbol} → IsDigits n ts rest → digits_at ts ≡ Some (n, rest)
unfolding digits_at
digits_again e = rw e refl

pub text_again : {x : List ℕ} {ts rest : List Symbol} → IsText x ts rest → text_at ts ≡ Some (x, rest)
unfolding text_at
text_again e = rw e refl

pub name_again : {x : List ℕ} {ts rest : List Symbol} → IsName x ts rest → name_at ts ≡ Some (x, rest)
unfolding name_at
name_again n = rw (n.front, n.free) refl

pub later_again : {w : List ℕ} {ts rest : List Symbol} → IsLater w ts rest → later_at w ts ≡ Some rest
unfolding later_at
later_again {w = w} e = rw (e, same w) refl

pub no_word_at_later : (w : List ℕ) {v : List ℕ} {ts rest : List Symbol} → IsLater v ts rest → word_at w ts ≡ None
unfolding word_at
no_word_at_later w e = rw e refl

pub no_later_at_word : (w : List ℕ) {v : List ℕ} {ts rest : List Symbol} → IsWord v ts rest → later_at w ts ≡ None
unfolding later_at
no_later_at_word w e = rw e refl

pub no_later_at_sign : (w : List ℕ) {s : List ℕ} {ts rest : List Symbol} → IsSign s ts rest → later_at w ts ≡ None
unfolding later_at
no_later_at_sign w e = rw e refl

pub no_other_later : (w : List ℕ) {v : List ℕ} {ts rest : List Symbol} → IsLater v ts rest → bytes_eq v w ≡ false
    → later_at w ts ≡ None
unfolding later_at
no_other_later w e off = rw (e, off) refl

pub no_name_at_later : {v : List ℕ} {ts rest : List Symbol} → IsLater v ts rest → name_at ts ≡ None
unfolding name_at
no_name_at_later e = rw e refl

-- a reserved word
pub no_name_at_word : {w : List ℕ} {ts rest : List Symbol} → IsWord w ts rest → is_name_text w ≡ false
    → name_at ts ≡ None
unfolding name_at
no_name_at_word w taken = rw (w, taken) refl

pub no_other_word : (w : List ℕ) {v : List ℕ} {ts rest : List Symbol} → IsWord v ts rest → bytes_eq v w ≡ false
    → word_at w ts ≡ None
unfolding word_at
no_other_word w e off = rw (e, off) refl

pub no_other_sign : (s : List ℕ) {v : List ℕ} {ts rest : List Symbol} → IsSign v ts rest → bytes_eq v s ≡ false
    → sign_at s ts ≡ None
unfolding sign_at
no_other_sign s e off = rw (e, off) refl

pub no_word_at_sign : (w : List ℕ) {s : List ℕ} {ts rest : List Symbol} → IsSign s ts rest → word_at w ts ≡ None
unfolding word_at
no_word_at_sign w e = rw e refl

pub no_sign_at_word : (s : List ℕ) {w : List ℕ} {ts rest : List Symbol} → IsWord w ts rest → sign_at s ts ≡ None
unfolding sign_at
no_sign_at_word s e = rw e refl

pub no_sign_at_digits : (s : List ℕ) {n : ℕ} {ts rest : List Symbol} → IsDigits n ts rest → sign_at s ts ≡ None
unfolding sign_at
no_sign_at_digits s e = rw e refl

pub no_sign_at_name : (s : List ℕ) {x : List ℕ} {ts rest : List Symbol} → IsName x ts rest → sign_at s ts ≡ None
no_sign_at_name s n = no_sign_at_word s n.front

pub no_digits_at_name : {x : List ℕ} {ts rest : List Symbol} → IsName x ts rest → digits_at ts ≡ None
unfolding digits_at
no_digits_at_name n = rw n.front refl

differ : (x w : List ℕ) → is_name_text x ≡ true → is_name_text w ≡ false → bytes_eq x w ≡ false
differ x w free taken = elim (bytes_eq x w) as (λ b. bytes_eq x w ≡ b → b ≡ false)
    [ true ↦ (λ e. absurd (clash ((bytes_eq-Decides x w).0 e))) | false ↦ (λ e. refl) ] refl
  where
    clash : x ≡ w → ⊥
    clash e = let other : is_name_text w ≡ true = rw (sym e) free in let both : true ≡ false = sym other
        ∙ taken in absurd cc

-- a reserved word is no name
pub no_word_at_name : (w : List ℕ) {x : List ℕ} {ts rest : List Symbol} → IsName x ts rest → is_name_text w ≡ false
    → word_at w ts ≡ None
no_word_at_name w {x = x} n taken = no_other_word w n.front (differ x w n.free taken)

pub name_shorter : {x : List ℕ} {ts rest : List Symbol} → IsName x ts rest → length rest < length ts
name_shorter n = omega (arith, ap length n.front)

pub no_name_at_end : begins_name [] ≡ false
unfolding name_at
no_name_at_end = refl

pub no_sign_at_end : (s : List ℕ) → sign_at s [] ≡ None
unfolding sign_at
no_sign_at_end s = refl

pub no_word_at_end : (w : List ℕ) → word_at w [] ≡ None
unfolding word_at
no_word_at_end w = refl

pub no_later_at_end : (w : List ℕ) → later_at w [] ≡ None
unfolding later_at
no_later_at_end w = refl
