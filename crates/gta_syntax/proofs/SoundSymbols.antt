-- What is read of one symbol is derived.
use Rattle.std.proofs.Common.{◌≡◌, ℕ, Bool, true, false, List, [], ◌∷◌, refl, ap}
use Rattle.std.specs.Prelude.{Option, Some, None, cond}
use Rattle.std.specs.Str.{bytes_eq}
use Rattle.std.proofs.lemmas.Slice.Eq.{bytes_eq-Decides}
use Rattle.gta_text.specs.Names.{is_name_text}
use Rattle.gta_spec.specs.Symbols.{Symbol, Word, Later, Digits, Text, Sign, Stray}
use Rattle.gta_spec.specs.Grammar.{IsWord, IsLater, IsSign, IsDigits, IsText, IsName}
use Rattle.gta_syntax.specs.Rules.{word_at, later_at, sign_at, digits_at, text_at, name_at}
use Rattle.gta_syntax.proofs.Each.{Each, done, nothing}

same_bytes : (xs ys : List ℕ) → bytes_eq xs ys ≡ true → xs ≡ ys
same_bytes xs ys e = (bytes_eq-Decides xs ys).0 e

-- a test, and then a value or none
pub when : {A : Type 0} {P : A → Type 0} (x : A) (b : Bool) → (b ≡ true → P x) → Each (cond b (Some x) None) P
when x true p = done (p refl)
when x false p = nothing

pub word_takes : (w : List ℕ) (ts : List Symbol) → Each (word_at w ts) (λ rest. IsWord w ts rest)
unfolding word_at
word_takes w [] = nothing
word_takes w (Word x ∷ rest) = when rest (bytes_eq x w) (λ e. ap (λ y. Word y ∷ rest) (same_bytes x w e))
word_takes w (Later x ∷ rest) = nothing
word_takes w (Digits n ∷ rest) = nothing
word_takes w (Text x ∷ rest) = nothing
word_takes w (Sign s ∷ rest) = nothing
word_takes w (Stray ∷ rest) = nothing

-- a test, and then what is read
pub only_when : {A : Type 0} {P : A → Type 0} {read : Option A} (b : Bool) → (b ≡ true → Each read P)
    → Each (cond b read None) P
only_when true each = each refl
only_when false each = nothing

pub later_takes : (w : List ℕ) (ts : List Symbol) → Each (later_at w ts) (λ rest. IsLater w ts rest)
unfolding later_at
later_takes w [] = nothing
later_takes w (Word x ∷ rest) = nothing
later_takes w (Later x ∷ rest) = when rest (bytes_eq x w) (λ e. ap (λ y. Later y ∷ rest) (same_bytes x w e))
later_takes w (Digits n ∷ rest) = nothing
later_takes w (Text x ∷ rest) = nothing
later_takes w (Sign s ∷ rest) = nothing
later_takes w (Stray ∷ rest) = nothing

pub sign_takes : (s : List ℕ) (ts : List Symbol) → Each (sign_at s ts) (λ rest. IsSign s ts rest)
unfolding sign_at
sign_takes s [] = nothing
sign_takes s (Word x ∷ rest) = nothing
sign_takes s (Later x ∷ rest) = nothing
sign_takes s (Digits n ∷ rest) = nothing
sign_takes s (Text x ∷ rest) = nothing
sign_takes s (Sign x ∷ rest) = when rest (bytes_eq x s) (λ e. ap (λ y. Sign y ∷ rest) (same_bytes x s e))
sign_takes s (Stray ∷ rest) = nothing

pub digits_takes : (ts : List Symbol) → Each (digits_at ts) (λ x. IsDigits x.0 ts x.1)
unfolding digits_at
digits_takes [] = nothing
digits_takes (Word x ∷ rest) = nothing
digits_takes (Later x ∷ rest) = nothing
digits_takes (Digits n ∷ rest) = done refl
digits_takes (Text x ∷ rest) = nothing
digits_takes (Sign x ∷ rest) = nothing
digits_takes (Stray ∷ rest) = nothing

pub text_takes : (ts : List Symbol) → Each (text_at ts) (λ x. IsText x.0 ts x.1)
unfolding text_at
text_takes [] = nothing
text_takes (Word x ∷ rest) = nothing
text_takes (Later x ∷ rest) = nothing
text_takes (Digits n ∷ rest) = nothing
text_takes (Text x ∷ rest) = done refl
text_takes (Sign x ∷ rest) = nothing
text_takes (Stray ∷ rest) = nothing

pub name_takes : (ts : List Symbol) → Each (name_at ts) (λ x. IsName x.0 ts x.1)
unfolding name_at
name_takes [] = nothing
name_takes (Word x ∷ rest) = when (x, rest) (is_name_text x) (λ e. record { front = refl; free = e })
name_takes (Later x ∷ rest) = nothing
name_takes (Digits n ∷ rest) = nothing
name_takes (Text x ∷ rest) = nothing
name_takes (Sign x ∷ rest) = nothing
name_takes (Stray ∷ rest) = nothing
