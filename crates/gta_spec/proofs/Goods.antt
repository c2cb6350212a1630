-- Lines of well spelled symbols, and what lists of names and the like say on them.
use Rattle.std.proofs.Common.{◌≡◌, ℕ, ◌≤◌, Bool, true, false, List, [], ◌∷◌, subst, arith}
use Rattle.std.proofs.lemmas.Bool.Decides.{nat_tests}
use Rattle.std.specs.Prelude.{nat_le, if◌then◌else◌}
use Rattle.std.specs.List.{list_all, list_any}
use Rattle.std.specs.Str.{bytes_eq}
use Rattle.gta_text.specs.declared.numbers.TheConstants.{NUMBER_BOUND}
use Rattle.gta_text.specs.Tokens.{is_text_byte}
use Rattle.gta_spec.specs.Versions.{is_later, second_words, third_words}
use Rattle.gta_spec.specs.Symbols.{Symbol, Word, Later, Digits, Text, Sign, Stray}
use Rattle.gta_spec.specs.Grammar.{IsDigits, IsText, IsName, Many, none, some, Listed, listed}
use Rattle.gta_spec.specs.WellFormed.{FitsName, EachFits, SomeFit}

-- texts are within quotes, numbers within the bound, and words that come later are reserved in this version
abbrev pub GoodSymbol : ℕ → Symbol → Type 0
GoodSymbol version (Word x) = is_later version x ≡ false
GoodSymbol version (Later x) = is_later version x ≡ true
GoodSymbol version (Digits n) = n ≤ NUMBER_BOUND
GoodSymbol version (Text x) = list_all is_text_byte x ≡ true
GoodSymbol version (Sign s) = Unit {0}
GoodSymbol version Stray = Unit {0}

abbrev pub AllGood : ℕ → List Symbol → Type 0
AllGood version [] = Unit {0}
AllGood version (t ∷ ts) = GoodSymbol version t × AllGood version ts

pub record Good (version : ℕ) (ts : List Symbol) : Type 0 where
  pub holds : AllGood version ts

at_least : (n version : ℕ) → nat_le n version ≡ true → n ≤ version
at_least n version e = grind (arith, nat_tests)

by_words : (version : ℕ) (second third : Bool)
    → (if second then nat_le 2 version else if third then nat_le 3 version else false) ≡ true → 2 ≤ version
by_words version true third e = at_least 2 version e
by_words version false true e = omega (arith, at_least 3 version e)
by_words version false false e = absurd cc

third_only : (version : ℕ) (second third : Bool) → second ≡ false → third ≡ true
    → (if second then nat_le 2 version else if third then nat_le 3 version else false) ≡ true → 3 ≤ version
third_only version true third other among e = absurd cc
third_only version false true other among e = at_least 3 version e
third_only version false false other among e = absurd cc

-- a word that comes later is reserved from version 2 on
pub from_second : (version : ℕ) (x : List ℕ) → is_later version x ≡ true → 2 ≤ version
unfolding is_later
from_second version x e =
    by_words version (list_any (bytes_eq x) second_words) (list_any (bytes_eq x) third_words) e

-- one that version 2 doesn't reserve is reserved from version 3 on
pub from_third : (version : ℕ) (x : List ℕ) → list_any (bytes_eq x) second_words ≡ false
    → list_any (bytes_eq x) third_words ≡ true → is_later version x ≡ true → 3 ≤ version
unfolding is_later
from_third version x other among e =
    third_only version (list_any (bytes_eq x) second_words) (list_any (bytes_eq x) third_words) other among e

-- an X fits, and what follows it is good
abbrev pub Fitting : {A : Type 0} → ℕ → (A → Type 0) → (A → List Symbol → List Symbol → Type 0) → Type 0
Fitting {A = A} version Fits Is = (x : A) (ts rest : List Symbol) → Is x ts rest → Good version ts
    → Fits x × Good version rest

module _ {version : ℕ} where
  pub first_good : {t : Symbol} {ts rest : List Symbol} → ts ≡ t ∷ rest → Good version ts → GoodSymbol version t
      × AllGood version rest
  first_good {t = t} {rest = rest} e good = let P : List Symbol → Type 0 = AllGood version in subst P e good.holds

  pub after : {t : Symbol} {ts rest : List Symbol} → ts ≡ t ∷ rest → Good version ts → Good version rest
  after e good = record { holds = (first_good e good).1 }

  pub digits_good : {n : ℕ} {ts rest : List Symbol} → IsDigits n ts rest → Good version ts → n ≤ NUMBER_BOUND
  digits_good e good = (first_good e good).0

  pub text_good : {x : List ℕ} {ts rest : List Symbol} → IsText x ts rest → Good version ts
      → list_all is_text_byte x ≡ true
  text_good e good = (first_good e good).0

  pub many_fits : {A : Type 0} {Fits : A → Type 0} {Is : A → List Symbol → List Symbol → Type 0}
      → Fitting version Fits Is
      → {xs : List A} {ts rest : List Symbol} → Many Is xs ts rest → Good version ts → EachFits Fits xs
      × Good version rest
  many_fits fits none good = (tt, good)
  many_fits fits (some {x = x} {ts = ts} {a = a} d ms) good =
      let first = fits x ts a d good in
      let others = many_fits fits ms first.1 in
      ((first.0, others.0), others.1)

  pub listed_fits : {A : Type 0} {Fits : A → Type 0} {First Next : A → List Symbol → List Symbol → Type 0}
      → Fitting version Fits First → Fitting version Fits Next
      → {xs : List A} {ts rest : List Symbol} → Listed First Next xs ts rest → Good version ts → SomeFit Fits xs
      × Good version rest
  listed_fits fits nexts (listed {x = x} {ts = ts} {a = a} d ms) good =
      let first = fits x ts a d good in
      let others = many_fits nexts ms first.1 in
      ((omega arith, (first.0, others.0)), others.1)

  pub named : {x : List ℕ} {ts rest : List Symbol} → IsName x ts rest → Good version ts → FitsName version x
  named n good = (n.free, (first_good n.front good).0)

  pub name_fits : {x : List ℕ} {ts rest : List Symbol} → IsName x ts rest → Good version ts
      → FitsName version x × Good version rest
  name_fits n good = (named n good, after n.front good)
