-- Lists of items: what is derived is read, where what follows an item does not belong to it.
use Rattle.std.proofs.Common.{◌≡◌, ℕ, zero, suc, ◌≤◌, ◌<◌, Bool, true, false, List, length, refl, arith}
use Rattle.std.specs.Prelude.{Option, Some}
use Rattle.gta_spec.specs.Symbols.{Symbol}
use Rattle.gta_spec.specs.Grammar.{Many, none, some, Listed, listed}
use Rattle.gta_syntax.specs.Rules.{many, list_at}

-- items that are read one after the other: `Ends` says what may follow one
pub record IsReadable {A : Type 0} (Is : A → List Symbol → List Symbol → Type 0)
    (read : List Symbol → Option (A × List Symbol)) (begins : List Symbol → Bool) (Ends : List Symbol → Type 0) :
    Type 0 where
  pub again : (x : A) (ts a : List Symbol) → Is x ts a → Ends a → read ts ≡ Some (x, a)
  pub begun : (x : A) (ts a : List Symbol) → Is x ts a → begins ts ≡ true
  pub goes_on : (x : A) (ts a : List Symbol) → Is x ts a → Ends ts
  pub shorter : (x : A) (ts a : List Symbol) → Is x ts a → length a < length ts

module _ {A : Type 0} {Is : A → List Symbol → List Symbol → Type 0} {read : List Symbol → Option (A × List Symbol)}
    {begins : List Symbol → Bool} {Ends : List Symbol → Type 0}
    (items : IsReadable Is read begins Ends) where
  pub ends_first : {xs : List A} {ts rest : List Symbol} → Many Is xs ts rest → Ends rest → Ends ts
  ends_first none last = last
  ends_first (some {x = x} {ts = ts} {a = a} d ms) last = items.goes_on x ts a d

  pub many_within : {xs : List A} {ts rest : List Symbol} → Many Is xs ts rest → length rest ≤ length ts
  many_within none = omega arith
  many_within (some {x = x} {ts = ts} {a = a} d ms) = omega (arith, items.shorter x ts a d, many_within ms)

  pub many_again : (n : ℕ) {xs : List A} {ts rest : List Symbol} → Many Is xs ts rest → begins rest ≡ false
      → Ends rest → length ts ≤ n
      → many begins read n ts ≡ Some (xs, rest)
  unfolding many
  many_again zero none off last le = refl
  many_again (suc n) none off last le = rw off refl
  many_again zero (some {x = x} {ts = ts} {a = a} d ms) off last le = absurd (omega (arith, items.shorter x ts a d))
  many_again (suc n) (some {x = x} {ts = ts} {a = a} d ms) off last le =
      rw (
        items.begun x ts a d,
        items.again x ts a d (ends_first ms last),
        many_again n ms off last
            (omega (arith, items.shorter x ts a d)),
      ) refl

  pub list_again : {First : A → List Symbol → List Symbol → Type 0} {first : List Symbol → Option (A × List Symbol)}
      → ((x : A) (ts a : List Symbol) → First x ts a → Ends a → first ts ≡ Some (x, a))
      → {xs : List A} {ts rest : List Symbol} → Listed First Is xs ts rest → begins rest ≡ false → Ends rest
      → list_at first begins read ts ≡ Some (xs, rest)
  unfolding list_at
  list_again again (listed {x = x} {ts = ts} {a = a} d ms) off last =
      rw (again x ts a d (ends_first ms last), many_again (length a) ms off last (omega arith)) refl

  pub list_within : {First : A → List Symbol → List Symbol → Type 0}
      → ((x : A) (ts a : List Symbol) → First x ts a → length a ≤ length ts)
      → {xs : List A} {ts rest : List Symbol} → Listed First Is xs ts rest → length rest ≤ length ts
  list_within within (listed {x = x} {ts = ts} {a = a} d ms) = omega (arith, within x ts a d, many_within ms)
