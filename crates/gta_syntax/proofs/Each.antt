-- What holds of a value that was read, if one was.
use Rattle.std.proofs.Common.{◌≡◌, ℕ, zero, suc, Bool, true, false, cond, List, [], ◌∷◌, length, refl, subst, arith}
use Rattle.std.specs.Prelude.{Option, Some, None}
use Rattle.std.proofs.lemmas.Option.{same_Some}
use Rattle.gta_spec.specs.Symbols.{Symbol}
use Rattle.gta_spec.specs.Grammar.{Many, none, some, Listed, listed}
use Rattle.gta_syntax.specs.Rules.{◌>>=◌, choose, many, list_at}

-- P holds of the value, if there is one
pub record Each {A : Type 0} (read : Option A) (P : A → Type 0) : Type 0 where
  pub holds : (a : A) → read ≡ Some a → P a

pub done : {A : Type 0} {P : A → Type 0} {x : A} → P x → Each (Some x) P
done {P = P} {x = x} p = record { holds = λ a e. subst P (same_Some x a e) p }

pub nothing : {A : Type 0} {P : A → Type 0} → Each {A = A} None P
nothing = record { holds = λ a e. absurd (grind arith) }

pub and_then : {A B : Type 0} {Q : A → Type 0} {P : B → Type 0} {r : Option A} {f : A → Option B}
    → Each r Q → ((a : A) → Q a → Each (f a) P) → Each (r >>= f) P
and_then {r = None} each next = nothing
and_then {r = Some x} each next = next x (each.holds x refl)

pub either : {A B : Type 0} {Q : A → Type 0} {P : B → Type 0} {r : Option A} {f : A → Option B} {other : Option B}
    → Each r Q → ((a : A) → Q a → Each (f a) P) → Each other P → Each (choose r f other) P
either {r = None} each next else = else
either {r = Some x} each next else = next x (each.holds x refl)

-- the last reading of a rule
pub then_is : {A : Type 0} {Q P : A → Type 0} {r : Option A} → Each r Q → ((a : A) → Q a → P a) → Each r P
then_is each next = record { holds = λ a e. next a (each.holds a e) }

pub many_takes : {A : Type 0} {Is : A → List Symbol → List Symbol → Type 0}
    {read : List Symbol → Option (A × List Symbol)}
    → (begins : List Symbol → Bool) → ((ts : List Symbol) → Each (read ts) (λ x. Is x.0 ts x.1))
    → (n : ℕ) (ts : List Symbol) → Each (many begins read n ts) (λ xs. Many Is xs.0 ts xs.1)
unfolding many
many_takes begins takes zero ts = done none
many_takes {A = A} {Is = Is} {read = read} begins takes (suc n) ts =
    elim (begins ts) as (λ t. Each {A = List A × List Symbol}
    (cond t (read ts >>= λ x. many begins read n x.1 >>= λ xs. Some (x.0 ∷ xs.0, xs.1)) (Some ([], ts)))
    (λ xs. Many Is xs.0 ts xs.1)) [
      | true ↦ and_then (takes ts) (λ x d. and_then (many_takes begins takes n x.1) (λ xs ds. done (some d ds)))
      | false ↦ done none
    ]

pub list_takes : {A : Type 0} {First Next : A → List Symbol → List Symbol → Type 0}
    {first next : List Symbol → Option (A × List Symbol)}
    → (begins : List Symbol → Bool) → ((ts : List Symbol) → Each (first ts) (λ x. First x.0 ts x.1))
    → ((ts : List Symbol) → Each (next ts) (λ x. Next x.0 ts x.1))
    → (ts : List Symbol) → Each (list_at first begins next ts) (λ xs. Listed First Next xs.0 ts xs.1)
unfolding list_at
list_takes begins takes nexts ts = and_then (takes ts)
    (λ x d. and_then (many_takes begins nexts (length x.1) x.1) (λ xs ds. done (listed d ds)))
