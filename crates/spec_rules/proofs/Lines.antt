-- What one line repeats, and what came before it.
use Rattle.std.proofs.Common.{◌≡◌, Bool, true, false, List, [], ◌∷◌, ◌++◌, refl, cond}
use Rattle.std.specs.Prelude.{◌||◌, Some, None}
use Rattle.std.specs.List.{list_any}
use Rattle.gta_spec.specs.Parts.{PartTree}
use Rattle.spec_rules.specs.declared.fault.SinglePart.{SinglePart}
use Rattle.spec_rules.specs.declared.fault.SinglePart.TheVariants.{Columns, Labels, Generate, Aggregate, Keep}
use Rattle.spec_rules.specs.SpecRules.{is_single, single_of, repeated}

pub any-push : {A : Type 0} (test : A → Bool) (xs : List A) (x : A)
    → list_any test (xs ++ x ∷ []) ≡ (list_any test xs || test x)
any-push test [] x = elim (test x) as (λ b. (b || false) ≡ (false || b)) [ true ↦ refl | false ↦ refl ]
any-push test (y ∷ ys) x =
    elim (test y) as (λ b. (b || list_any test (ys ++ x ∷ [])) ≡ ((b || list_any test ys) || test x)) [
      | true ↦ refl
      | false ↦ any-push test ys x
    ]

-- a line that is one of the parts repeats it where it came before
pub repeated_part : (before : List PartTree) (line : PartTree) (part : SinglePart) → single_of line.kind ≡ Some part
    → repeated before line ≡ cond (list_any (is_single part) before) (Some part) None
repeated_part before line Columns is = rw is refl
repeated_part before line Labels is = rw is refl
repeated_part before line Generate is = rw is refl
repeated_part before line Aggregate is = rw is refl
repeated_part before line Keep is = rw is refl

pub repeated_none : (before : List PartTree) (line : PartTree) → single_of line.kind ≡ None
    → repeated before line ≡ None
repeated_none before line is = rw is refl
