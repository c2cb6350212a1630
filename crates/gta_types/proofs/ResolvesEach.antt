-- A specification without a fault has the resolved specification that resolved_of gives.
use Rattle.std.proofs.Common.{◌≡◌, List, [], ◌∷◌, length, None, refl, arith}
use Rattle.shape_gen.specs.declared.shape.Shape.TheVariants.{Sublists}
use Rattle.gta_checked.specs.declared.resolved.Goal.TheVariants.{Count}
use Rattle.gta_checked.specs.Plain.{PlainChecked}
use Rattle.gta_spec.specs.Parts.{SpecTree}
use Rattle.gta_spec.specs.WellFormed.{IsWellFormed}
use Rattle.gta_types.specs.Faults.{check_fault}
use Rattle.gta_types.specs.Resolved.{IsResolved}
use Rattle.gta_types.specs.ResolvedOf.{first_or, resolved_of, resolved-is}
use Rattle.gta_types.proofs.Rules.{option_or_none, mapped_none}
use Rattle.gta_types.proofs.Whole.{is_sound, one_shape_there, one_goal_there}

first_alone : {A : Type 0} (other : A) (xs : List A) → length xs ≡ 1 → first_or other xs ∷ [] ≡ xs
first_alone other [] one = absurd (omega (arith, one))
first_alone other (x ∷ []) one = refl
first_alone other (x ∷ y ∷ xs) one = absurd (omega (arith, one))

pub resolves_each : (spec : SpecTree) → IsWellFormed spec → check_fault spec ≡ None → IsResolved spec (resolved_of spec)
unfolding check_fault resolved_of
resolves_each spec well no_fault =
    let names = option_or_none _ _ no_fault in
    let later = option_or_none _ _ names.1 in
    let sound = is_sound spec well names.0 (mapped_none _ _ later.0) in
    record {
      version = refl;
      columns = refl;
      labels = refl;
      measures = refl;
      tables = refl;
      automata = refl;
      tests = refl;
      named = refl;
      keep = refl;
      shape = first_alone Sublists _ (one_shape_there spec.parts sound);
      goal = first_alone Count _ (one_goal_there spec.parts sound);
    }

pub resolves_once : (spec : SpecTree) (checked : PlainChecked) → IsResolved spec checked → checked ≡ resolved_of spec
resolves_once spec checked is = resolved-is is
