-- The candidates that pass: those of which every test holds, or the tests and the expression that say what is kept.
use Rattle.std.specs.Prelude.{ℤ, pos, Bool, true, false, ◌&&◌, ◌||◌, ◌==◌, List, ◌∷◌, length, map, slice_index_or}
use Rattle.std.specs.Prelude.{ℕ, Option, Some, None}
use Rattle.std.specs.Int.{int_rem_euclid}
use Rattle.std.specs.Ordering.{int_eq}
use Rattle.std.specs.List.{list_all, list_any}
use Rattle.shape_gen.specs.declared.mark.Mark.{Mark}
use Rattle.gta_spec.specs.declared.parts.Check.{Check}
use Rattle.gta_spec.specs.declared.parts.Check.TheVariants.{Compare, Mod}
use Rattle.gta_spec.specs.Keep.{KeepTree, keep_holds}
use Rattle.gta_checked.specs.PlainRows.{PlainRows}
use Rattle.gta_checked.specs.Plain.{PlainTest, Sum, Length, Fold, Run, PlainChecked}
use Rattle.gta_checked.specs.Tables.{table_at, automaton_at}
use Rattle.gta_meaning.specs.Folds.{folded}
use Rattle.gta_meaning.specs.Runs.{state_reached}
use Rattle.gta_meaning.specs.Values.{compares, total}

-- a number compares with the bound as written, or has the residue as its remainder, which is the
-- least nonnegative one
abbrev pub meets : Check → ℤ → Bool
meets (Compare cmp number) total = compares cmp total number
meets (Mod modulus residue) total = int_eq (int_rem_euclid total (pos modulus)) (pos residue)

-- the total of the measure meets the check, or the number of marks does, or the product of the fold is among the
-- accepted elements, or the state that the run reaches is among the accepted states
abbrev pub passes_test : PlainChecked → PlainRows → List Mark → PlainTest → Bool
passes_test checked rows marks (Sum measure check) = meets check (total checked rows measure marks)
passes_test checked rows marks (Length check) = meets check (pos (length marks))
passes_test checked rows marks (Fold table picks accept) =
    list_any (λ element. element == folded rows (table_at checked.tables table).products picks marks) accept
passes_test checked rows marks (Run automaton picks accept) =
    list_any (λ state. state == state_reached rows (automaton_at checked.automata automaton) picks marks) accept

-- the tests without a name hold, by what each test comes to
abbrev pub unnamed_hold : List Bool → List Bool → Bool
unnamed_hold (named ∷ others) (holds ∷ later) = (named || holds) && unnamed_hold others later
unnamed_hold _ _ = true

-- whether a candidate passes, by what each test comes to: each holds; or where an expression says what is kept, each
-- without a name holds, and the expression does
abbrev pub verdict : Option (KeepTree ℕ) → List Bool → List Bool → Bool
verdict None named outcomes = list_all (λ holds. holds) outcomes
verdict (Some keep) named outcomes =
    unnamed_hold named outcomes && keep_holds (λ test. slice_index_or outcomes test false) keep

-- what each test comes to, in the order of the tests
abbrev pub outcomes : PlainChecked → PlainRows → List Mark → List Bool
outcomes checked rows marks = map (passes_test checked rows marks) checked.tests

abbrev pub passes : PlainChecked → PlainRows → List Mark → Bool
passes checked rows marks = verdict checked.keep checked.named (outcomes checked rows marks)
