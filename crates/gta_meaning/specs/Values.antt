-- The value of a measure at a mark, and its total over a candidate, as exact whole numbers.
use Rattle.std.specs.Prelude.{ℕ, ◌+◌, ◌*◌, ℤ, pos, ◌+ℤ◌, ◌*ℤ◌, Bool, ◌==◌, List, [], ◌∷◌, map}
use Rattle.std.specs.Prelude.{slice_index_or, Option, Some, None, int_le}
use Rattle.std.specs.Ordering.{int_eq}
use Rattle.std.specs.List.{find, list_all}
use Rattle.shape_gen.specs.declared.mark.Mark.{Mark}
use Rattle.gta_spec.specs.declared.parts.Cmp.{Cmp}
use Rattle.gta_spec.specs.declared.parts.Cmp.TheVariants.{AtMost, AtLeast, Equal}
use Rattle.gta_checked.specs.PlainRows.{PlainRows}
use Rattle.gta_checked.specs.declared.resolved.Term.{Term}
use Rattle.gta_checked.specs.declared.resolved.Atom.{Atom}
use Rattle.gta_checked.specs.declared.resolved.Atom.TheVariants.{Label, Column}
use Rattle.gta_checked.specs.Plain.{PlainCase, PlainChecked}

-- the cell of a column in a row, both counted from 0
abbrev pub cell : PlainRows → ℕ → ℕ → ℤ
cell rows row column = slice_index_or rows.cells (row * rows.columns + column) (pos 0)

-- the first number is at most, at least or equal to the second
abbrev pub compares : Cmp → ℤ → ℤ → Bool
compares AtMost a b = int_le a b
compares AtLeast a b = int_le b a
compares Equal a b = int_eq a b

-- the label is the one that the atom names, or the cell compares as it says
abbrev pub atom_holds : PlainRows → ℕ → ℕ → Atom → Bool
atom_holds rows row label (Label wanted) = label == wanted
atom_holds rows row label (Column column cmp number) = compares cmp (cell rows row column) number

-- every atom of a condition holds
abbrev pub holds : PlainRows → ℕ → ℕ → List Atom → Bool
holds rows row label cond = list_all (atom_holds rows row label) cond

-- a number, or a factor times the cell of its column
abbrev pub product_with : PlainRows → ℕ → ℤ → Option ℕ → ℤ
product_with rows row factor None = factor
product_with rows row factor (Some column) = factor *ℤ cell rows row column

abbrev pub term_value : PlainRows → ℕ → Term → ℤ
term_value rows row term = product_with rows row term.factor term.column

abbrev pub sum_of : List ℤ → ℤ
sum_of [] = pos 0
sum_of (x ∷ xs) = x +ℤ sum_of xs

-- the sum of the terms of a linear form
abbrev pub form_value : PlainRows → ℕ → List Term → ℤ
form_value rows row form = sum_of (map (term_value rows row) form)

-- the linear form of a case, and 0 where there is none
abbrev pub case_value : PlainRows → ℕ → Option PlainCase → ℤ
case_value rows row None = pos 0
case_value rows row (Some case) = form_value rows row case.form

-- the linear form of the first case whose condition holds, and 0 where none does
abbrev pub measure_value : PlainRows → ℕ → ℕ → List PlainCase → ℤ
measure_value rows row label cases =
    case_value rows row (find (λ case. holds rows row label case.cond) cases)

-- the value of a measure at a row with a label
abbrev pub value : PlainChecked → PlainRows → ℕ → ℕ → ℕ → ℤ
value checked rows measure row label =
    measure_value rows row label (slice_index_or checked.measures measure [])

-- the exact sum of the values of a candidate's marks
abbrev pub total : PlainChecked → PlainRows → ℕ → List Mark → ℤ
total checked rows measure marks =
    sum_of (map (λ mark. value checked rows measure mark.row mark.label) marks)
