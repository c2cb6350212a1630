-- What is added up over all marks of a candidate.
use Rattle.std.proofs.Common.{◌≡◌, ℤ, pos, ◌+ℤ◌, List, [], ◌∷◌, map, length, refl, ap, ◌∙◌, arith}
use Rattle.std.proofs.lemmas.Int.{ints}
use Rattle.shape_gen.specs.declared.mark.Mark.{Mark}
use Rattle.gta_checked.specs.PlainRows.{PlainRows}
use Rattle.gta_checked.specs.Plain.{PlainChecked}
use Rattle.gta_meaning.specs.Values.{sum_of}
use Rattle.test_homs.specs.declared.added.Added.{Added}
use Rattle.test_homs.specs.declared.added.Added.TheVariants.{One}
use Rattle.test_homs.specs.Added.{added_at}

abbrev pub added_total : PlainChecked → PlainRows → Added → List Mark → ℤ
added_total checked rows added marks = sum_of (map (λ mark. added_at checked rows added mark.row mark.label) marks)

-- as many ones as marks
pub added_total-one : (checked : PlainChecked) (rows : PlainRows) (marks : List Mark)
    → added_total checked rows One marks ≡ pos (length marks)
added_total-one checked rows [] = refl
added_total-one checked rows (m ∷ ms) =
    ap (λ total. pos 1 +ℤ total) (added_total-one checked rows ms) ∙ omega (arith, ints)
