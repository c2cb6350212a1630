use Rattle.std.proofs.Common.{rules, arith, ◌≤◌, ◌∙◌, w64}
use Rattle.std.specs.Prelude.{nat_abs}
use Rattle.std.specs.Int.{w128}
use Rattle.std.proofs.lemmas.Int.{to_z-of_z, fits_signed_from_abs, ints}
use Rattle.gta_text.specs.declared.numbers.TheConstants.{NUMBER_BOUND}
use Rattle.shape_gen.specs.Candidates.{mark}
use Rattle.gta_checked.specs.PlainRows.{plain_rows}
use Rattle.gta_meaning.specs.Heavy.{goal_measures}
use Rattle.fuse_answer.proofs.Known.{measure-known}
use Rattle.fuse_answer.proofs.Light.{value-light}
use Rattle.fuse_answer.proofs.letters.value_at.Goals as goal

small : (c : goal.After-value_of) → nat_abs c.value_of.result ≤ NUMBER_BOUND
small c =
    let checked = c.args.prepared.now.job.checked in
    let rows = plain_rows c.args.prepared.now.job.rows in
    let light = value-light checked rows (goal_measures checked.goal) c.args.prepared.now.light c.args.measure
    (mark c.args.row c.args.label) c.requires.weighed c.requires.row_in_range c.requires.label_in_range in
    rw c.value_of.ensures.value (omega (arith, ints, light))

pub overflow_cast-result : goal.overflow_cast-result
overflow_cast-result c =
    let back = to_z-of_z w128 c.value_of.result (search rules) in
    let within = small c in
    rw back (fits_signed_from_abs w64 c.value_of.result (omega (arith, within)))

pub value_of-requires-clause-measure_in_range : goal.value_of-requires-clause-measure_in_range
value_of-requires-clause-measure_in_range c =
    measure-known c.args.prepared.now.job.checked c.args.measure c.requires.within c.requires.weighed

pub returns-clause-value : goal.returns-clause-value
returns-clause-value c =
    let back = to_z-of_z w128 c.value_of.result (search rules) in
    let within = small c in
    let fits = fits_signed_from_abs w64 c.value_of.result (omega (arith, within)) in
    rw back (to_z-of_z w64 c.value_of.result (search rules)) ∙ c.value_of.ensures.value

pub returns-clause-bounded : goal.returns-clause-bounded
returns-clause-bounded c =
    let back = to_z-of_z w128 c.value_of.result (search rules) in
    let within = small c in
    let fits = fits_signed_from_abs w64 c.value_of.result (omega (arith, within)) in
    rw (back, to_z-of_z w64 c.value_of.result (search rules)) (omega (arith, ints, within))
