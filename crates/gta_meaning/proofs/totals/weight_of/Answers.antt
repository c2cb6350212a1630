use Rattle.std.proofs.Common.{◌≡◌, List, map, get_or, sym, subst, arith}
use Rattle.std.proofs.lemmas.Int.{ints}
use Rattle.std.specs.List.Sorted.{IsStrictlyIncreasing}
use Rattle.shape_gen.specs.declared.mark.Mark.{Mark}
use Rattle.shape_gen.specs.Candidates.{mark}
use Rattle.gta_checked.specs.PlainRows.{plain_rows}
use Rattle.gta_meaning.specs.Values.{value}
use Rattle.gta_meaning.proofs.Ascending.{place-le-row}
use Rattle.gta_meaning.proofs.Sums.{total-more}
use Rattle.gta_meaning.proofs.totals.weight_of.Goals as goal

pub overflow_add-sum : goal.overflow_add-sum
overflow_add-sum c =
    let ascends = subst (λ (marks : List Mark). IsStrictlyIncreasing (map (λ mark. mark.row) marks))
    (sym c.deref-row-items.ensures.value) c.requires.in_range.ascending in
    let marks = c.deref-row-items.result.now in
    let place = place-le-row marks c.loop-row.row-index (mark 0 0) ascends c.loop-row-test.true in
    omega (arith, ints, place)

pub loop-row-preserved : goal.loop-row-preserved
loop-row-preserved c =
    let marks = c.deref-row-items.result.now in
    let ascends = subst (λ (marks : List Mark). IsStrictlyIncreasing (map (λ mark. mark.row) marks))
    (sym c.deref-row-items.ensures.value) c.requires.in_range.ascending in
    let place = place-le-row marks c.loop-row.row-index (mark 0 0) ascends c.loop-row-test.true in
    let here = get_or marks c.loop-row.row-index (mark 0 0) in
    let checked = c.args.checked.now in let rows = (plain_rows c.args.rows.now) in
    let term : c.value_of-sum.result ≡ value checked rows c.args.measure here.row here.label = cc in
    let more = total-more checked rows c.args.measure marks c.loop-row.row-index (mark 0 0) _ _
    c.loop-row-test.true c.loop-row.invariant.so_far term in
    record { so_far = omega (arith, ints, place, more); bounded = omega (arith, ints, place) }
