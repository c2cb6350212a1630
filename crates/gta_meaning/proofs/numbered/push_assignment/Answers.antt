use Rattle.std.proofs.Common.{arith}
use Rattle.gta_meaning.proofs.ByNumber.{label-of-at, assignment-at, further}
use Rattle.gta_meaning.proofs.numbered.push_assignment.Goals as goal

pub nonzero_div-behind : goal.nonzero_div-behind
nonzero_div-behind c =
    let here = label-of-at c.args.rows c.loop-row.row c.loop-row-test.true c.args.labels c.loop-row.behind
    c.loop-row.number c.loop-row.invariant.behind c.loop-row.invariant.in_range in
    omega (arith, here.some_labels, c.from-behind.ensures)

pub nonzero_div-label : goal.nonzero_div-label
nonzero_div-label c =
    let here = label-of-at c.args.rows c.loop-row.row c.loop-row-test.true c.args.labels c.loop-row.behind
    c.loop-row.number c.loop-row.invariant.behind c.loop-row.invariant.in_range in
    rw c.from-behind.ensures here.some

pub overflow_cast-label : goal.overflow_cast-label
overflow_cast-label c =
    let here = label-of-at c.args.rows c.loop-row.row c.loop-row-test.true c.args.labels c.loop-row.behind
    c.loop-row.number c.loop-row.invariant.behind c.loop-row.invariant.in_range in
    rw c.from-behind.ensures (omega (arith, here.label, c.ranges.labels.fits))

pub nonzero_rem-number : goal.nonzero_rem-number
nonzero_rem-number c =
    let here = label-of-at c.args.rows c.loop-row.row c.loop-row-test.true c.args.labels c.loop-row.behind
    c.loop-row.number c.loop-row.invariant.behind c.loop-row.invariant.in_range in
    rw c.from-behind.ensures here.some

pub loop-row-preserved : goal.loop-row-preserved
loop-row-preserved c =
    let here = label-of-at c.args.rows c.loop-row.row c.loop-row-test.true c.args.labels c.loop-row.behind
    c.loop-row.number c.loop-row.invariant.behind c.loop-row.invariant.in_range in
    let at = assignment-at c.args.rows c.loop-row.row c.loop-row-test.true c.args.labels c.loop-row.behind
    c.loop-row.number here in
    let pushed = rw c.from-behind.ensures at c.in_ok-push.ensures.items in
    rw (c.from-behind.ensures, pushed) record {
      behind = here.each;
      in_range = here.rest;
      so_far = further _ _ _ _ _ c.loop-row.invariant.so_far at;
    }
