use Rattle.std.proofs.Common.{rules, ◌≡◌, ◌+◌, ◌-◌, sym, arith}
use Rattle.drill_texts.proofs.Rows.{row_pushed}
use Rattle.drill_texts.proofs.table.push_table.Goals as goal

pub rows-preserved : goal.rows-preserved
rows-preserved c =
    let same : c.rows.row + 1 - 1 ≡ c.rows.row = omega arith in
    record {
      some = omega arith;
      within = omega arith;
      so_far = rw same
          (row_pushed c.args.text.now.items c.args.seed c.rows.row
          c.rows.invariant.some c.rows.invariant.so_far c.in_ok-push_row.ensures);
    }

pub returns-in_ok-extend_from_slice : goal.returns-in_ok-extend_from_slice
returns-in_ok-extend_from_slice c =
    let last : c.rows.row - 1 ≡ c.args.rows = search rules in
    rw (sym last) c.rows.invariant.so_far

pub returns-in_ok-push_row : goal.returns-in_ok-push_row
returns-in_ok-push_row c =
    let last : c.rows.row ≡ c.args.rows = search rules in
    rw (sym last)
    (row_pushed c.args.text.now.items c.args.seed c.rows.row
    c.rows.invariant.some c.rows.invariant.so_far c.in_ok-push_row.ensures)
