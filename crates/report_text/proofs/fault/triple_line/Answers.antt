-- The text is the words and the three names.
use Rattle.report_text.proofs.fault.triple_line.Goals as goal

pub returns : goal.returns
returns c =
    let said = rw (c.as_slice-2.ensures.value, c.in_ok-text.ensures) at c.table_line.ensures in
    rw (c.as_slice.ensures.value, c.in_ok-triple.ensures) at said
