-- The text is the words, the element's name and the side.
use Rattle.report_text.proofs.fault.unit_line.Goals as goal

pub returns : goal.returns
returns c =
    rw (c.as_slice.ensures.value, c.in_ok-text.ensures, c.bytes.ensures, c.side_text.ensures)
    at c.table_line.ensures
