-- The text is the words and the element's name.
use Rattle.report_text.proofs.fault.square_line.Goals as goal

pub returns : goal.returns
returns c =
    rw (c.as_slice.ensures.value, c.in_ok-text.ensures, c.bytes.ensures) at c.table_line.ensures
