-- Each line is that of its own refusal.
use Rattle.report_text.proofs.fault.fault_line.Goals as goal

pub returns-in-Unknown : goal.returns-in-Unknown
returns-in-Unknown c = rw c.in-Unknown.is c.named.ensures

pub returns-in-SecondPart : goal.returns-in-SecondPart
returns-in-SecondPart c = rw c.in-SecondPart.is c.named-in-SecondPart.ensures
