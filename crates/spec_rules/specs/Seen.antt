-- Which of the parts that stand at most once came so far.
use Rattle.std.specs.Prelude.{Bool}
use Rattle.spec_rules.specs.declared.fault.SinglePart.{SinglePart}
use Rattle.spec_rules.specs.declared.fault.SinglePart.TheVariants.{Columns, Labels, Generate, Aggregate, Keep}
use Rattle.spec_rules.specs.declared.parts_once.Seen.{Seen}

abbrev pub has : Seen → SinglePart → Bool
has seen Columns = seen.columns
has seen Labels = seen.labels
has seen Generate = seen.generate
has seen Aggregate = seen.aggregate
has seen Keep = seen.keep
