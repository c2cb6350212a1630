-- Where an expression stands, as the code has it.
use Rattle.gta_spec.specs.Keep as keep
use Rattle.gta_canonical.specs.declared.keep_printing.Place.{Place}
use Rattle.gta_canonical.specs.declared.keep_printing.Place.TheVariants.{Whole, Conjunct, Operand}

abbrev pub place_of : Place → keep.Place
place_of Whole = keep.Whole
place_of Conjunct = keep.Conjunct
place_of Operand = keep.Operand
