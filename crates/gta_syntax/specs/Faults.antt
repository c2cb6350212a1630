-- The refusal of a text as the refusal of a specification.
use Rattle.gta_text.specs.declared.fault.TextFault.{TextFault}
use Rattle.gta_text.specs.declared.fault.TextFault.TheVariants as texts
use Rattle.gta_syntax.specs.declared.fault.SpecFault.{SpecFault}
use Rattle.gta_syntax.specs.declared.fault.SpecFault.TheVariants.{Byte, Memory}

abbrev pub spec_fault : TextFault → SpecFault
spec_fault (texts.Byte line place) = Byte line place
spec_fault texts.Memory = Memory
