-- What the end of a write that failed carries.
use Rattle.std.specs.Prelude.{ℕ}
use Rattle.gta_port.specs.declared.writing.WriteEnd.{WriteEnd}
use Rattle.gta_port.specs.declared.writing.WriteEnd.TheVariants.{WriteFault}

-- how many bytes went out before the fault
abbrev pub gone_before : WriteEnd → ℕ
gone_before (WriteFault gone) = gone
