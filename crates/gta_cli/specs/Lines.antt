-- The lines that the top call says on the error output, but for fault lines.
use Rattle.std.specs.Prelude.{ℕ, List, codes}

abbrev pub usage_line : List ℕ
usage_line = codes "usage: gta run|show|list|drill [--workers N] [--leaf N] [SEED ROWS]\n"

abbrev pub read_fault_line : List ℕ
read_fault_line = codes "read fault\n"

abbrev pub write_fault_line : List ℕ
write_fault_line = codes "write fault\n"

abbrev pub out_of_memory_line : List ℕ
out_of_memory_line = codes "out of memory\n"
