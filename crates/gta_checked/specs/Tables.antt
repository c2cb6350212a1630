-- The tables and automata of a checked specification by their numbers.
use Rattle.std.specs.Prelude.{ℕ, List, [], slice_index_or}
use Rattle.auto_monoid.specs.Auto.{PlainAuto}
use Rattle.gta_checked.specs.Plain.{NamedTable}

-- what stands past the last table: no element
abbrev pub no_table : NamedTable
no_table = record { name = []; elements = []; products = record { size = 0; unit = 0; cells = [] } }

-- the table of a number, from 0
abbrev pub table_at : List NamedTable → ℕ → NamedTable
table_at tables table = slice_index_or tables table no_table

-- what stands past the last automaton: no state
abbrev pub no_automaton : PlainAuto
no_automaton = record { states = 0; start = 0; letters = 0; moves = [] }

-- the automaton of a number, from 0
abbrev pub automaton_at : List PlainAuto → ℕ → PlainAuto
automaton_at automata automaton = slice_index_or automata automaton no_automaton
