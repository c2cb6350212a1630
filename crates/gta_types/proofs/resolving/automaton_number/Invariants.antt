use Rattle.std.proofs.Common.{◌≡◌, take, map}
use Rattle.spec_tables.specs.Tables.{number_of}
use Rattle.gta_types.proofs.resolving.automaton_number.Given as goal

abbrev pub invariant-loop-number : goal.invariant-loop-number
invariant-loop-number l = number_of (map (λ line. line.now.name) (take l.number l.automata)) l.name ≡ l.number
