-- The kinds of tests.
use Rattle.gta_spec.specs.declared.parts.Check.{Check}
use Rattle.gta_spec.specs.declared.parts.Check.TheVariants.{Compare, Mod}
use Rattle.gta_checked.specs.Plain.{PlainTest, Sum, Length, Fold, Run, PlainChecked}
use Rattle.gta_checked.specs.Tables.{table_at, automaton_at}
use Rattle.test_homs.specs.declared.added.Added.{Added}
use Rattle.test_homs.specs.declared.added.Added.TheVariants.{Measure, One}
use Rattle.test_homs.specs.Compared.{compared}
use Rattle.test_homs.specs.Fold.{fold_in}
use Rattle.test_homs.specs.Hom.{Hom}
use Rattle.test_homs.specs.Remainder.{remainder}
use Rattle.test_homs.specs.Run.{run_of}

-- what is added up is compared, or its remainder is
abbrev pub hom_of_check : PlainChecked → Added → Check → Hom
hom_of_check checked added (Compare cmp number) = compared checked added cmp number
hom_of_check checked added (Mod modulus residue) = remainder checked added modulus residue

-- the monoid, letters and accepted elements of a test
abbrev pub hom_of : PlainChecked → PlainTest → Hom
hom_of checked (Sum measure check) = hom_of_check checked (Measure measure) check
hom_of checked (Length check) = hom_of_check checked One check
hom_of checked (Fold table picks accept) = fold_in (table_at checked.tables table).products picks accept
hom_of checked (Run automaton picks accept) = run_of (automaton_at checked.automata automaton) picks accept
