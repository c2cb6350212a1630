use Rattle.algebra_tests.proofs.semirings.the_least_weight.Given as goal

abbrev pub ghosts-combined : goal.ghosts-combined
ghosts-combined g a = record { name = a.blank.name; parts = a.blank.parts }
