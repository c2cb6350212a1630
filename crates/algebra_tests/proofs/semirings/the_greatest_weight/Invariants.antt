use Rattle.algebra_tests.proofs.semirings.the_greatest_weight.Given as goal

abbrev pub ghosts-combined : goal.ghosts-combined
ghosts-combined g a = record { name = a.blank.name; parts = a.blank.parts }
