use Rattle.algebra_tests.proofs.semirings.how_many_there_are.Given as goal

abbrev pub ghosts-combined : goal.ghosts-combined
ghosts-combined g a = record { name = a.blank.name; parts = a.blank.parts }
