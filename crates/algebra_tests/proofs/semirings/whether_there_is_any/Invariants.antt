use Rattle.algebra_tests.proofs.semirings.whether_there_is_any.Given as goal

abbrev pub ghosts-combined : goal.ghosts-combined
ghosts-combined g a = record { name = a.blank.name; parts = a.blank.parts }
