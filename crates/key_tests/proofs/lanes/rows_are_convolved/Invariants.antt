use Rattle.key_tests.proofs.lanes.rows_are_convolved.Given as goal

abbrev pub ghosts-convolved : goal.ghosts-convolved
ghosts-convolved g a = record { name = a.blank.name; parts = a.blank.parts }
