use Rattle.runtime_tests.proofs.refusals.all_is_computed_between_the_turns.Given as goal

abbrev pub ghosts-readings : goal.ghosts-readings
ghosts-readings g a = record { name = a.blank.name; parts = a.blank.parts }
