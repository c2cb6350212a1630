use Rattle.runtime_tests.proofs.refusals.with_all_calls_refused_there_is_no_value.Given as goal

abbrev pub ghosts-solved_without : goal.ghosts-solved_without
ghosts-solved_without g a = record { name = a.blank.name; parts = a.blank.parts }
