use Rattle.list_tests.proofs.runs.the_first_of_some_candidates_over_runs.Given as goal

abbrev pub ghosts-sum_of_candidates : goal.ghosts-sum_of_candidates
ghosts-sum_of_candidates g a = record { name = a.blank.name; parts = a.blank.parts }
