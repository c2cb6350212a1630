use Rattle.runtime_tests.proofs.refusals.a_refused_call_leaves_the_value.Given as goal

abbrev pub ghosts-solved_without : goal.ghosts-solved_without
ghosts-solved_without g a = record { name = a.blank.name; parts = a.blank.parts }
