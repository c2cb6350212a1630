use Rattle.algebra_tests.proofs.steps.a_caller_that_counts_nothing_makes_its_own_counter.Given as goal

abbrev pub ghosts-count_two : goal.ghosts-count_two
ghosts-count_two g a = record { name = a.blank.name; parts = a.blank.parts }
