use Rattle.runtime_tests.proofs.refusals.a_worker_without_memory_leaves_all_on_the_board.Given as goal

abbrev pub ghosts-left_by : goal.ghosts-left_by
ghosts-left_by g a = record { name = a.blank.name; parts = a.blank.parts }
