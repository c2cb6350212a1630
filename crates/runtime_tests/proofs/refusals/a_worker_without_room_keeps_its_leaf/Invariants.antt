use Rattle.runtime_tests.proofs.refusals.a_worker_without_room_keeps_its_leaf.Given as goal

abbrev pub ghosts-left_by : goal.ghosts-left_by
ghosts-left_by g a = record { name = a.blank.name; parts = a.blank.parts }
