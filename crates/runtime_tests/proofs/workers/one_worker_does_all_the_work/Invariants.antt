use Rattle.runtime_tests.proofs.workers.one_worker_does_all_the_work.Given as goal

abbrev pub ghosts-worked : goal.ghosts-worked
ghosts-worked g a = record { name = a.blank.name; parts = a.blank.parts }
