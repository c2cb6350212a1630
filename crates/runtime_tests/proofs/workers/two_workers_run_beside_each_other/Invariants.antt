use Rattle.runtime_tests.proofs.workers.two_workers_run_beside_each_other.Given as goal

abbrev pub ghosts-solved : goal.ghosts-solved
ghosts-solved g a = record { name = a.blank.name; parts = a.blank.parts }
