use Rattle.key_tests.proofs.plans.assert_count.Given as goal

abbrev pub ghosts-sums : goal.ghosts-sums
ghosts-sums g a = record { name = a.blank.name; parts = a.blank.parts }
