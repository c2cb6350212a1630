use Rattle.fuse_answer.proofs.sum.sum_by_keys.Given as goal

abbrev pub ghosts-accepted_sum : goal.ghosts-accepted_sum
ghosts-accepted_sum g a = record { name = a.blank.name; parts = a.blank.parts }
