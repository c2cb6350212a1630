use Rattle.fuse_answer.proofs.dense.dense_sum_by_keys.Given as goal

abbrev pub ghosts-dense_accepted_sum : goal.ghosts-dense_accepted_sum
ghosts-dense_accepted_sum g a = record { name = a.blank.name; parts = a.blank.parts }
