use Rattle.runtime_tests.proofs.workers.what_a_piece_covers_is_not_computed.Given as goal

abbrev pub ghosts-gathered : goal.ghosts-gathered
ghosts-gathered g a = record { name = a.blank.name; parts = a.blank.parts }
