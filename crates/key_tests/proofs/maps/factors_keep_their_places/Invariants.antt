use Rattle.key_tests.proofs.maps.factors_keep_their_places.Given as goal

abbrev pub ghosts-convolved : goal.ghosts-convolved
ghosts-convolved g a = record { name = a.blank.name; parts = a.blank.parts }
