use Rattle.list_tests.proofs.best_lists.the_first_of_all_sublists.Given as goal

abbrev pub ghosts-sublists : goal.ghosts-sublists
ghosts-sublists g a = record { name = a.blank.name; parts = a.blank.parts }
