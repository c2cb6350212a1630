use Rattle.key_tests.proofs.lanes.each_kit_of_numbers.Given as goal

abbrev pub ghosts-doubled : goal.ghosts-doubled
ghosts-doubled g a = record { name = a.blank.name; parts = a.blank.parts }

abbrev pub ghosts-doubled-2 : goal.ghosts-doubled-2
ghosts-doubled-2 g a = record { name = a.blank.name; parts = a.blank.parts }

abbrev pub ghosts-doubled-3 : goal.ghosts-doubled-3
ghosts-doubled-3 g a = record { name = a.blank.name; parts = a.blank.parts }

abbrev pub ghosts-doubled-4 : goal.ghosts-doubled-4
ghosts-doubled-4 g a = record { name = a.blank.name; parts = a.blank.parts }
