use Rattle.tree_tests.proofs.edits.rows_come_and_go.Given as goal

abbrev pub ghosts-assert_edits : goal.ghosts-assert_edits
ghosts-assert_edits g a = record { name = a.blank.name; parts = a.blank.parts }
