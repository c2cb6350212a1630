use Rattle.tree_tests.proofs.edits.an_edit_without_memory_leaves_all_as_before.Given as goal

abbrev pub ghosts-assert_edits : goal.ghosts-assert_edits
ghosts-assert_edits g a = record { name = a.blank.name; parts = a.blank.parts }
