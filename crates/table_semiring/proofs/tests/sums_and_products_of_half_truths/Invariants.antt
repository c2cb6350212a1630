use Rattle.table_semiring.proofs.tests.sums_and_products_of_half_truths.Given as goal

abbrev pub ghosts-combined : goal.ghosts-combined
ghosts-combined g a = record { name = a.blank.name; parts = a.blank.parts }
