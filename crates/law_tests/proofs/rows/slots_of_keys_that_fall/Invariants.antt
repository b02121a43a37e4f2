use Rattle.law_tests.proofs.rows.slots_of_keys_that_fall.Given as goal

abbrev pub ghosts-find : goal.ghosts-find
ghosts-find g a = record { name = a.blank.name; parts = a.blank.parts }
