use Rattle.law_tests.proofs.rows.keys_of_two_fields.Given as goal

abbrev pub ghosts-look : goal.ghosts-look
ghosts-look g a = record { name = a.blank.name; parts = a.blank.parts }
