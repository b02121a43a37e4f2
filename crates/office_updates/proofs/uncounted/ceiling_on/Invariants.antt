use Rattle.office_updates.proofs.uncounted.ceiling_on.Given as goal

abbrev pub ghosts-ceiling_of_book : goal.ghosts-ceiling_of_book
ghosts-ceiling_of_book g a = record { name = a.blank.name; parts = a.blank.parts }
