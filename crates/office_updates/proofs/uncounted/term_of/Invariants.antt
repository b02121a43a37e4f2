use Rattle.office_updates.proofs.uncounted.term_of.Given as goal

abbrev pub ghosts-term_on : goal.ghosts-term_on
ghosts-term_on g a = record { name = a.blank.name; parts = a.blank.parts }
