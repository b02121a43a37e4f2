use Rattle.office_updates.proofs.uncounted.school_of.Given as goal

abbrev pub ghosts-school_on : goal.ghosts-school_on
ghosts-school_on g a = record { name = a.blank.name; parts = a.blank.parts }
