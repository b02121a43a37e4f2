use Rattle.office_updates.proofs.uncounted.school_year_of.Given as goal

abbrev pub ghosts-school_year_on : goal.ghosts-school_year_on
ghosts-school_year_on g a = record { name = a.blank.name; parts = a.blank.parts }
