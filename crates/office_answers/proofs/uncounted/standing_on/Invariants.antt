use Rattle.office_answers.proofs.uncounted.standing_on.Given as goal

abbrev pub ghosts-standing_counted : goal.ghosts-standing_counted
ghosts-standing_counted g a = record { name = a.blank.name; parts = a.blank.parts }
