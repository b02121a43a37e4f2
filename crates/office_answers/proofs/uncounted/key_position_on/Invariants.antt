use Rattle.office_answers.proofs.uncounted.key_position_on.Given as goal

abbrev pub ghosts-key_position_counted : goal.ghosts-key_position_counted
ghosts-key_position_counted g a = record { name = a.blank.name; parts = a.blank.parts }
