use Rattle.office_answers.proofs.uncounted.quote_on.Given as goal

abbrev pub ghosts-quote_counted : goal.ghosts-quote_counted
ghosts-quote_counted g a = record { name = a.blank.name; parts = a.blank.parts }
