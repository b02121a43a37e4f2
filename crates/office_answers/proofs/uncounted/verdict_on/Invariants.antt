use Rattle.office_answers.proofs.uncounted.verdict_on.Given as goal

abbrev pub ghosts-verdict_counted : goal.ghosts-verdict_counted
ghosts-verdict_counted g a = record { name = a.blank.name; parts = a.blank.parts }
