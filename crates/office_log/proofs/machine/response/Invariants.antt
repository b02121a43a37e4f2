use Rattle.office_log.proofs.machine.response.Given as goal

abbrev pub ghosts-verdict_on : goal.ghosts-verdict_on
ghosts-verdict_on a = record { name = a.blank.name; parts = a.blank.parts }
