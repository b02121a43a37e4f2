use Rattle.sheet_r2t4.proofs.worked.worked_out.Given as goal

abbrev pub ghosts-on_file : goal.ghosts-on_file
ghosts-on_file a = record { name = a.blank.name; parts = a.blank.parts }
