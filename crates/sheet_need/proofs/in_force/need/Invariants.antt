use Rattle.sheet_need.proofs.in_force.need.Given as goal

abbrev pub ghosts-need_in : goal.ghosts-need_in
ghosts-need_in a = record { name = a.blank.name; parts = a.blank.parts }
