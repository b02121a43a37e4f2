use Rattle.sorted_rows.proofs.table.Table.at.Given as goal

abbrev pub ghosts-find_uncounted : goal.ghosts-find_uncounted
ghosts-find_uncounted g a = record { name = a.blank.name; parts = a.blank.parts }
