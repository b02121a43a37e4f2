use Rattle.log_desk_runs.proofs.desks.file_read.Given as goal

abbrev pub ghosts-file_all : goal.ghosts-file_all
ghosts-file_all g a = record { moment = (g.D.Disk.tells a.kept.disk).moment; already = λ t file. (g.D.Disk.tells a.kept.disk).image_since t file }
