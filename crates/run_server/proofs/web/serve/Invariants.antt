use Rattle.run_server.proofs.web.serve.Given as goal

abbrev pub ghosts-serve_ports : goal.ghosts-serve_ports
ghosts-serve_ports g a = record { moment = (g.D.Disk.tells a.kept.disk).moment; already = λ t file. (g.D.Disk.tells a.kept.disk).image_since t file }
