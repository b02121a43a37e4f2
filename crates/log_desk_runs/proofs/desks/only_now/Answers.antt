use Rattle.log_desk_runs.proofs.desks.only_now.Goals as goal

pub returns : goal.returns
returns g c disk file honest since = g.met.D.Disk.only_now disk file honest since
