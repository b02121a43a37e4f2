use Rattle.run_claims.proofs.joins.each_moment_joins.Goals as goal

pub returns : goal.returns
returns g c past after old new honest moments file now = moments.each file (g.met.D.Disk.counts_now new (g.D.Disk.tells old).moment file honest moments.later now)
