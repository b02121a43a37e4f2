use Rattle.std.proofs.Common.{refl}
use Rattle.run_claims.proofs.AfterRuns.{nothing_more}
use Rattle.run_claims.proofs.joins.runs_join.Goals as goal

pub returns : goal.returns
returns g c stamp rows past text old new honest ran file now =
    let moments = nothing_more stamp ran.last _ (g.D.Disk.tells ran.filed) (g.D.Disk.tells new) ran.left ran.stop (ran.done refl).0 ran.stops in
    moments.each file (g.met.D.Disk.counts_now new (g.D.Disk.tells ran.filed).moment file honest moments.later now)
