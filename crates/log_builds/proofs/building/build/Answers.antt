use Rattle.std.proofs.Common.{IsTrue, sym, subst}
use Rattle.log_builds.proofs.Steps.{looked_first}
use Rattle.log_builds.specs.Built.{NoneOrWhole}
use Rattle.log_builds.proofs.building.build.Goals as goal

pub returns-in-Ok-clause-moments : goal.returns-in-Ok-clause-moments
returns-in-Ok-clause-moments g c honest =
    let E = g.E.Entries in
    looked_first (g.D.Disk.tells c.args.disk) (g.D.Disk.tells c.in_ok-disk.disk) (g.D.Disk.tells c.write_whole.new.disk)
    (NoneOrWhole c.args.header E.spelling E.IsEntry (E.left c.args.entries.now)) (λ x since. g.met.D.Disk.only_now c.args.disk x honest since)
    (c.in_ok-disk.ensures.told honest) (c.write_whole.ensures.moments (subst IsTrue (sym c.in_ok-disk.ensures.honest) honest))

pub returns-in-Err-clause-moments_err : goal.returns-in-Err-clause-moments_err
returns-in-Err-clause-moments_err g c honest =
    let E = g.E.Entries in
    looked_first (g.D.Disk.tells c.args.disk) (g.D.Disk.tells c.in_ok-disk.disk) (g.D.Disk.tells c.write_whole.new.disk)
    (NoneOrWhole c.args.header E.spelling E.IsEntry (E.left c.args.entries.now)) (λ x since. g.met.D.Disk.only_now c.args.disk x honest since)
    (c.in_ok-disk.ensures.told honest) (c.write_whole.ensures.moments (subst IsTrue (sym c.in_ok-disk.ensures.honest) honest))
