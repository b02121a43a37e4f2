use Rattle.std.proofs.Common.{IsTrue, sym, subst}
use Rattle.io_traits.specs.DiskState.{IsKept}
use Rattle.io_traits.proofs.Moments.{weaken, join}
use Rattle.log_journal.specs.Founded.{UnbornOrEmpty}
use Rattle.log_journal.proofs.founding.begin.Goals as goal

pub returns-clause-moments : goal.returns-clause-moments
returns-clause-moments g c honest each =
    let old = g.D.Disk.tells c.args.disk.now in
    let mid = g.D.Disk.tells c.sync_kept.new.disk in
    let new = g.D.Disk.tells c.lay_from.new.disk in
    let after = subst IsTrue (sym c.sync_kept.ensures.honest) honest in
    let kept : IsKept old.reads mid = c.in_ok-sync_kept.ensures.done honest in
    join old mid new (UnbornOrEmpty c.args.header)
    (weaken old mid old.image (UnbornOrEmpty c.args.header) each (c.sync_kept.ensures.told honest).moments)
    (c.lay_from.ensures.moments after kept.quiet)
