use Rattle.std.proofs.Common.{IsTrue, sym, subst}
use Rattle.io_traits.specs.DiskState.{IsRead, EachMoment}
use Rattle.io_traits.proofs.Moments.{weaken, join, read_moments}
use Rattle.log_journal.specs.Founded.{UnbornOrEmpty}
use Rattle.log_journal.proofs.founding.found.Goals as goal

pub returns-in-Ok-begin-clause-moments : goal.returns-in-Ok-begin-clause-moments
returns-in-Ok-begin-clause-moments g c honest each =
    let old = g.D.Disk.tells c.args.disk in
    let mid = g.D.Disk.tells c.look.new.disk in
    let after = subst IsTrue (sym c.look.ensures.honest) honest in
    let read : IsRead old mid = c.look.ensures.told honest in
    subst (λ d. EachMoment old (g.D.Disk.tells d) (UnbornOrEmpty c.args.header)) (sym c.at.ensures.disk)
    (join old mid (g.D.Disk.tells c.begin.new.disk) (UnbornOrEmpty c.args.header)
    (weaken old mid old.image (UnbornOrEmpty c.args.header) each (read_moments old mid (λ x since. g.met.D.Disk.only_now c.args.disk x honest since) read))
    (c.begin.ensures.moments after (λ x now. each x (read.images x now))))

pub returns-in-Err-begin-clause-moments_err : goal.returns-in-Err-begin-clause-moments_err
returns-in-Err-begin-clause-moments_err g c honest each =
    let old = g.D.Disk.tells c.args.disk in
    let mid = g.D.Disk.tells c.look.new.disk in
    let after = subst IsTrue (sym c.look.ensures.honest) honest in
    let read : IsRead old mid = c.look.ensures.told honest in
    join old mid (g.D.Disk.tells c.begin.new.disk) (UnbornOrEmpty c.args.header)
    (weaken old mid old.image (UnbornOrEmpty c.args.header) each (read_moments old mid (λ x since. g.met.D.Disk.only_now c.args.disk x honest since) read))
    (c.begin.ensures.moments after (λ x now. each x (read.images x now)))
