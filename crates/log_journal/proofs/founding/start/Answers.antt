use Rattle.std.proofs.Common.{[], ◌∷◌, IsTrue, sym, subst}
use Rattle.io_traits.specs.DiskState.{Torn, After, IsKept, overwrite}
use Rattle.io_traits.proofs.Moments.{weaken, join}
use Rattle.log_journal.specs.Founded.{UnbornOrEmpty}
use Rattle.log_journal.proofs.Steps.{emptied, emptied_started}
use Rattle.log_journal.proofs.founding.start.Goals as goal

pub returns-in_err-write_kept-clause-moments : goal.returns-in_err-write_kept-clause-moments
returns-in_err-write_kept-clause-moments g c honest quiet =
    let old = g.D.Disk.tells c.args.disk.now in
    weaken _ _ (After (Torn 0 1) old.image) (UnbornOrEmpty c.args.header) (λ x from. emptied c.args.header old.reads x (c.requires honest) (subst (λ d. Torn 0 1 d x) (quiet from.0 from.1) from.2)) (c.write_kept.ensures.told honest).moments

pub lay-requires : goal.lay-requires
lay-requires g c honest =
    let before = subst IsTrue c.write_kept.ensures.honest honest in
    let old = g.D.Disk.tells c.args.disk.now in
    let mid = g.D.Disk.tells c.write_kept.new.disk in
    let kept : IsKept (overwrite 0 (0 ∷ []) old.reads) mid = c.in_ok-write_kept.ensures.done before in
    emptied_started old.reads mid.reads (c.requires before) kept.reads

pub returns-clause-moments : goal.returns-clause-moments
returns-clause-moments g c honest quiet =
    let old = g.D.Disk.tells c.args.disk.now in
    let mid = g.D.Disk.tells c.write_kept.new.disk in
    let new = g.D.Disk.tells c.lay.new.disk in
    let after = subst IsTrue (sym c.write_kept.ensures.honest) honest in
    let kept : IsKept (overwrite 0 (0 ∷ []) old.reads) mid = c.in_ok-write_kept.ensures.done honest in
    join old mid new (UnbornOrEmpty c.args.header)
    (weaken _ _ (After (Torn 0 1) old.image) (UnbornOrEmpty c.args.header) (λ x from. emptied c.args.header old.reads x (c.requires honest) (subst (λ d. Torn 0 1 d x) (quiet from.0 from.1) from.2)) (c.write_kept.ensures.told honest).moments)
    (c.lay.ensures.moments after (λ x now. kept.quiet x now))
