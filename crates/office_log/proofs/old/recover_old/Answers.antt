use Rattle.office_log.proofs.Oldest.{never_old}
use Rattle.office_log.proofs.old.recover_old.Goals as goal

pub returns-clause-oldest : goal.returns-clause-oldest
returns-clause-oldest g c honest = never_old (g.D.Disk.tells c.args.disk).reads c.read.result (c.read.ensures.old honest)
