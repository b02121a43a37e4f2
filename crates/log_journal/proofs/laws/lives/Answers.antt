use Rattle.log_journal.proofs.Fates.{kept}
use Rattle.log_journal.proofs.laws.lives.Goals as goal

pub returns : goal.returns
returns g c header before fates file life = kept g.D.Disk header before file fates life
