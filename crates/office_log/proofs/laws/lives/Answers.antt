use Rattle.log_machine.proofs.Fates as list
use Rattle.office_log.specs.Scheme.{office_scheme}
use Rattle.office_log.specs.Submits.{office_semantics}
use Rattle.office_log.specs.OfficeLaws.{office_alone}
use Rattle.office_log.proofs.laws.lives.Goals as goal

pub returns : goal.returns
returns g c before fates file life = list.kept g.D.Disk office_scheme office_semantics office_alone before file fates life
