use Rattle.log_machine.proofs.Histories.{recovers_once}
use Rattle.office_log.specs.Scheme.{office_scheme}
use Rattle.office_log.specs.OfficeLaws.{office_alone}
use Rattle.office_log.proofs.laws.once.Goals as goal

pub returns : goal.returns
returns c file one other stands also = recovers_once office_scheme office_alone file one other stands also
