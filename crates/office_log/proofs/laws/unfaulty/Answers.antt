use Rattle.log_machine.proofs.NoFault as list
use Rattle.office_log.specs.Scheme.{office_scheme}
use Rattle.office_log.specs.OfficeLaws.{office_alone, office_legal_past}
use Rattle.office_log.proofs.laws.unfaulty.Goals as goal

pub returns : goal.returns
returns c file history place recovers faulty = list.unfaulty office_scheme office_alone office_legal_past file history place recovers faulty
