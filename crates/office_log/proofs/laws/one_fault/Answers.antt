use Rattle.log_machine.proofs.OneFault as list
use Rattle.office_log.specs.Scheme.{office_scheme}
use Rattle.office_log.specs.OfficeLaws.{office_alone, office_legal_past}
use Rattle.office_log.proofs.laws.one_fault.Goals as goal

pub returns : goal.returns
returns c file place other one two = list.one_fault office_scheme office_alone office_legal_past file place other one two
