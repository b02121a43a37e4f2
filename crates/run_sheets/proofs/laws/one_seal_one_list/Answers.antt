use Rattle.run_sheets.proofs.Noted.{one_list}
use Rattle.run_sheets.proofs.laws.one_seal_one_list.Goals as goal

pub returns : goal.returns
returns c = one_list
