use Rattle.run_sheets.proofs.Noted.{front_list}
use Rattle.run_sheets.proofs.laws.a_noted_front_stands.Goals as goal

pub returns : goal.returns
returns c = front_list
