use Rattle.std.proofs.Common.{reverse}
use Rattle.office_history.specs.Net.{cell_at}
use Rattle.office_history.proofs.Nets.{covered}
use Rattle.sheet_r2t4.proofs.laws.repaid_of_owed.Goals as goal

pub returns : goal.returns
returns c school student year term program = (covered (reverse c.args.history.now) c.requires (cell_at school student year term program)).0
