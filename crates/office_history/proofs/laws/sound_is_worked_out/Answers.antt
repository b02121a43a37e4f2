use Rattle.std.proofs.Common.{reverse}
use Rattle.office_history.proofs.Lawful.{can_be_worked_out}
use Rattle.office_history.proofs.laws.sound_is_worked_out.Goals as goal

pub returns : goal.returns
returns c w is = can_be_worked_out (reverse c.args.history.now) c.args.filing.now w c.requires.legal is c.requires.sound
