use Rattle.log_stamps.specs.StampedLaws.{entries-stamped}
use Rattle.log_stamps.proofs.stamping.StampedMachineStateMachine.admit.Goals as goal

pub admit-requires-clause-admitted : goal.admit-requires-clause-admitted
admit-requires-clause-admitted g c = rw (← c.self.view_is, entries-stamped) at c.requires.admitted

pub admit-requires-clause-ruled : goal.admit-requires-clause-ruled
admit-requires-clause-ruled g c = rw (← c.self.view_is, entries-stamped) at c.requires.ruled
