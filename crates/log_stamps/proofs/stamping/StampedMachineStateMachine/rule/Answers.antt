use Rattle.log_stamps.specs.StampedLaws.{entries-stamped}
use Rattle.log_stamps.proofs.stamping.StampedMachineStateMachine.rule.Goals as goal

pub returns-clause-admitted : goal.returns-clause-admitted
returns-clause-admitted g c = rw (← c.self.view_is, entries-stamped) c.rule.ensures.admitted

pub returns-clause-ruled : goal.returns-clause-ruled
returns-clause-ruled g c = rw (← c.self.view_is, entries-stamped) c.rule.ensures.ruled
