use Rattle.log_stamps.specs.StampedLaws.{entries-stamped}
use Rattle.log_stamps.proofs.Steps.{length-stamped}
use Rattle.log_stamps.proofs.stamping.StampedMachineStateMachine.front.Goals as goal

pub returns-clause-value : goal.returns-clause-value
returns-clause-value g c = rw (← c.self.view_is, length-stamped) c.front.ensures.value

pub returns-clause-legal : goal.returns-clause-legal
returns-clause-legal g c = rw (← c.self.view_is, entries-stamped) c.front.ensures.legal
