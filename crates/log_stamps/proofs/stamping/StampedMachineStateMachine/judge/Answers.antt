use Rattle.std.proofs.Common.{ap, ◌∙◌}
use Rattle.std.specs.Prelude.{option_map}
use Rattle.log_machine.specs.NewEntry.{entry_of}
use Rattle.log_stamps.specs.Entries.{with_stamp}
use Rattle.log_stamps.specs.StampedLaws.{entries-stamped}
use Rattle.log_stamps.proofs.Steps.{entry_of-stamped_added, ruled_alone}
use Rattle.log_stamps.proofs.stamping.StampedMachineStateMachine.judge.Goals as goal

pub returns-clause-response : goal.returns-clause-response
returns-clause-response g c = rw (← c.self.view_is, entries-stamped) c.judge-response.ensures.response

pub returns-clause-added : goal.returns-clause-added
returns-clause-added g c =
    rw (← c.self.view_is, entries-stamped)
    (ap entry_of c.with_stamp.ensures ∙ entry_of-stamped_added c.args.operation.stamp c.judge-response.result.added ∙ ap (option_map (with_stamp c.args.operation.stamp)) c.judge-response.ensures.added)

pub returns-clause-ruled : goal.returns-clause-ruled
returns-clause-ruled g c =
    rw (← c.self.view_is, entries-stamped, c.with_stamp.ensures)
    (ruled_alone (g.R.StateMachine.IsRuling (g.R.StateMachine.history c.self.inside.inner)) c.args.operation.stamp c.judge-response.result.added c.judge-response.ensures.ruled)
