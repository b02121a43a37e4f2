use Rattle.std.proofs.Common.{◌∙◌}
use Rattle.log_stamps.proofs.Steps.{oldest_stamps}
use Rattle.log_stamps.proofs.stamping.StampedMachine.stamps.Goals as goal

pub returns : goal.returns
returns g c =
    rw (← c.self.view_is, oldest_stamps (g.R.StateMachine.history c.self.inside.inner) c.self.inside.stamps.items c.self.invariant.0)
    c.as_slice.ensures.value
