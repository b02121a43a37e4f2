use Rattle.std.proofs.Common.{◌∙◌, ap, List}
use Rattle.aid_stamps.specs.declared.stamp.Stamp.{Stamp}
use Rattle.log_stamps.specs.Entries.{nth_stamp}
use Rattle.log_stamps.proofs.Steps.{oldest_stamps}
use Rattle.log_stamps.proofs.stamping.StampedMachine.stamp.Goals as goal

pub returns : goal.returns
returns g c =
    rw (← c.self.view_is, oldest_stamps (g.R.StateMachine.history c.self.inside.inner) c.self.inside.stamps.items c.self.invariant.0)
    (c.stamp_among.ensures ∙ ap (λ (ss : List Stamp). nth_stamp ss c.args.position) c.as_slice.ensures.value)
