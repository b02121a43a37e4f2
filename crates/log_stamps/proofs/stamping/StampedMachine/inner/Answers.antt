use Rattle.std.proofs.Common.{refl}
use Rattle.log_stamps.specs.StampedLaws.{entries-stamped}
use Rattle.log_stamps.proofs.stamping.StampedMachine.inner.Goals as goal

pub returns : goal.returns
returns g c = rw (← c.self.view_is, entries-stamped) refl
