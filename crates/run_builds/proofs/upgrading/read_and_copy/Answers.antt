use Rattle.std.proofs.Common.{refl}
use Rattle.run_builds.specs.Upgrades.{source_read, source_refused}
use Rattle.run_builds.proofs.upgrading.read_and_copy.Goals as goal

pub returns-in-Ok-clause-copies : goal.returns-in-Ok-clause-copies
returns-in-Ok-clause-copies g c =
    source_read c.in-Ok.office.office.history c.copy-ended.result.0 c.ended_upgrade.result (record { recovers = c.in-Ok.ensures.recovers; legal = c.in-Ok.ensures.legal })
    c.copy-ended.ensures.builds (search (c.ended_upgrade.ensures, c.from-count.ensures, c.front.ensures.value))

pub returns-in-Err-clause-copies : goal.returns-in-Err-clause-copies
returns-in-Err-clause-copies g c = source_refused c.in-Err.fault c.in-Err.ensures.refuses refl
