use Rattle.std.proofs.Common.{Bool, Ok, Err, refl, subst}
use Rattle.run_office.specs.Ran as run
use Rattle.run_office.specs.Ran.{ChecksRows, Tallies, stopped}
use Rattle.run_office.proofs.checks.check_rows.Goals as goal

pub returns-in-Ok-clause-checks : goal.returns-in-Ok-clause-checks
returns-in-Ok-clause-checks g c =
    run.looked_at (g.K.Sink.text c.check.new.out) (Ok c.in-Ok.tally) c.tell.result c.in-Ok.ensures.checks
    (subst (λ (h : Bool). Tallies (record { honest = h; before = g.K.Sink.text c.check.new.out; after = g.K.Sink.text c.tell.new.out }) (Ok c.in-Ok.tally) c.tell.result) c.in-Ok.ensures.sink_honest c.tell.ensures.tallies)

pub returns-in-Err-clause-checks : goal.returns-in-Err-clause-checks
returns-in-Err-clause-checks g c = run.looked_at (g.K.Sink.text c.check.new.out) (Err c.in-Err.stop) _ c.in-Err.ensures.checks (stopped c.in-Err.stop refl)
