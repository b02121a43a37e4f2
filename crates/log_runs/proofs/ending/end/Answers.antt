use Rattle.std.proofs.Common.{Result, refl, subst, sym}
use Rattle.log_runs.specs.Ends.{Ends, stopped, well}
use Rattle.log_runs.specs.declared.stop.RunStop.{RunStop}
use Rattle.log_runs.proofs.ending.end.Goals as goal

pub returns-in-Ok : goal.returns-in-Ok
returns-in-Ok g c = subst (λ (e : Result Unit RunStop). Ends g.K.Sink c.args.out.now c.args.out.now e 0) (sym c.in-Ok.is) (well refl)

pub returns-in-Err : goal.returns-in-Err
returns-in-Err g c = subst (λ (e : Result Unit RunStop). Ends g.K.Sink c.args.out.now c.end_with.new.out e c.end_with.result) (sym c.in-Err.is) (stopped c.in-Err.stop c.end_with.result c.end_with.ensures)
