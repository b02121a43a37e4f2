use Rattle.std.proofs.Common.{ℕ, ◌∙◌, sym, subst}
use Rattle.log_runs.specs.Puts.{HasCut, HasPut}
use Rattle.log_runs.specs.Ends.{EndsWith, told, untold}
use Rattle.run_builds.specs.Ends.{line_of, status_of}
use Rattle.run_builds.proofs.ending.UpgradeEnd.tell.Goals as goal

pub returns-in-Ok : goal.returns-in-Ok
returns-in-Ok g c =
    subst (λ (n : ℕ). EndsWith g.K.Sink (line_of c.args.self) (status_of c.args.self) c.args.out.now c.put.new.out n) (sym c.status.ensures)
    (told (subst (λ l. HasPut g.K.Sink l c.args.out.now c.put.new.out) (c.as_bytes.ensures.value ∙ c.deref.ensures.0 ∙ c.line.ensures) c.in-Ok.ensures))

pub returns-in-Err : goal.returns-in-Err
returns-in-Err g c = untold (subst (λ l. HasCut g.K.Sink l c.args.out.now c.put.new.out) (c.as_bytes.ensures.value ∙ c.deref.ensures.0 ∙ c.line.ensures) c.in-Err.ensures)
