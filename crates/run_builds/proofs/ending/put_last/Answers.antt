use Rattle.log_runs.specs.Ends.{told, untold}
use Rattle.run_builds.proofs.ending.put_last.Goals as goal

pub returns-in-Ok : goal.returns-in-Ok
returns-in-Ok g c = told c.in-Ok.ensures

pub returns-in-Err : goal.returns-in-Err
returns-in-Err g c = untold c.in-Err.ensures
