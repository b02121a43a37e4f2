use Rattle.std.proofs.Common.{◌∙◌, sym}
use Rattle.aid_stamps.specs.StampLaws.{stamp_alone}
use Rattle.log_stamps.proofs.stamping.StampedMachineStateMachine.decode.Goals as goal

pub returns-in-Err-clause-not_entry : goal.returns-in-Err-clause-not_entry
returns-in-Err-clause-not_entry g c entry is spelled bad =
    let found = c.in-Ok.ensures.found in
    let same = stamp_alone c.in-Ok.stamp entry.stamp c.in-Ok.rest.now (g.R.StateMachine.scheme.spelling entry.entry) found.0 is.0 (sym found.1 ∙ spelled) in
    c.in-Err.ensures.not_entry entry.entry is.1 same.behind (cc)
