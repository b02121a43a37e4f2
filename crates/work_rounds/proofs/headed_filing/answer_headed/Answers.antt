use Rattle.std.proofs.Common.{Err, Ok, refl, rules}
use Rattle.work_rounds.specs.Headed.{unopened, unplanned}
use Rattle.work_rounds.proofs.Filed.{filed_as, unheaded_as}
use Rattle.work_rounds.proofs.headed_filing.answer_headed.Goals as goal

pub returns-in-Err-clause-headed : goal.returns-in-Err-clause-headed
returns-in-Err-clause-headed g c = unopened c.in-Err.error c.in-Err.ensures.unopened refl

pub returns-in-Err-plan-clause-headed : goal.returns-in-Err-plan-clause-headed
returns-in-Err-plan-clause-headed g c = unplanned c.in-Ok.kept.history (rw c.into_disk.ensures.disk c.in-Ok.ensures.opened) refl

pub returns-then-is_err-clause-headed : goal.returns-then-is_err-clause-headed
returns-then-is_err-clause-headed g c =
    unheaded_as g.D.Disk g.R.StateMachine.scheme g.R.StateMachine.semantics g.P.Rows.Rows.texts (g.P.RoundPlan.plans c.args.plan.now c.args.text.items)
    c.machine.ensures c.deref.ensures.value c.into_disk-then-is_err.ensures.disk c.in-Ok.ensures.opened c.in-Ok-plan.ensures.planned (λ honest. (search rules))

pub returns-in-Ok-file_planned-clause-headed : goal.returns-in-Ok-file_planned-clause-headed
returns-in-Ok-file_planned-clause-headed g c =
    filed_as g.D.Disk g.R.StateMachine.scheme g.R.StateMachine.semantics g.P.Rows.Rows.texts (g.P.RoundPlan.plans c.args.plan.now c.args.text.items)
    c.machine.ensures c.deref.ensures.value c.deref-2.ensures.value c.into_disk-in-Ok-file_planned.ensures.disk c.in-Ok.ensures.opened c.in-Ok-plan.ensures.planned c.write_whole.ensures.honest (λ honest. (search rules)) (Ok tt)
    c.in-Ok-file_planned.ensures.closes

pub returns-clause-headed : goal.returns-clause-headed
returns-clause-headed g c =
    filed_as g.D.Disk g.R.StateMachine.scheme g.R.StateMachine.semantics g.P.Rows.Rows.texts (g.P.RoundPlan.plans c.args.plan.now c.args.text.items)
    c.machine.ensures c.deref.ensures.value c.deref-2.ensures.value c.into_disk-in-Err-file_planned.ensures.disk c.in-Ok.ensures.opened c.in-Ok-plan.ensures.planned c.write_whole.ensures.honest (λ honest. (search rules)) (Err c.in-Err-file_planned.stop)
    c.in-Err-file_planned.ensures.closes
