use Rattle.std.proofs.Common.{IfOk, List, ◌∙◌, subst}
use Rattle.log_stamps.specs.declared.entry.StampedEntry.{StampedEntry}
use Rattle.aid_filings.specs.declared.filing.Filing.{Filing}
use Rattle.office_amends.specs.Plans.{Plans}
use Rattle.run_builds.proofs.Built.{as_many, told_apart}
use Rattle.run_builds.proofs.amendment.plan.Goals as goal

pub plan_amendment-requires-clause-as_many : goal.plan_amendment-requires-clause-as_many
plan_amendment-requires-clause-as_many c =
    as_many c.args.machine.now.inner.office.history c.office.result.now.history c.args.machine.now.stamps c.stamps-stamps.result.now (c.office.ensures ∙ c.inner.ensures) c.stamps-stamps.ensures

pub returns : goal.returns
returns c =
    let same = told_apart c.args.machine.now.inner.office.history c.office.result.now.history c.args.machine.now.stamps c.stamps-stamps.result.now (c.office.ensures ∙ c.inner.ensures) c.stamps-stamps.ensures in
    subst (λ (past : List (StampedEntry Filing)). IfOk c.plan_amendment.result (λ plan. Plans past c.args.request.now.stamp c.args.request.now.number c.args.input.items plan)) same c.plan_amendment.ensures
