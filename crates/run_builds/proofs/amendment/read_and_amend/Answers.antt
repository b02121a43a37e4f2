use Rattle.run_builds.specs.Amendments.{read}
use Rattle.run_builds.proofs.Made.{refused_at, starved_at, unread_at}
use Rattle.run_builds.proofs.amendment.read_and_amend.Goals as goal

pub returns-in-Err-clause-amends : goal.returns-in-Err-clause-amends
returns-in-Err-clause-amends g c =
    unread_at g.A.Disk g.B.Disk c.args.request.now.stamp c.args.request.now.number _ c.args.source c.args.target _ c.new.ensures.items c.in-Err.stop c.in-Err.ensures.unread

pub returns-in-Err-read_list-clause-amends : goal.returns-in-Err-read_list-clause-amends
returns-in-Err-read_list-clause-amends g c =
    refused_at g.A.Disk g.B.Disk c.args.request.now.stamp c.args.request.now.number _ c.args.source c.args.target _ c.new-in-Err-read_list.ensures.items c.in-Err-read_list.fault
    c.in-Err-read_list.ensures.refuses

pub returns-in-Ok-plan-clause-amends : goal.returns-in-Ok-plan-clause-amends
returns-in-Ok-plan-clause-amends g c =
    read _ c.in-Ok.text.items c.make-end.result.0 c.make-end.result.1.items (record { recovers = c.in-Ok-read_list.ensures.recovers; legal = c.in-Ok-read_list.ensures.legal })
    c.in-Ok.ensures.whole c.in-Ok.ensures.bytes (c.make-end.ensures.makes _ _ _ _ c.in-Ok-plan.ensures)

pub returns-in-Ok-plan-clause-input_cause : goal.returns-in-Ok-plan-clause-input_cause
returns-in-Ok-plan-clause-input_cause g c = rw c.make-end.ensures.input (record { rose = λ t. absurd (let bad : ⊥ = cc in bad); same = λ f. c.in-Ok.ensures.unmoved })

pub returns-in-Ok-plan-clause-source_cause : goal.returns-in-Ok-plan-clause-source_cause
returns-in-Ok-plan-clause-source_cause g c = rw c.make-end.ensures.source (record { rose = λ t. absurd (let bad : ⊥ = cc in bad); same = λ f. c.in-Ok-read_list.ensures.unmoved })

pub returns-clause-amends : goal.returns-clause-amends
returns-clause-amends g c =
    starved_at g.A.Disk g.B.Disk c.args.request.now.stamp c.args.request.now.number _ c.args.source c.args.target _ c.new-in-Err-plan.ensures.items
