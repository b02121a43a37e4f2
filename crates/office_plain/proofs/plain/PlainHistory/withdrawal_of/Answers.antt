use Rattle.std.proofs.Common.{rules}
use Rattle.office_history.specs.Past.{at_school, withdrawal_in}
use Rattle.office_plain.proofs.plain.PlainHistory.withdrawal_of.Goals as goal

pub returns-clause-position : goal.returns-clause-position
returns-clause-position c =
    let p = c.args.place.now in
    c.first.ensures.position (at_school p.school (withdrawal_in p.student p.year p.term)) (λ x r k. search rules)
