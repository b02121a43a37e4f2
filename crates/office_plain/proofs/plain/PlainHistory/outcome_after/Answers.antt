use Rattle.std.proofs.Common.{subst}
use Rattle.office_history.specs.Answer.{IsLegal}
use Rattle.office_history.proofs.Lawful.{can_be_worked_out}
use Rattle.office_plain.proofs.plain.PlainHistory.outcome_after.Goals as goal

pub worked_out-requires : goal.worked_out-requires
worked_out-requires c =
    let legal = subst IsLegal c.requires c.front-filings.ensures.legal in
    can_be_worked_out c.args.past.now c.args.newest.now c.in-Withdraw.facts legal.0 c.in-Withdraw.is legal.2
