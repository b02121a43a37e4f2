use Rattle.law_funds.proofs.Rounded.{round-within}
use Rattle.work_rounds.proofs.Sized.{awards_sized, never_213}
use Rattle.work_rounds.proofs.laws.no_award_breaks_213.Goals as goal
use Rattle.law_work.specs.Funds.{rest}

pub returns : goal.returns
returns g c r text past heading filings closing is filing among standing refusal e =
    let within = round-within _ c.args.policy.now.is_rule.answers (rest past r.school r.year) is.candidates is.awards is.left is.round in
    never_213 filing (awards_sized r r.number is.candidates is.awards filings within is.awarded filing among) standing refusal e
