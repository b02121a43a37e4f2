use Rattle.office_rounds.proofs.Within.{planned}
use Rattle.office_rounds.proofs.rounds.plan_round.Goals as goal

pub returns-clause-planned : goal.returns-clause-planned
returns-clause-planned g c =
    planned _ c.args.office.now.history c.args.request.now c.in_ok-candidates.candidates.items c.as_slice.result.now c.as_slice-2.result.now
    c.in_ok-awarded.awarded.awards.items c.as_slice-3.result.now c.in_ok-filings.filings.items c.in_ok-rest.rest c.in_ok-awarded.awarded.left
    c.in_ok-candidates.ensures.candidates c.in_ok-rest.ensures c.as_slice.ensures.value c.in_ok-awarded.ensures.round c.as_slice-2.ensures.value
    c.as_slice-3.ensures.value c.in_ok-filings.ensures.payments
