use Rattle.std.proofs.Common.{sym, ap, ◌∙◌, Some, length}
use Rattle.std.specs.Option.{option_copied}
use Rattle.aid_filings.specs.declared.filing.Filing.{Filing}
use Rattle.aid_filings.proofs.SameFiling.{tells_filing}
use Rattle.aid_filings.specs.declared.reply.Response.TheVariants.{Again}
use Rattle.office_answers.proofs.Decided.{answer_again, position_within}
use Rattle.office_answers.proofs.Looked.{still_missed}
use Rattle.office_answers.proofs.responses.answer.Goals as goal

pub outcome-requires-clause-first : goal.outcome-requires-clause-first
outcome-requires-clause-first g c =
    (position_within (g.P.HistoryView.history c.args.past.now) c.key_at-position.result c.in-Some.standing.now (sym c.filing.ensures ∙ ap option_copied c.in-Some.is)).0

pub outcome-requires-clause-last : goal.outcome-requires-clause-last
outcome-requires-clause-last g c =
    (position_within (g.P.HistoryView.history c.args.past.now) c.key_at-position.result c.in-Some.standing.now (sym c.filing.ensures ∙ ap option_copied c.in-Some.is)).1

pub returns-in-Some-clause-value : goal.returns-in-Some-clause-value
returns-in-Some-clause-value g c =
    let past = g.P.HistoryView.history c.args.past.now in
    let filing = c.args.filing.now in
    let standing = c.in-Some.standing.now in
    let position = c.key_at-position.result in
    let same = tells_filing.same standing filing (sym c.eq.ensures ∙ c.if-eq.true) in
    (λ i. Again position (c.outcome.ensures i))
    ∙ answer_again past position filing c.front-filings.ensures.legal
    (sym c.filing.ensures ∙ ap option_copied c.in-Some.is ∙ ap (λ (f : Filing). Some f) same)

-- a key that isn't there was missed by the search for it
pub returns-in-None-clause-missed : goal.returns-in-None-clause-missed
returns-in-None-clause-missed g c = λ counts none.
    still_missed (length (g.P.HistoryView.history c.args.past.now)) c.args.steps.now c.key_at-position.new.steps c.judge.new.steps
    (c.key_at-position.ensures.missed counts (c.key_at-position.ensures.value ∙ none)) c.judge.ensures.later
