use Rattle.std.proofs.Common.{◌≡◌, ◌∷◌, ap, sym, ◌∙◌}
use Rattle.aid_filings.specs.declared.filing.Filing.{Filing}
use Rattle.aid_filings.specs.declared.reply.Response.TheVariants.{Admit}
use Rattle.office_history.specs.Answer.{answer_of, is_admit, outcome_of}
use Rattle.office_sheets.proofs.Passed.{admitted}
use Rattle.office_sheets.proofs.front.grow.Goals as goal

pub admit-requires-clause-admitted : goal.admit-requires-clause-admitted
admit-requires-clause-admitted c =
    let past = c.args.office.now.history in
    ap is_admit (ap (answer_of past) c.in_ok-copy.ensures ∙ admitted past c.args.filing.now c.requires.legal)

pub returns-clause-history : goal.returns-clause-history
returns-clause-history c = c.admit.ensures.history ∙ ap (λ (f : Filing). f ∷ c.args.office.now.history) c.in_ok-copy.ensures

pub returns-clause-outcome : goal.returns-clause-outcome
returns-clause-outcome c =
    let past = c.args.office.now.history in
    let same : Admit c.admit.result ≡ Admit (outcome_of past c.args.filing.now) =
    sym c.admit.ensures.outcome ∙ ap (answer_of past) c.in_ok-copy.ensures ∙ admitted past c.args.filing.now c.requires.legal in
    cc
