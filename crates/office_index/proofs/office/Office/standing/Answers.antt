use Rattle.std.proofs.Common.{◌≡◌, List, sym, subst, ap, ◌∙◌}
use Rattle.aid_filings.specs.declared.filing.Filing.{Filing}
use Rattle.aid_filings.specs.declared.reply.StandingRow.{StandingRow}
use Rattle.office_history.specs.Answer.{IsLegal, standing_of}
use Rattle.office_index.specs.Register.{Register}
use Rattle.office_index.proofs.Unpaid.{unpaid}
use Rattle.office_index.proofs.office.Office.standing.Goals as goal

pub returns-clause-unpaid : goal.returns-clause-unpaid
returns-clause-unpaid c = λ none.
    let past = c.args.self.now.history in
    let view : c.self.inside.indexed.history ≡ past = ap (λ (r : Register). r.history) c.self.view_is in
    let row : c.standing_on.result ≡ standing_of past c.args.student c.args.year =
    c.standing_on.ensures ∙ ap (λ (h : List Filing). standing_of h c.args.student c.args.year) view in
    ap (λ (r : StandingRow). r.paid) row
    ∙ unpaid past c.args.student c.args.year (subst IsLegal view c.front-filings.ensures.legal) (sym (ap (λ (r : StandingRow). r.transaction) row) ∙ none)
