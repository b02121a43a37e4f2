use Rattle.std.proofs.Common.{◌≡◌, ◌∙◌, ap, sym}
use Rattle.aid_filings.specs.declared.filing.WithdrawFacts.{WithdrawFacts}
use Rattle.aid_filings.specs.declared.filing.What.TheVariants.{Withdraw}
use Rattle.office_history.specs.Past.{the_term}
use Rattle.office_history.specs.declared.rows.TermRow.{TermRow}
use Rattle.office_index.proofs.own_entry.withdrawn_from.Goals as goal

pub returns-in-Withdraw : goal.returns-in-Withdraw
returns-in-Withdraw g c = λ w is.
    let both : Withdraw c.in-Withdraw.facts ≡ Withdraw w = sym c.in-Withdraw.is ∙ is in
    let same : c.in-Withdraw.facts ≡ w = cc in
    ap (λ (row : TermRow). row.term) c.term_of.ensures.term
    ∙ ap (λ (x : WithdrawFacts). the_term (g.P.HistoryView.history c.args.past.now) c.args.filing.now.key.school x.year x.term) same
