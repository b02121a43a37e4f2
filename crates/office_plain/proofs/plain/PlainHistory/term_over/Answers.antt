use Rattle.std.proofs.Common.{rules, ◌∙◌, sym, ap, Some}
use Rattle.std.specs.List.{filter}
use Rattle.office_history.specs.Net.{pell_term}
use Rattle.office_history.specs.Positions.{is_over, least_term, payment_at}
use Rattle.office_history.specs.Past.{terms_on_file}
use Rattle.office_history.specs.declared.place.Place.{Place}
use Rattle.office_plain.proofs.Terms.{told, told_none}
use Rattle.office_plain.proofs.plain.PlainHistory.term_over.Goals as goal

pub returns-in_err-school : goal.returns-in_err-school
returns-in_err-school c =
    let past = c.args.self.now in
    let over = is_over past c.args.award c.args.student c.args.year in
    c.from_residual.ensures
    ∙ told_none past c.args.award c.args.student c.args.year (least_term (filter over (terms_on_file past)))
    (sym (c.least-first.ensures.first over (λ school position x r k. search rules)) ∙ c.in_err-school.was)

pub returns : goal.returns
returns c =
    let past = c.args.self.now in
    let over = is_over past c.args.award c.args.student c.args.year in
    let kept = c.net_pell.ensures ∙ ap (λ (p : Place). pell_term past p.school p.student p.year p.term) c.place-place.ensures in
    let bound = c.payment_at.ensures ∙ ap (λ (p : Place). payment_at past c.args.award p.school p.student p.year p.term) c.place-place.ensures in
    (λ i. Some (record { rule = 93; kept = kept i; bound = bound i }))
    ∙ sym (told past c.args.award c.args.student c.args.year c.in_ok-school.school c.in_ok-school.term (least_term (filter over (terms_on_file past)))
    (sym (c.least-first.ensures.first over (λ school position x r k. search rules)) ∙ c.in_ok-school.was))
