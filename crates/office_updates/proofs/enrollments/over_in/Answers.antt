use Rattle.std.proofs.Common.{◌≡◌, ◌∙◌, ap, eq-eqb, reverse, sym, true}
use Rattle.std.specs.Prelude.{◌==◌}
use Rattle.office_history.specs.declared.names.StudentPlace.{StudentPlace}
use Rattle.office_updates.proofs.EnrollmentsRows.{few_credits, name_read, over_none, over_some, payment_read, pell_read, row_read, school_inside, school_read}
use Rattle.office_updates.proofs.enrollments.over_in.Goals as goal

pub bounds-filings-link : goal.bounds-filings-link
bounds-filings-link g c = school_inside c.args.filings.now c.args.places.now.rows c.requires.enrollment.0 c.args.link.now c.requires.enrollment.1

pub payment-bound-requires-clause-credits : goal.payment-bound-requires-clause-credits
payment-bound-requires-clause-credits g c =
    let h = c.args.filings.now in
    let rows = c.args.places.now.rows in
    let f = c.requires.enrollment.0 in
    let l = c.args.link.now in
    let e = c.requires.enrollment.1 in
    few_credits h rows f l e c.requires.legal c.look-place.result.now.1
    (row_read h rows f l e c.requires.rows c.look-place.result.now.0 c.look-place.result.now.1 c.look-place.ensures.here c.look-place.ensures.own)

-- a term of the year that holds more, and one that doesn't
pub returns-then-bound-kept-clause-value : goal.returns-then-bound-kept-clause-value
returns-then-bound-kept-clause-value g c = λ f student e own.
    let h = c.args.filings.now in
    let rows = c.args.places.now.rows in
    let l = c.args.link.now in
    let place = c.look-place.result.now in
    let row = row_read h rows f l e c.requires.rows place.0 place.1 c.look-place.ensures.here c.look-place.ensures.own in
    let named = name_read h rows f l e place.0 place.1 c.look-place.ensures.here in
    let of_year : (e.facts.year == c.args.year) ≡ true = eq-eqb e.facts.year c.args.year (sym (ap (λ (name : StudentPlace). name.year) named) ∙ c.if-place-year.false ∙ c.year.view_is) in
    over_some (reverse h) rows f l e student own c.args.award c.args.year place.0.school place.0.term c.net-kept.result c.payment-bound.result of_year
    (c.net-kept.ensures ∙ pell_read h rows f l e place.1 row)
    (c.payment-bound.ensures ∙ payment_read h rows f l e place.1 row _ (school_read h rows f l e c.index-filings-link.result) c.args.award)
    c.if-bound-kept.true (ap (λ (name : StudentPlace). name.school) named) (ap (λ (name : StudentPlace). name.term) named)

pub returns-else-bound-kept-clause-value : goal.returns-else-bound-kept-clause-value
returns-else-bound-kept-clause-value g c = λ f student e own.
    let h = c.args.filings.now in
    let rows = c.args.places.now.rows in
    let l = c.args.link.now in
    let place = c.look-place.result.now in
    let row = row_read h rows f l e c.requires.rows place.0 place.1 c.look-place.ensures.here c.look-place.ensures.own in
    let named = name_read h rows f l e place.0 place.1 c.look-place.ensures.here in
    let of_year : (e.facts.year == c.args.year) ≡ true = eq-eqb e.facts.year c.args.year (sym (ap (λ (name : StudentPlace). name.year) named) ∙ c.if-place-year.false ∙ c.year.view_is) in
    over_none (reverse h) rows f l e student own c.args.award c.args.year c.net-kept.result c.payment-bound.result of_year
    (c.net-kept.ensures ∙ pell_read h rows f l e place.1 row)
    (c.payment-bound.ensures ∙ payment_read h rows f l e place.1 row _ (school_read h rows f l e c.index-filings-link.result) c.args.award)
    c.if-bound-kept.false
