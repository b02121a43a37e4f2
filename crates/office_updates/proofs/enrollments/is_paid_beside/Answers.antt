use Rattle.std.proofs.Common.{◌≡◌, ◌<◌, ◌∙◌, ap, sym, arith, reverse, Some, None, false, ne_eqb}
use Rattle.std.specs.Prelude.{◌==◌}
use Rattle.office_history.specs.Net.{pell_term}
use Rattle.office_history.specs.declared.names.StudentPlace.{StudentPlace}
use Rattle.office_updates.proofs.EnrollmentsRows.{beside_shares, name_read, not_beside_unpaid, pell_read, row_read, term_inside, term_read}
use Rattle.office_updates.proofs.enrollments.is_paid_beside.Goals as goal

pub bounds-filings-link : goal.bounds-filings-link
bounds-filings-link g c = term_inside c.args.filings.now c.requires.1 c.requires.0 c.args.link.now c.requires.2

-- where no net Pell stands
pub returns-then-net-eq0-clause-value : goal.returns-then-net-eq0-clause-value
returns-then-net-eq0-clause-value g c = λ f student rows are e here value own.
    let h = c.args.filings.now in
    let place = c.args.place.now in
    let row = row_read h rows f c.args.link.now e are place.0 place.1 here value in
    let pell = pell_read h rows f c.args.link.now e place.1 row in
    not_beside_unpaid (reverse h) rows f c.args.link.now e student own c.args.school c.args.this.now (sym pell ∙ sym c.net.ensures ∙ c.if-net-eq0.true)

-- where some stands at another school, by the term at the position that the link tells
pub returns-in-Some-clause-value : goal.returns-in-Some-clause-value
returns-in-Some-clause-value g c = λ f student rows are e here value own.
    let h = c.args.filings.now in
    let l = c.args.link.now in
    let place = c.args.place.now in
    let pell = pell_read h rows f l e place.1 (row_read h rows f l e are place.0 place.1 here value) in
    let some : 0 < pell_term (reverse h) f.key.school e.facts.student e.facts.year e.facts.term = omega (arith, c.net.ensures, c.if-net-eq0.false, pell) in
    let named = ap (λ (name : StudentPlace). name.school) (name_read h rows f l e place.0 place.1 here) in
    let other : (f.key.school == c.args.school) ≡ false = ne_eqb f.key.school c.args.school (λ same. c.if-place-school.false (named ∙ same ∙ sym c.school.view_is)) in
    c.shares_day.ensures
    ∙ beside_shares (reverse h) rows f l e student own c.args.school c.args.this.now other some (Some c.in-Some.term) (c.in-Some.ensures ∙ term_read h rows f l e c.index-filings-link.result)

pub returns-in-None-clause-value : goal.returns-in-None-clause-value
returns-in-None-clause-value g c = λ f student rows are e here value own.
    let h = c.args.filings.now in
    let l = c.args.link.now in
    let place = c.args.place.now in
    let pell = pell_read h rows f l e place.1 (row_read h rows f l e are place.0 place.1 here value) in
    let some : 0 < pell_term (reverse h) f.key.school e.facts.student e.facts.year e.facts.term = omega (arith, c.net.ensures, c.if-net-eq0.false, pell) in
    let named = ap (λ (name : StudentPlace). name.school) (name_read h rows f l e place.0 place.1 here) in
    let other : (f.key.school == c.args.school) ≡ false = ne_eqb f.key.school c.args.school (λ same. c.if-place-school.false (named ∙ same ∙ sym c.school.view_is)) in
    beside_shares (reverse h) rows f l e student own c.args.school c.args.this.now other some None (c.in-None.ensures ∙ term_read h rows f l e c.index-filings-link.result)
