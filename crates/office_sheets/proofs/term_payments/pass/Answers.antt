use Rattle.std.proofs.Common.{◌≡◌, sym, ap, ◌∙◌, false, Option, List}
use Rattle.aid_filings.specs.declared.filing.Filing.{Filing}
use Rattle.office_history.specs.Own.{own_place}
use Rattle.office_history.specs.declared.place.Place.{Place}
use Rattle.office_sheets.specs.Payments.{is_of_term}
use Rattle.office_sheets.specs.TermSums.{term_sums}
use Rattle.office_sheets.proofs.TermSums.{sums_same}
use Rattle.office_sheets.proofs.term_payments.pass.Goals as goal
use Rattle.office_sheets.proofs.term_payments.pass.Goals.{in_default-via-in-Some+else-has, in_default-via-in_default}

pub returns-in_ok-grow-in_default-clause-sums : goal.returns-in_ok-grow-in_default-clause-sums
returns-in_ok-grow-in_default-clause-sums c =
    let t = c.args.asked.now in
    let f = c.args.filing.now in
    let past = c.args.past.now.history in
    let elsewhere : is_of_term t.school t.year t.term (own_place f.key f.what) ≡ false =
    elim c.in_default.branch [
      | in_default-via-in-Some+else-has w ↦
          ap (λ (o : Option Place). is_of_term t.school t.year t.term o) (sym c.of.ensures ∙ w.in-Some.is) ∙ sym w.has.ensures ∙ w.if-has.false
      | in_default-via-in_default w ↦ ap (λ (o : Option Place). is_of_term t.school t.year t.term o) (sym c.of.ensures ∙ w.in_default.is)
    ] in
    c.requires.sums ∙ sums_same past f t.school t.year t.term elsewhere
    ∙ ap (λ (h : List Filing). term_sums h t.school t.year t.term) (sym c.in_ok-grow-in_default.ensures.history)
