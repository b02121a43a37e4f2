use Rattle.std.proofs.Common.{◌∷◌, ◌++◌, List, ap, arith, ◌∙◌}
use Rattle.std.specs.Prelude.{slice_index}
use Rattle.std.proofs.lemmas.Result.{on_ok_weaker}
use Rattle.aid_filings.specs.declared.filing.Filing.{Filing}
use Rattle.office_sheets.specs.Payments.{payments_told}
use Rattle.office_sheets.specs.declared.payment_rows.PaymentRow.{PaymentRow}
use Rattle.office_sheets.specs.declared.term_sums.Sums.{Sums}
use Rattle.office_sheets.proofs.TermSums.{more_is, paid_fits, sums_then, taken_fits, told_by}
use Rattle.office_sheets.proofs.term_payments.pass_movement.Goals as goal

pub both-requires-clause-paid : goal.both-requires-clause-paid
both-requires-clause-paid c q =
    let sums = ap (λ (s : Sums). slice_index s.paid q) c.requires.sums in
    let more = ap (λ (s : Sums). slice_index s.paid q) (more_is c.args.past.now.history _ c.args.filing.now c.args.place.now _ _ _ c.in_ok-grow.ensures.history c.at-before.ensures c.at.ensures c.rest-more.ensures) in
    omega (arith, sums, more, paid_fits c.args.past.now.history c.args.filing.now c.args.place.now c.requires.own c.requires.legal q)

pub both-requires-clause-taken : goal.both-requires-clause-taken
both-requires-clause-taken c q =
    let sums = ap (λ (s : Sums). slice_index s.taken q) c.requires.sums in
    let more = ap (λ (s : Sums). slice_index s.taken q) (more_is c.args.past.now.history _ c.args.filing.now c.args.place.now _ _ _ c.in_ok-grow.ensures.history c.at-before.ensures c.at.ensures c.rest-more.ensures) in
    omega (arith, sums, more, taken_fits c.args.past.now.history c.args.filing.now c.args.place.now c.requires.own c.requires.legal q)

pub put_movements-requires-clause-sums : goal.put_movements-requires-clause-sums
put_movements-requires-clause-sums c =
    sums_then c.args.past.now.history _ c.args.filing.now c.args.place.now c.requires.own c.args.sums.now c.rest-more.result c.both.result c.in_ok-grow.ensures.history c.requires.sums
    (more_is c.args.past.now.history _ c.args.filing.now c.args.place.now _ _ _ c.in_ok-grow.ensures.history c.at-before.ensures c.at.ensures c.rest-more.ensures) c.both.ensures

pub returns-clause-sums : goal.returns-clause-sums
returns-clause-sums c =
    on_ok_weaker c.put_movements.result
    (λ told. sums_then c.args.past.now.history _ c.args.filing.now c.args.place.now c.requires.own c.args.sums.now c.rest-more.result c.both.result c.in_ok-grow.ensures.history c.requires.sums
    (more_is c.args.past.now.history _ c.args.filing.now c.args.place.now _ _ _ c.in_ok-grow.ensures.history c.at-before.ensures c.at.ensures c.rest-more.ensures) c.both.ensures)
    c.put_movements.ensures

pub returns-clause-rows : goal.returns-clause-rows
returns-clause-rows c =
    let past = c.args.past.now.history in
    let f = c.args.filing.now in
    let stamp = c.args.stamp.now in
    let old = c.args.rows.now.items in
    let more = more_is past _ f c.args.place.now _ _ _ c.in_ok-grow.ensures.history c.at-before.ensures c.at.ensures c.rest-more.ensures in
    on_ok_weaker c.put_movements.result
    (λ told. told ∙ ap (λ (h : List Filing). old ++ payments_told h stamp f c.rest-more.result.taken f.what) c.in_ok-grow.ensures.history
    ∙ ap (λ (s : Sums). old ++ payments_told (f ∷ past) stamp f s.taken f.what) more
    ∙ ap (λ (rows : List PaymentRow). old ++ rows) (told_by past f c.args.place.now c.requires.own (f ∷ past) stamp))
    c.put_movements.ensures
