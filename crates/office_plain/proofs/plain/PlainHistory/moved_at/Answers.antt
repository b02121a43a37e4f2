use Rattle.std.proofs.Common.{refl, sym, ◌∙◌}
use Rattle.aid_types.specs.Programs.{six}
use Rattle.office_history.specs.Net.{cell_at, is_cell, moved, net_at, payments_in, takings_in}
use Rattle.office_plain.proofs.Moves.{moved-elsewhere, moved-there}
use Rattle.office_history.proofs.Own.{moves-in}
use Rattle.office_plain.proofs.plain.PlainHistory.moved_at.Goals as goal

pub returns-in-Some-clause-paid : goal.returns-in-Some-clause-paid
returns-in-Some-clause-paid c =
    let f = c.args.filing.now in
    let o = c.in-Some.own in
    let past = c.args.self.now in
    let ms = payments_in f.key f.what in
    c.cents_moved.ensures.paid
    ∙ moved-there c.args.whole.now c.args.cells.now o ms (six (λ p. moved (is_cell (cell_at o.school o.student o.year o.term p)) ms))
    (moves-in past f.key f.what o (sym c.of.ensures ∙ c.in-Some.is)).paid refl (sym c.has.ensures.value ∙ c.if-has.true)

pub returns-in-Some-clause-taken : goal.returns-in-Some-clause-taken
returns-in-Some-clause-taken c =
    let f = c.args.filing.now in
    let o = c.in-Some.own in
    let past = c.args.self.now in
    let ms = takings_in past (net_at past) f.key f.what in
    c.cents_moved.ensures.taken
    ∙ moved-there c.args.whole.now c.args.cells.now o ms (six (λ p. moved (is_cell (cell_at o.school o.student o.year o.term p)) ms))
    (moves-in past f.key f.what o (sym c.of.ensures ∙ c.in-Some.is)).taken refl (sym c.has.ensures.value ∙ c.if-has.true)

pub returns-in_default-clause-paid : goal.returns-in_default-clause-paid
returns-in_default-clause-paid c =
    let f = c.args.filing.now in
    let o = c.in-Some.own in
    let past = c.args.self.now in
    sym (moved-elsewhere c.args.whole.now c.args.cells.now o (payments_in f.key f.what)
    (moves-in past f.key f.what o (sym c.of.ensures ∙ c.in-Some.is)).paid (sym c.has.ensures.value ∙ c.if-has.false))

pub returns-in_default-clause-taken : goal.returns-in_default-clause-taken
returns-in_default-clause-taken c =
    let f = c.args.filing.now in
    let o = c.in-Some.own in
    let past = c.args.self.now in
    sym (moved-elsewhere c.args.whole.now c.args.cells.now o (takings_in past (net_at past) f.key f.what)
    (moves-in past f.key f.what o (sym c.of.ensures ∙ c.in-Some.is)).taken (sym c.has.ensures.value ∙ c.if-has.false))
