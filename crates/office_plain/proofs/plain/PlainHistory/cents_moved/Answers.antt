use Rattle.std.proofs.Common.{◌≡◌, ap, sym, ◌∙◌, Some}
use Rattle.aid_types.specs.Programs.{six}
use Rattle.aid_filings.specs.declared.filing.What.{What}
use Rattle.aid_filings.specs.declared.filing.What.TheVariants.{Pay, Repay, Adjust}
use Rattle.office_history.specs.Net.{cell_at, is_cell, moved, net_at, payments_in, takings_in}
use Rattle.office_history.specs.Own.{own_place}
use Rattle.office_plain.specs.CellTests.{cents_of}
use Rattle.office_plain.proofs.Moves.{taken-sums}
use Rattle.office_plain.proofs.OneProgram.{adjusted-there, paid-there, repaid-there}
use Rattle.office_plain.proofs.plain.PlainHistory.cents_moved.Goals as goal

pub cents_of-requires : goal.cents_of-requires
cents_of-requires c = taken-sums c.args.self.now c.args.filing.now c.args.own.now c.paid_and_taken-taken.result.1 c.requires.legal c.paid_and_taken-taken.ensures.taken

pub returns-in-Pay-clause-paid : goal.returns-in-Pay-clause-paid
returns-in-Pay-clause-paid c =
    let o = c.args.own.now in
    let a = c.in-Pay.amount in
    let f = c.args.filing.now in
    let own : own_place f.key (Pay a) ≡ Some o = ap (own_place f.key) (sym c.in-Pay.is) ∙ c.requires.own in
    c.cents_in.ensures ∙ ap (cents_of c.args.cells.now) (paid-there f.key a o own)
    ∙ ap (λ (what : What). cents_of c.args.cells.now (six (λ p. moved (is_cell (cell_at o.school o.student o.year o.term p)) (payments_in f.key what)))) (sym c.in-Pay.is)

pub returns-in-Repay-clause-taken : goal.returns-in-Repay-clause-taken
returns-in-Repay-clause-taken c =
    let o = c.args.own.now in
    let a = c.in-Repay.amount in
    let f = c.args.filing.now in
    let own : own_place f.key (Repay a) ≡ Some o = ap (own_place f.key) (sym c.in-Repay.is) ∙ c.requires.own in
    c.cents_in-in-Repay.ensures ∙ ap (cents_of c.args.cells.now) (repaid-there c.args.self.now (net_at c.args.self.now) f.key a o own)
    ∙ ap (λ (what : What). cents_of c.args.cells.now (six (λ p. moved (is_cell (cell_at o.school o.student o.year o.term p)) (takings_in c.args.self.now (net_at c.args.self.now) f.key what)))) (sym c.in-Repay.is)

pub returns-in-Adjust-clause-taken : goal.returns-in-Adjust-clause-taken
returns-in-Adjust-clause-taken c =
    let o = c.args.own.now in
    let a = c.in-Adjust.amount in
    let f = c.args.filing.now in
    let own : own_place f.key (Adjust a) ≡ Some o = ap (own_place f.key) (sym c.in-Adjust.is) ∙ c.requires.own in
    c.cents_in-in-Adjust.ensures ∙ ap (cents_of c.args.cells.now) (adjusted-there c.args.self.now (net_at c.args.self.now) f.key a o own)
    ∙ ap (λ (what : What). cents_of c.args.cells.now (six (λ p. moved (is_cell (cell_at o.school o.student o.year o.term p)) (takings_in c.args.self.now (net_at c.args.self.now) f.key what)))) (sym c.in-Adjust.is)
