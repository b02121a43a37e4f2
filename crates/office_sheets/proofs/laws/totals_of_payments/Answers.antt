use Rattle.std.proofs.Common.{◌≡◌, ◌+◌, ◌++◌, ◌∷◌, ℕ, List, length, reverse, sym, ap, subst, ◌∙◌}
use Rattle.std.proofs.lemmas.List.{length-reverse}
use Rattle.aid_filings.specs.declared.filing.Filing.{Filing}
use Rattle.std.specs.List.{Contains}
use Rattle.office_history.proofs.Oldest.{reverse-middle}
use Rattle.office_sheets.specs.PaymentLaws.{IsPaymentOf}
use Rattle.office_sheets.specs.Payments.{payment_rows}
use Rattle.office_sheets.specs.declared.payment_rows.PaymentRow.{PaymentRow}
use Rattle.office_sheets.proofs.PaymentLaws.{last_is_net, payment_has_row}
use Rattle.office_sheets.proofs.laws.totals_of_payments.Goals as goal

pub returns-clause-totals : goal.returns-clause-totals
returns-clause-totals c school year term program =
    last_is_net school year term program (reverse c.args.history.now) (reverse c.args.stamps.now) (length-reverse c.args.stamps.now ∙ c.requires ∙ sym (length-reverse c.args.history.now))

pub returns-clause-payments : goal.returns-clause-payments
returns-clause-payments c school year term before after filing amount split pays is =
    let h = c.args.history.now in
    let turned : reverse h ≡ reverse after ++ filing ∷ reverse before =
    ap (λ (l : List Filing). reverse l) split ∙ reverse-middle before after filing in
    let many = length-reverse c.args.stamps.now ∙ c.requires ∙ sym (length-reverse h) ∙ ap (λ (l : List Filing). length l) turned in
    let found = payment_has_row school year term (reverse after) (reverse before) (reverse c.args.stamps.now) filing amount many pays is in
    subst (λ (l : List Filing). (row : PaymentRow) × Contains (payment_rows school year term l (reverse c.args.stamps.now)) row × IsPaymentOf (length before + 1) filing amount row) (sym turned)
    (subst (λ (n : ℕ). (row : PaymentRow) × Contains (payment_rows school year term (reverse after ++ filing ∷ reverse before) (reverse c.args.stamps.now)) row × IsPaymentOf (n + 1) filing amount row) (length-reverse before) found)
