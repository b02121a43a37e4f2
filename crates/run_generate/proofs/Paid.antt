-- Two payments with the same parts are equal.
use Rattle.std.proofs.Common.{◌≡◌, ℕ, zero, suc, List, refl, ap}
use Rattle.aid_filings.proofs.SameFiling.{amount_parts, amount_whole}
use Rattle.aid_filings.specs.declared.filing.Amount.{Amount}
use Rattle.aid_filings.specs.declared.filing.Filing.{Filing}
use Rattle.aid_filings.specs.declared.filing.What.TheVariants.{Pay}
use Rattle.aid_filings.specs.declared.reply.Operation.{Operation}
use Rattle.aid_filings.specs.declared.reply.Operation.TheVariants as operations
use Rattle.aid_filings.specs.declared.reply.Response.{Response}
use Rattle.aid_types.specs.declared.number.Key.{Key}
use Rattle.log_machine.specs.Scheme.{Semantics}
use Rattle.run_generate.specs.Payments.{paid, paid_adds, payable, payment}
use Rattle.run_generate.specs.declared.operation.QuotePayment.{QuotePayment}
use Rattle.run_generate.specs.declared.operation.YearResponse.TheVariants.{Paid}

abbrev pub pays : Key → Amount → Filing
pays key amount = record { key = key; what = Pay amount }

pub same_payment : (key : Key) (a b : Amount) → amount_parts a ≡ amount_parts b → pays key a ≡ pays key b
same_payment key a b same = ap (λ (x : Amount). pays key x) (amount_whole a b same)

-- how the payment of a quote that isn't 0 is judged, and what it adds
pub paid_at : (office : Semantics Filing Operation Response) (past : List Filing) (pay : QuotePayment) (quote : ℕ) → (quote ≡ 0 → ⊥) → paid office past pay quote ≡ Paid (payable quote) (office.answer past (operations.File (payment pay quote)))
paid_at office past pay zero some = absurd (some refl)
paid_at office past pay (suc n) some = refl

pub adds_at : (office : Semantics Filing Operation Response) (past : List Filing) (pay : QuotePayment) (quote : ℕ) → (quote ≡ 0 → ⊥) → paid_adds office past pay quote ≡ office.added past (operations.File (payment pay quote))
adds_at office past pay zero some = absurd (some refl)
adds_at office past pay (suc n) some = refl
