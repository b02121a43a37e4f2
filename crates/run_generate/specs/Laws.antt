-- What holds of the asks of a generated year in every office.
use Rattle.std.proofs.Common.{◌≡◌, ℕ, zero, suc, List, Option, Some, None, IsTrue}
use Rattle.aid_filings.specs.declared.filing.Filing.{Filing}
use Rattle.aid_filings.specs.declared.reply.Operation.{Operation}
use Rattle.aid_filings.specs.declared.reply.Operation.TheVariants as operations
use Rattle.aid_filings.specs.declared.reply.Response.{Response}
use Rattle.log_machine.specs.Scheme.{Scheme, Semantics}
use Rattle.run_generate.specs.declared.operation.YearOperation.{YearOperation}
use Rattle.run_generate.specs.declared.operation.YearOperation.TheVariants.{File, PayQuote}
use Rattle.run_generate.specs.Payments.{paid_adds, payment, quote_for, year_added}
use Rattle.run_generate.specs.declared.operation.QuotePayment.{QuotePayment}

module _ (scheme : Scheme Filing) (office : Semantics Filing Operation Response) (law : (past : List Filing) (operation : Operation) (filing : Filing) → office.added past operation ≡ Some filing → IsTrue (scheme.admits past filing)) where
  paid_admitted : (past : List Filing) (pay : QuotePayment) (quote : ℕ) (filing : Filing) → paid_adds office past pay quote ≡ Some filing → IsTrue (scheme.admits past filing)
  paid_admitted past pay zero filing is = absurd (let bad : ⊥ = cc in bad)
  paid_admitted past pay (suc n) filing is = law past (operations.File (payment pay (suc n))) filing is

  -- what an ask adds may follow
  pub year_added_admitted : (past : List Filing) (operation : YearOperation) (filing : Filing) → year_added office past operation ≡ Some filing → IsTrue (scheme.admits past filing)
  year_added_admitted past (File f) filing is = law past (operations.File f) filing is
  year_added_admitted past (PayQuote pay) filing is = paid_admitted past pay (quote_for office past pay) filing is
