-- What an office makes of a generated year's asks.
use Rattle.std.specs.Prelude.{ℕ, zero, suc, min, List, Option, Some, None}
use Rattle.std.proofs.Math.Nat.{min-le_right}
use Rattle.aid_filings.specs.declared.filing.Filing.{Filing}
use Rattle.aid_filings.specs.declared.filing.What.TheVariants.{Pay}
use Rattle.aid_filings.specs.declared.reply.Operation.{Operation}
use Rattle.aid_filings.specs.declared.reply.Operation.TheVariants as operations
use Rattle.aid_filings.specs.declared.reply.Response.{Response}
use Rattle.aid_filings.specs.declared.reply.Response.TheVariants.{Quoted}
use Rattle.aid_types.specs.declared.number.Program.TheVariants.{Pell}
use Rattle.log_machine.specs.Scheme.{Semantics}
use Rattle.run_generate.specs.declared.operation.QuotePayment.{QuotePayment}
use Rattle.run_generate.specs.declared.operation.YearOperation.{YearOperation}
use Rattle.run_generate.specs.declared.operation.YearOperation.TheVariants.{File, PayQuote}
use Rattle.run_generate.specs.declared.operation.YearResponse.{YearResponse}
use Rattle.run_generate.specs.declared.operation.YearResponse.TheVariants.{Filed, Paid, NothingToPay}

-- the cents of a quote as those of a filing, which has 99,999,999 at most; a quote never has more
abbrev pub payable : ℕ → ℕ
payable quote = min quote 99999999

-- the filing that pays a quote
abbrev pub payment : QuotePayment → ℕ → Filing
payment pay quote = record {
  key = pay.key;
  what = Pay (record { student = pay.student; year = pay.year; term = pay.term; program = Pell; cents = payable quote; in_range = (pay.in_range, min-le_right quote 99999999) });
}

-- the cents that an office quotes
abbrev pub quoted : Response → ℕ
quoted (Quoted cents) = cents
quoted _ = 0

-- what an office quotes for a payment
abbrev pub quote_for : Semantics Filing Operation Response → List Filing → QuotePayment → ℕ
quote_for office past pay = quoted (office.answer past (operations.Quote pay.key.school pay.student pay.year pay.term))

-- how the payment of a quote is judged
abbrev pub paid : Semantics Filing Operation Response → List Filing → QuotePayment → ℕ → YearResponse
paid office past pay zero = NothingToPay
paid office past pay (suc n) = Paid (payable (suc n)) (office.answer past (operations.File (payment pay (suc n))))

abbrev pub year_answer : Semantics Filing Operation Response → List Filing → YearOperation → YearResponse
year_answer office past (File filing) = Filed (office.answer past (operations.File filing))
year_answer office past (PayQuote pay) = paid office past pay (quote_for office past pay)

-- what it adds
abbrev pub paid_adds : Semantics Filing Operation Response → List Filing → QuotePayment → ℕ → Option Filing
paid_adds office past pay zero = None
paid_adds office past pay (suc n) = office.added past (operations.File (payment pay (suc n)))

abbrev pub year_added : Semantics Filing Operation Response → List Filing → YearOperation → Option Filing
year_added office past (File filing) = office.added past (operations.File filing)
year_added office past (PayQuote pay) = paid_adds office past pay (quote_for office past pay)

-- the whole judging, by that of an office
abbrev pub year_semantics : Semantics Filing Operation Response → Semantics Filing YearOperation YearResponse
year_semantics office = record { answer = year_answer office; added = year_added office }
