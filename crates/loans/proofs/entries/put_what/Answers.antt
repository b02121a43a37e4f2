use Rattle.law_loans.specs.declared.filing.LoanWhat.TheVariants.{Limits, Borrower, Before, Lend, Cancel}
use Rattle.loans.proofs.Fit.{what_fits}
use Rattle.loans.proofs.entries.put_what.Goals as goal

pub returns-in-Limits-clause-in_range : goal.returns-in-Limits-clause-in_range
returns-in-Limits-clause-in_range c = what_fits c.args.what.now (Limits c.in-Limits.limits) c.in-Limits.is c.put_limits.ensures.in_range

pub returns-in-Borrower-clause-in_range : goal.returns-in-Borrower-clause-in_range
returns-in-Borrower-clause-in_range c = what_fits c.args.what.now (Borrower c.in-Borrower.record) c.in-Borrower.is c.put_borrower.ensures.in_range

pub returns-in-Before-clause-in_range : goal.returns-in-Before-clause-in_range
returns-in-Before-clause-in_range c = what_fits c.args.what.now (Before c.in-Before.before) c.in-Before.is c.put_before.ensures.in_range

pub returns-in-Lend-clause-in_range : goal.returns-in-Lend-clause-in_range
returns-in-Lend-clause-in_range c = what_fits c.args.what.now (Lend c.in-Lend.loan) c.in-Lend.is c.put_loan.ensures.in_range

pub returns-in-Cancel-clause-in_range : goal.returns-in-Cancel-clause-in_range
returns-in-Cancel-clause-in_range c = what_fits c.args.what.now (Cancel c.in-Cancel.loan) c.in-Cancel.is c.put_loan-in-Cancel.ensures.in_range
