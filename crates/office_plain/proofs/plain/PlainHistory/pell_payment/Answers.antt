use Rattle.std.proofs.Common.{rules, ◌∙◌}
use borrow.Author.Tests.{tests}
use Rattle.office_history.specs.Past.{given, pell_payment_in}
use Rattle.office_plain.proofs.Earliest.{asked}
use Rattle.office_plain.proofs.plain.PlainHistory.pell_payment.Goals as goal

pub returns : goal.returns
returns c =
    c.first-position.ensures.position (λ f. given (pell_payment_in c.args.student f.what) tt) (λ x r k. search (rules, tests))
    ∙ asked (λ f. pell_payment_in c.args.student f.what) c.args.self.now
