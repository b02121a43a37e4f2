use Rattle.std.proofs.Common.{rules, ◌∙◌}
use borrow.Author.Tests.{tests}
use Rattle.std.specs.Prelude.{is_some}
use Rattle.office_history.specs.Past.{book_in, given}
use Rattle.office_plain.proofs.Earliest.{asked}
use Rattle.office_plain.proofs.plain.PlainHistory.book_place.Goals as goal

pub returns : goal.returns
returns c =
    c.first-position.ensures.position (λ f. given (is_some (book_in c.args.year f.what)) tt) (λ x r k. search (rules, tests))
    ∙ asked (λ f. is_some (book_in c.args.year f.what)) c.args.self.now
