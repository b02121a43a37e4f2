use Rattle.std.proofs.Common.{rules, ◌∙◌}
use borrow.Author.Tests.{tests}
use Rattle.office_history.specs.Past.{given, same_key}
use Rattle.office_plain.proofs.Earliest.{asked}
use Rattle.office_plain.proofs.plain.PlainHistoryHistoryView.key_at.Goals as goal

pub returns-clause-value : goal.returns-clause-value
returns-clause-value g c =
    c.first-position.ensures.position (λ f. given (same_key c.args.key.now f.key) tt) (λ x r k. search (rules, tests))
    ∙ asked (λ f. same_key c.args.key.now f.key) c.args.self.now
