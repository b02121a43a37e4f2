use Rattle.std.proofs.Common.{rules, ◌∙◌}
use borrow.Author.Tests.{tests}
use Rattle.office_history.specs.FiledTerms.{is_overlapping}
use Rattle.office_history.specs.Past.{given}
use Rattle.office_history.proofs.FiledTerms.{overlap_place}
use Rattle.office_plain.proofs.Earliest.{asked}
use Rattle.office_plain.proofs.plain.PlainHistory.overlap.Goals as goal

pub returns : goal.returns
returns c =
    c.first-position.ensures.position (λ f. given (is_overlapping c.args.school c.args.term.now f.key.school f.what) tt) (λ x r k. search (rules, tests))
    ∙ asked (λ f. is_overlapping c.args.school c.args.term.now f.key.school f.what) c.args.self.now
    ∙ overlap_place c.args.school c.args.term.now c.args.self.now
