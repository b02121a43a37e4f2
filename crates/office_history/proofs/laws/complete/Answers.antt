use Rattle.std.proofs.Common.{reverse, ap, ◌∙◌}
use Rattle.office_history.specs.Answer.{judged}
use Rattle.office_history.proofs.Cases.{answer_of-new}
use Rattle.office_history.proofs.Legal.{filing_at-new}
use Rattle.office_history.proofs.laws.complete.Goals as goal

pub returns : goal.returns
returns c =
    let past = reverse c.args.history.now in
    let f = c.args.filing.now in
    answer_of-new past f (filing_at-new past f c.requires.new) c.requires.new ∙ ap (judged past f) c.requires.sound
