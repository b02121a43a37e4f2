use Rattle.std.proofs.Common.{ap, ◌∙◌}
use Rattle.office_answers.specs.Brought.{awarded}
use Rattle.office_index.proofs.OutcomeAwards.{award_told}
use Rattle.office_index.proofs.written.rows_after.Goals as goal

pub year_after-year_written-requires-clause-award : goal.year_after-year_written-requires-clause-award
year_after-year_written-requires-clause-award g c = λ a is.
    c.award_in.ensures ∙ ap awarded c.requires.outcome ∙ award_told (g.P.HistoryView.history c.args.past.now) c.args.filing.now a is c.requires.legal.2
