use Rattle.std.proofs.Common.{reverse, ap, subst, sym, ◌∙◌}
use Rattle.law_work.specs.Rows.{AreSmallAwards, award_or}
use Rattle.law_work.specs.declared.rows.AwardRow.{AwardRow}
use Rattle.law_work.proofs.Small.{facts_small}
use Rattle.law_work.proofs.index.WorkIndex.award.Goals as goal

pub returns-clause-small : goal.returns-clause-small
returns-clause-small c =
    let name = c.args.name.now in
    let small = facts_small (reverse c.self.inside.filings.items) c.self.invariant.0.allowed name.school name.year name.student in
    let told = c.award_told.ensures ∙ ap award_or c.at.ensures ∙ c.self.invariant.0.awards_told name in
    subst (λ (row : AwardRow). AreSmallAwards row) (sym told) (small.2, small.3)
