use Rattle.std.proofs.Common.{reverse, ap, subst, sym, ◌∙◌}
use Rattle.law_work.specs.Rows.{AreSmallFunds, fund_or}
use Rattle.law_work.specs.declared.rows.FundRow.{FundRow}
use Rattle.law_work.proofs.Small.{facts_small}
use Rattle.law_work.proofs.index.WorkIndex.fund.Goals as goal

pub returns-clause-small : goal.returns-clause-small
returns-clause-small c =
    let name = c.args.name.now in
    let small = facts_small (reverse c.self.inside.filings.items) c.self.invariant.0.allowed name.school name.year 0 in
    let told = c.fund_told.ensures ∙ ap fund_or c.at.ensures ∙ c.self.invariant.0.funds_told name in
    subst (λ (row : FundRow). AreSmallFunds row) (sym told) (small.0, small.1)
