use Rattle.std.proofs.Common.{reverse}
use Rattle.office_rounds.proofs.Within.{planned_whole, planned_within}
use Rattle.office_rounds.proofs.laws.round_is_within_fund.Goals as goal

pub returns : goal.returns
returns g c = record {
  whole = planned_whole _ (reverse c.args.history.now) c.args.request.now c.args.filings.now c.args.left c.requires;
  within = planned_within _ (reverse c.args.history.now) c.args.request.now c.args.filings.now c.args.left c.requires;
}
