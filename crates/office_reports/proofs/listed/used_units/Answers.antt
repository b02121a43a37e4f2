use Rattle.std.proofs.Common.{ap, ◌∙◌}
use Rattle.aid_filings.specs.declared.reply.StandingRow.{StandingRow}
use Rattle.office_reports.proofs.Standing.{standing_used}
use Rattle.office_reports.proofs.listed.used_units.Goals as goal

pub returns : goal.returns
returns c = ap (λ (row : StandingRow). row.used) c.standing.ensures.value ∙ standing_used c.args.office.now.history c.args.student 2000
