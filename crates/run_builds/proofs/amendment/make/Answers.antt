use Rattle.std.proofs.Common.{refl}
use Rattle.run_builds.proofs.Made.{made_of_all, made_of_none}
use Rattle.run_builds.proofs.amendment.make.Goals as goal

pub returns-in-NotMade-clause-makes : goal.returns-in-NotMade-clause-makes
returns-in-NotMade-clause-makes g c past stamp number bytes plans =
    made_of_none g.B.Disk past stamp number bytes c.args.target c.in-NotMade.text c.args.target refl (rw c.in-NotMade.is at plans)

pub returns-in-Made-clause-makes : goal.returns-in-Made-clause-makes
returns-in-Made-clause-makes g c past stamp number bytes plans =
    made_of_all g.B.Disk past stamp number bytes c.args.target c.build_office-ended.result.1 c.in-Made.made c.into_filings.result.items c.build_office-ended.result.0 c.ended_amendment.result
    (rw c.in-Made.is at plans) c.into_filings.ensures c.build_office-ended.ensures.builds c.ended_amendment.ensures.value
