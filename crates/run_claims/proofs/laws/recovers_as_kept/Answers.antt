use Rattle.run_claims.proofs.Office.{from_kept, to_kept}
use Rattle.run_claims.proofs.laws.recovers_as_kept.Goals as goal

pub returns-clause-kept : goal.returns-clause-kept
returns-clause-kept c file history is = to_kept file history is

pub returns-clause-plain : goal.returns-clause-plain
returns-clause-plain c file history is = from_kept file history is
