use Rattle.std.proofs.Common.{◌∙◌, arith}
use Rattle.log_journal.proofs.journal.Journal.settle.Goals as goal

pub returns-clause-kept : goal.returns-clause-kept
returns-clause-kept g c honest header h p keep = c.open.ensures.kept honest header h p keep (λ some. absurd (omega (arith, some)))

pub returns-clause-lengths : goal.returns-clause-lengths
returns-clause-lengths g c honest n each x now = let from = c.open.ensures.lengths honest x now in from.2 ∙ each from.0 from.1
