use Rattle.std.proofs.Common.{length}
use Rattle.csv.specs.Reading.{default_config, records, strip_bom}
use Rattle.office_amends.proofs.Gathering.{IsAt}
use Rattle.office_amends.proofs.gathered.corrections_of.Given as goal

abbrev pub invariant-loop-gathered : goal.invariant-loop-gathered
invariant-loop-gathered l = IsAt l.old.history l.number (records default_config (strip_bom l.fn.text.items)) l.rows l.row l.gathered

abbrev pub decreases-loop-gathered : goal.decreases-loop-gathered
decreases-loop-gathered l = length l.rows
