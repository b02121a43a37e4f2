use Rattle.std.proofs.Common.{length}
use Rattle.office_amends.proofs.list.+named_at.Given as goal

abbrev pub decreases-named_at : goal.decreases-named_at
decreases-named_at l = length l.corrections.now
