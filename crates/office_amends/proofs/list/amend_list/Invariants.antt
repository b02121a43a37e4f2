use Rattle.std.proofs.Common.{◌≤◌, ◌*◌, reverse, take}
use Rattle.log_stamps.specs.Entries.{stamped}
use Rattle.office_amends.specs.Amended.{corrected}
use Rattle.office_amends.specs.Stood.{Makes}
use Rattle.office_amends.specs.Texts.{told_corrected}
use Rattle.office_amends.proofs.list.amend_list.Given as goal

abbrev pub invariant-loop-index : goal.invariant-loop-index
invariant-loop-index l =
    (l.made.position ≤ 20000000 * l.index)
    × (let past = stamped (reverse (take l.index l.filings)) (reverse (take l.index l.stamps)) in Makes (corrected l.stamp l.corrections past) (told_corrected l.stamp l.corrections past) l.made)
