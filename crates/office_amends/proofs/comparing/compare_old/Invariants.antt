use Rattle.std.proofs.Common.{◌≤◌, reverse, take}
use Rattle.log_stamps.specs.Entries.{stamped}
use Rattle.office_amends.specs.Changes.{HasCompared, of_old}
use Rattle.office_amends.proofs.comparing.compare_old.Given as goal

abbrev pub invariant-loop-index : goal.invariant-loop-index
invariant-loop-index l =
    (l.told.same ≤ l.index) × (l.told.differ ≤ l.index)
    × HasCompared (of_old (stamped l.new.history (reverse l.new_stamps)) (stamped (reverse (take l.index l.filings)) (reverse (take l.index l.old_stamps)))) l.told
