use Rattle.std.proofs.Common.{◌≤◌, ◌+◌, reverse, take}
use Rattle.log_stamps.specs.Entries.{stamped}
use Rattle.office_amends.specs.Changes.{Differences, HasCompared, of_new}
use Rattle.office_amends.proofs.comparing.compare_new.Given as goal

abbrev pub invariant-loop-index : goal.invariant-loop-index
invariant-loop-index l =
    (l.told.differ ≤ 1000000 + l.index)
    × ((d : Differences) → HasCompared d l.initial.told
    → HasCompared (of_new (stamped l.old.history (reverse l.old_stamps)) d (stamped (reverse (take l.index l.filings)) (reverse (take l.index l.new_stamps)))) l.told)
