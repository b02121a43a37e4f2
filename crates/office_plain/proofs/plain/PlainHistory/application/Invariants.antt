use Rattle.std.proofs.Common.{◌≡◌, reverse, take}
use Rattle.office_history.specs.Past.{application}
use Rattle.office_history.specs.Positions.{application_at}
use Rattle.office_plain.proofs.plain.PlainHistory.application.Given as goal

abbrev pub invariant-loop-index : goal.invariant-loop-index
invariant-loop-index l = record {
  position : l.position ≡ application_at (reverse (take l.index l.filings)) l.student l.year;
  standing : l.standing ≡ application (reverse (take l.index l.filings)) l.student l.year;
}
