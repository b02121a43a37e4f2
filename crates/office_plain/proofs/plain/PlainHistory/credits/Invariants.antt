use Rattle.std.proofs.Common.{◌≡◌, reverse, take}
use Rattle.office_history.specs.Past.{credits}
use Rattle.office_plain.proofs.plain.PlainHistory.credits.Given as goal

abbrev pub invariant-loop-filing : goal.invariant-loop-filing
invariant-loop-filing l = l.last ≡ credits (reverse (take l.filing-index l.filings)) l.place.school l.place.student l.place.year l.place.term
