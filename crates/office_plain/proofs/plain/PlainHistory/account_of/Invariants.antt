use Rattle.std.proofs.Common.{◌≡◌, is_some, reverse, take}
use Rattle.office_history.specs.Accounts.{IsAccount}
use Rattle.office_history.specs.Past.{the_withdrawal}
use Rattle.office_plain.proofs.plain.PlainHistory.account_of.Given as goal

abbrev pub invariant-loop-index : goal.invariant-loop-index
invariant-loop-index l = record {
  account : IsAccount (reverse (take l.index l.filings)) l.place.school l.place.student l.place.year l.place.term l.so_far;
  withdrawn : l.withdrawn ≡ is_some (the_withdrawal (reverse (take l.index l.filings)) l.place.school l.place.student l.place.year l.place.term);
}
