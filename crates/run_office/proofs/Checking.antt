-- Rows that are looked at make no call on the disk.
use Rattle.std.proofs.Common.{◌≡◌, false, Result, refl}
use Rattle.log_session.specs.Edges.{Input, Output}
use Rattle.log_session.specs.declared.checking.CheckStop.{CheckStop}
use Rattle.log_session.specs.declared.checking.CheckTally.{CheckTally}
use Rattle.log_runs.specs.Statuses.{is_disk_fault}
use Rattle.log_runs.specs.declared.stop.RunStop.{RunStop}
use Rattle.run_office.specs.Ran.{ChecksRows, Tallies, tallied, unwritten, starved, stopped, from}
use Rattle.run_office.specs.Ran as run

tallies_disk : (output : Output) (checked : Result CheckTally CheckStop) (ended : Result Unit RunStop) → Tallies output checked ended → is_disk_fault ended ≡ false
tallies_disk output checked ended (tallied tally wrote) = refl
tallies_disk output checked ended (unwritten tally cut) = refl
tallies_disk output checked ended (starved tally same) = refl
tallies_disk output checked ended (stopped stop same) = refl

pub rows_disk : (input : Input) (output : Output) (ended : Result Unit RunStop) → ChecksRows input output ended → is_disk_fault ended ≡ false
rows_disk input output ended (run.looked_at text checked _ checks tallies) = tallies_disk (from text output) checked ended tallies
