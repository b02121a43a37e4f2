use Rattle.std.proofs.Common.{◌≡◌, ◌+◌}
use Rattle.office_history.specs.Net.{use_in, used}
use Rattle.office_plain.proofs.YearSums.{years_from}
use Rattle.office_plain.proofs.plain.PlainHistory.used.Given as goal

abbrev pub invariant-loop-year : goal.invariant-loop-year
invariant-loop-year l = l.units + years_from (use_in l.self l.student) l.year ≡ used l.self l.student
