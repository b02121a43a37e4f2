use Rattle.std.proofs.Common.{◌≡◌, ◌+◌, drop}
use Rattle.format_books.specs.Tables.{break_from, is_older}
use Rattle.format_books.proofs.tables.later_age_break.Given as goal

abbrev pub invariant-loop-index : goal.invariant-loop-index
invariant-loop-index l =
    break_from is_older 2 l.first l.rest ≡ break_from is_older (l.index + 2) l.row (drop l.index l.rest)
