use Rattle.std.proofs.Common.{◌≡◌, ◌+◌, drop}
use Rattle.aid_books.specs.Marginal.{IsBracket}
use Rattle.format_books.specs.Tables.{break_from, continues}
use Rattle.format_books.proofs.tables.later_break.Given as goal

abbrev pub invariant-loop-index : goal.invariant-loop-index
invariant-loop-index l =
    IsBracket l.row × (break_from continues 2 l.first l.rest ≡ break_from continues (l.index + 2) l.row (drop l.index l.rest))
