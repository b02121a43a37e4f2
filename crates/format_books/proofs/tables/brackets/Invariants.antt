use Rattle.std.proofs.Common.{◌≡◌, ◌++◌, drop, map}
use Rattle.toml.specs.View.{view}
use Rattle.format_books.specs.Tables.{bracket_of}
use Rattle.format_books.proofs.tables.brackets.Given as goal

abbrev pub invariant-loop-row : goal.invariant-loop-row
invariant-loop-row l =
    map bracket_of (map view l.rows) ≡ l.brackets.items ++ map bracket_of (map view (drop l.row-index l.rows))
