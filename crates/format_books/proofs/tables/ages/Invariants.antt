use Rattle.std.proofs.Common.{◌≡◌, ◌++◌, drop, map}
use Rattle.toml.specs.View.{view}
use Rattle.format_books.specs.Tables.{age_row_of}
use Rattle.format_books.proofs.tables.ages.Given as goal

abbrev pub invariant-loop-row : goal.invariant-loop-row
invariant-loop-row l =
    map age_row_of (map view l.rows) ≡ l.ages.items ++ map age_row_of (map view (drop l.row-index l.rows))
