use Rattle.std.proofs.Common.{rules}
use Rattle.std.specs.Prelude.{is_some}
use Rattle.std.proofs.lemmas.List.Folds.{list_all-map}
use Rattle.std.proofs.lemmas.List.{length-map}
use Rattle.toml.specs.Data.{as_integer, as_table}
use Rattle.toml.specs.View.{view}
use Rattle.format_books.proofs.reading.is_of_kind.Goals as goal

pub returns-then-items-count : goal.returns-then-items-count
returns-then-items-count c =
    rw (c.in-Some.is, c.in-Integers.is, ← c.items_in-items.ensures, list_all-map (λ d. is_some (as_integer d)) view c.items_in-items.result.now) (search (rules, length-map))

pub returns-then-is_some-2 : goal.returns-then-is_some-2
returns-then-is_some-2 c =
    rw (c.in-Some.is, c.in-Tables.is, ← c.items_in-items.ensures, list_all-map (λ d. is_some (as_table d)) view c.items_in-items.result.now) (search rules)
