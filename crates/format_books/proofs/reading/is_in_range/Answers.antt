use Rattle.std.proofs.Common.{Some, rules}
use Rattle.std.proofs.lemmas.List.Folds.{list_all-map}
use Rattle.toml.specs.View.{view}
use Rattle.format_table.specs.Limits.{is_between}
use Rattle.format_books.specs.Reading.{integer_in}
use Rattle.format_books.proofs.reading.is_in_range.Goals as goal

pub returns-in-Integers : goal.returns-in-Integers
returns-in-Integers c =
    rw (c.in-Integers.is, ← c.items_in.ensures, list_all-map (λ d. is_between c.args.low c.args.high (integer_in (Some d))) view c.items_in.result.now) (search rules)
