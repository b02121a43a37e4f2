use Rattle.std.proofs.Common.{◌≡◌, rules, subst, sym}
use Rattle.toml.specs.View.{table_view}
use Rattle.aid_types.specs.Ranges.{IsRate}
use Rattle.format_books.specs.Tables.{first_rate_of}
use Rattle.format_books.proofs.BuildLemmas.{range-first_rate}
use Rattle.format_books.proofs.tables.first_rate.Goals as goal

pub returns-clause-in_range : goal.returns-clause-in_range
returns-clause-in_range c =
    let t = table_view c.args.table.now in
    let first : c.integer_in.result ≡ first_rate_of t = search rules in
    let rate : IsRate c.integer_in.result = subst IsRate (sym first) (range-first_rate t c.requires) in
    search rules
