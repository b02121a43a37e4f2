use Rattle.std.proofs.Common.{◌≡◌, arith, rules, subst, sym}
use Rattle.std.specs.List.{All}
use Rattle.toml.specs.View.{table_view}
use Rattle.aid_books.specs.Marginal.{IsBracket}
use Rattle.format_books.specs.Tables.{age_rows, bracket_rows, business_rows}
use Rattle.format_books.proofs.BuildLemmas.{range-bracket, range-business, size-age, size-bracket, size-business}
use Rattle.format_books.proofs.tables.break_of.Goals as goal

pub not_rising-requires-clause-few_business : goal.not_rising-requires-clause-few_business
not_rising-requires-clause-few_business c =
    let t = table_view c.args.table.now in
    let same : c.deref.result.now ≡ business_rows t = search rules in
    rw same (omega (arith, (size-business t c.requires).few))

pub not_rising-requires-clause-few_ages : goal.not_rising-requires-clause-few_ages
not_rising-requires-clause-few_ages c =
    let t = table_view c.args.table.now in
    let same : c.deref-2.result.now ≡ age_rows t = search rules in
    rw same (omega (arith, (size-age t c.requires).few))

pub not_rising-requires-clause-few_brackets : goal.not_rising-requires-clause-few_brackets
not_rising-requires-clause-few_brackets c =
    let t = table_view c.args.table.now in
    let same : c.deref-3.result.now ≡ bracket_rows t = search rules in
    rw same (omega (arith, (size-bracket t c.requires).few))

pub not_rising-requires-clause-business_in_range : goal.not_rising-requires-clause-business_in_range
not_rising-requires-clause-business_in_range c =
    let t = table_view c.args.table.now in
    let same : c.deref.result.now ≡ business_rows t = search rules in
    subst (All IsBracket) (sym same) (range-business t c.requires)

pub not_rising-requires-clause-bracket_in_range : goal.not_rising-requires-clause-bracket_in_range
not_rising-requires-clause-bracket_in_range c =
    let t = table_view c.args.table.now in
    let same : c.deref-3.result.now ≡ bracket_rows t = search rules in
    subst (All IsBracket) (sym same) (range-bracket t c.requires)
