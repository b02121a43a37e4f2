use Rattle.std.proofs.Common.{◌≡◌, pos, ap, sym, ◌∙◌, rules}
use Rattle.std.specs.Prelude.{unwrap_or}
use Rattle.format_kinds.specs.Kinds.{book_slots}
use Rattle.format_table.specs.declared.field.Limit.TheVariants.{Between}
use Rattle.format_books.specs.Ranges.{limit_named, range_of}
use Rattle.format_books.proofs.RangeLemmas.{range_by}
use Rattle.format_books.proofs.ranges.range.Goals as goal

pub returns : goal.returns
returns c =
    let name = c.args.name.now in
    let found : c.limit_named.result ≡ limit_named name book_slots = c.limit_named.ensures ∙ ap (limit_named name) c.book_parts.ensures in
    let limit : c.unwrap_or.result ≡ unwrap_or c.limit_named.result (Between (pos 0) (pos 0)) = search rules in
    c.bounds_of.ensures ∙ ap range_of limit ∙ sym (range_by name c.limit_named.result (sym found))
