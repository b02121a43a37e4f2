use Rattle.std.proofs.Common.{[], ap, arith, lit<, lit≤, reverse, subst, sym, ◌∙◌}
use Rattle.format_table.specs.Layout.{AreNumbers}
use Rattle.format_table.specs.Parts.{slots_of}
use Rattle.format_table.specs.Tables.{are_plain}
use Rattle.format_table.specs.Walk.{numbers_drafted}
use Rattle.format_kinds.specs.Kinds.{slots_of_kind}
use Rattle.format_kinds.proofs.Laws.{IsTable-parts}
use Rattle.format_bytes.specs.Taking.{Gives}
use Rattle.format_bytes.proofs.RowLaws.{are_read, kind_read, most_of-few}
use Rattle.format_bytes.proofs.reading.short_filing_in.Goals as goal

pub numbers_at-requires : goal.numbers_at-requires
numbers_at-requires c =
    let table = IsTable-parts c.args.kind (slots_of c.key_parts.result.now) (slots_of c.table_row.result.parts.now) c.key_parts.ensures c.table_row.ensures.parts in
    (lit< tt, (table, (ap are_plain c.key_parts.ensures, (rw (c.key_parts.ensures, c.table_row.ensures.parts) (most_of-few c.args.kind c.requires.no_book c.requires.no_term c.requires.no_application), lit≤ tt))))

pub filed-requires : goal.filed-requires
filed-requires c =
    let read = sym (ap numbers_drafted c.in-Ok.is) ∙ c.numbers_at.ensures in
    let are = are_read c.args.kind _ _ (reverse c.in-Ok.draft.earlier) c.args.bytes.now (λ i. omega (arith, c.type_inv.bytes i)) c.key_parts.ensures c.table_row.ensures.parts read in
    subst (AreNumbers (slots_of_kind c.args.kind) []) (sym c.numbers.ensures.numbers) are
