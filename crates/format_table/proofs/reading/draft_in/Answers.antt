use Rattle.std.proofs.Common.{arith, ap, ◌∙◌, lit<, lit≤}
use Rattle.format_table.specs.Parts.{slots_of}
use Rattle.format_table.specs.TableRows.{row_of}
use Rattle.format_table.specs.Tables.{are_plain}
use Rattle.format_table.proofs.TableLaws.{IsTable-told}
use Rattle.format_table.proofs.reading.draft_in.Goals as goal

pub numbers_at-requires : goal.numbers_at-requires
numbers_at-requires g c =
    let table = IsTable-told g.T.KindTable.key (slots_of c.key_parts.result.now) g.T.KindTable.kinds _ (row_of c.in-Some.row) g.met.T.KindTable.sound c.in-Some.ensures c.key_parts.ensures in
    (lit< tt, (table, (ap are_plain c.key_parts.ensures ∙ g.met.T.KindTable.plain, (table.few, lit≤ tt))))
