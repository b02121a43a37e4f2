use Rattle.std.proofs.Common.{ap, lit<, lit≤}
use Rattle.format_table.specs.Parts.{slots_of}
use Rattle.format_table.specs.Tables.{are_plain}
use Rattle.format_kinds.proofs.Laws.{IsTable-parts}
use Rattle.format_kinds.proofs.draft_of.new_draft.Goals as goal

pub new-requires : goal.new-requires
new-requires c =
    let table = IsTable-parts c.args.kind (slots_of c.key_parts.result.now) (slots_of c.table_row.result.parts.now) c.key_parts.ensures c.table_row.ensures.parts in
    (lit< tt, (table, (ap are_plain c.key_parts.ensures, (table.few, lit≤ tt))))
