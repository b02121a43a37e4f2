use Rattle.std.proofs.Common.{ap}
use Rattle.format_table.specs.Tables.{are_plain}
use Rattle.format_kinds.proofs.draft_of.new_layout.Goals as goal

pub new-requires : goal.new-requires
new-requires c = ap are_plain c.key_parts.ensures
