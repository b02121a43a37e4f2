use Rattle.std.proofs.Common.{ap}
use Rattle.format_table.specs.Tables.{are_plain}
use Rattle.format_bytes.proofs.writing.put_parts.Goals as goal

pub put_numbers-requires-clause-plain : goal.put_numbers-requires-clause-plain
put_numbers-requires-clause-plain c = ap are_plain c.key_parts.ensures
