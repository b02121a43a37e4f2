use Rattle.std.proofs.Common.{[], refl}
use Rattle.format_kinds.specs.Kinds.{key_slots, table_row_of}
use Rattle.format_bytes.specs.Numbers.{facts_of, key_numbers, kind_of}
use Rattle.format_bytes.proofs.Slots.{joined}
use Rattle.format_bytes.proofs.filing.numbers_in.Goals as goal

pub returns-clause-in_range : goal.returns-clause-in_range
returns-clause-in_range c =
    let x = c.args.filing.now in
    joined key_slots (table_row_of (kind_of x.what)).slots [] (key_numbers x.key) (facts_of x.what) refl (c.put_key.ensures.in_range []) c.put_facts.ensures.in_range
