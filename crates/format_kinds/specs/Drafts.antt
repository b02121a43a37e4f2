-- The numbers of a kind's fields, read one after the other.
use Rattle.std.specs.Prelude.{ℤ, List, Result}
use Rattle.format_table.specs.Walk.{Source, numbers_of_slots}
use Rattle.format_kinds.specs.Kinds.{slots_of_kind}
use Rattle.format_kinds.specs.declared.kind.Kind.{Kind}

-- the numbers of a filing of a kind
abbrev pub numbers_of_kind : {S E : Type 0} → Source S E → Kind → S → Result (List ℤ) E
numbers_of_kind source kind s = numbers_of_slots source (slots_of_kind kind) s
