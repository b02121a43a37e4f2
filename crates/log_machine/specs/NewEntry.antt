-- An entry that an ask adds, with what judging it worked out.
use Rattle.std.specs.Prelude.{Option, option_map}
use Rattle.log_machine.specs.declared.machine.NewEntry.{NewEntry}

-- the entry alone
abbrev pub entry_of : {Entry Ruling : Type 0} → Option (NewEntry Entry Ruling) → Option Entry
entry_of added = option_map (λ a. a.entry) added
