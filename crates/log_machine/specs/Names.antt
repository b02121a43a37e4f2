-- Entries with the rows that filed them. A list is read newest first.
use Rattle.std.specs.Prelude.{◌≡◌, ℕ, List, [], ◌∷◌, Option, Some, None}
use Rattle.log_machine.specs.declared.names.RowName.{RowName}
use Rattle.log_machine.specs.declared.names.Filed.{Filed}

-- the row that is named where no row of these desks filed an entry
abbrev pub no_row : RowName
no_row = record { desk = 0; row = 0 }

-- the entries of a list, of which the newest were filed by these rows
abbrev pub filed_list : {E : Type 0} → List E → List RowName → List (Filed E)
filed_list [] log = []
filed_list (e ∷ past) [] = record { entry = e; by = no_row } ∷ filed_list past []
filed_list (e ∷ past) (by ∷ log) = record { entry = e; by = by } ∷ filed_list past log

-- an entry, where there is one, with the row that filed it
abbrev pub filed_by : {E : Type 0} → Option E → RowName → Option (Filed E)
filed_by None by = None
filed_by (Some e) by = Some (record { entry = e; by = by })

-- an undecided entry with the row that waits for it
abbrev pub filed_pending : {E : Type 0} → Option E → Option RowName → Option (Filed E)
filed_pending pending None = filed_by pending no_row
filed_pending pending (Some by) = filed_by pending by

-- the entries alone
abbrev pub entries_of : {E : Type 0} → List (Filed E) → List E
entries_of [] = []
entries_of (f ∷ list) = f.entry ∷ entries_of list

abbrev pub entry_of : {E : Type 0} → Option (Filed E) → Option E
entry_of None = None
entry_of (Some f) = Some f.entry

-- the rows alone
abbrev pub rows_of : {E : Type 0} → List (Filed E) → List RowName
rows_of [] = []
rows_of (f ∷ list) = f.by ∷ rows_of list
