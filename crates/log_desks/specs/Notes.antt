-- What a shared list notes of the rows that filed its entries.
use Rattle.std.specs.Prelude.{◌≡◌, ◌⊎◌, ◌+◌, ℕ, Bool, List, Option, Some, None, IsSome, if◌then◌else◌}
use Rattle.log_machine.specs.Submits.{with_entry}
use Rattle.log_machine.specs.declared.reply.LogReply.{LogReply}
use Rattle.log_machine.specs.declared.reply.LogReply.TheVariants.{Answered, DiskFault, NoMemory}
use Rattle.log_lock.specs.Turning.{Says, Admitted, Undecided, Failed, Nothing}
use Rattle.log_machine.specs.declared.names.RowName.{RowName}

-- what a reply says to the lock, by whether a verdict adds an entry
abbrev pub says_of : {Response : Type 0} → (Response → Bool) → LogReply Response → Says
says_of adds (Answered response front) = if adds response then Admitted (front + 1) else Nothing
says_of adds (DiskFault (Some position)) = Undecided position
says_of adds (DiskFault None) = Failed
says_of adds NoMemory = Nothing

-- The rows that filed the newest entries, and the row that waits for an undecided one, before and after a row's reply, on
-- a list of so many entries.
abbrev pub Notes : {Response : Type 0} → (Response → Bool) → RowName → ℕ → LogReply Response → List RowName → Option RowName → List RowName → Option RowName → Type 0
Notes adds by front (Answered response seen) log waiting log' waiting' =
    (log' ≡ with_entry (if adds response then Some by else None) (with_entry waiting log)) × (waiting' ≡ None)
Notes adds by front (DiskFault None) log waiting log' waiting' = (log' ≡ with_entry waiting log) × (waiting' ≡ None)
-- what is undecided still is, or else it is settled, and the row's own entry is undecided
Notes adds by front (DiskFault (Some position)) log waiting log' waiting' =
    (IsSome waiting × (position ≡ front + 1) × (log' ≡ log) × (waiting' ≡ waiting))
    ⊎ (((waiting ≡ None) ⊎ (position ≡ front + 1 → ⊥)) × (log' ≡ with_entry waiting log) × (waiting' ≡ Some by))
Notes adds by front NoMemory log waiting log' waiting' = (log' ≡ log) × (waiting' ≡ waiting)
