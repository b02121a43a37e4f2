-- Desks that have passes of one lock.
use Rattle.std.specs.Prelude.{◌≡◌, ◌<◌, ℕ, List, Some, length, slice_index_or}
use Rattle.atomic_table.specs.Seated.{TableId}
use Rattle.log_lock.specs.Passes.{Known}
use Rattle.lock_tests.specs.declared.desks.Desk.{Desk}

-- a pass of this lock, with one part of its passes
abbrev pub IsHandleOf : TableId → Known ℕ → Type 0
IsHandleOf lock handle = (handle.lock ≡ lock) × (handle.allowance ≡ 1)

-- the desk has such a pass
abbrev pub HasHandle : TableId → Desk → Type 0
HasHandle lock desk = (handle : Known ℕ) × (desk.handle ≡ Some handle) × IsHandleOf lock handle

-- each desk has one
abbrev pub AllHavePasses : TableId → List Desk → Type 0
AllHavePasses lock desks = (k : ℕ) (d : Desk) → k < length desks → HasHandle lock (slice_index_or desks k d)
