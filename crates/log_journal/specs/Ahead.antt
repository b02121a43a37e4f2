-- A payload that is written before it is put.
use Rattle.std.specs.Prelude.{ℕ, ◌≤◌, List, [], ◌∷◌, ◌++◌, length, slice_set}
use Rattle.io_traits.specs.DiskState.{DiskState, EachImage}
use Rattle.log_journal.specs.Stands.{Payloads, WithGateOpen, body_of, gate_place}
use Rattle.log_journal.specs.declared.header.Header.{Header}

-- what is written of a payload behind its gate, with a closed gate behind it; of none nothing
abbrev pub block_of : List ℕ → List ℕ
block_of [] = []
block_of (byte ∷ bytes) = body_of (byte ∷ bytes) ++ 0 ∷ []

-- each image, once the gate byte behind the payloads in it is set to 1, stands for them with this one, where it is one
abbrev pub IsAhead : Header → DiskState → Payloads → List ℕ → Type 0
IsAhead header told payloads ahead = 1 ≤ length ahead → EachImage told (WithGateOpen header payloads ahead)

-- The file, once the gate byte behind the payloads and the one behind this payload are set to 1, stands for them with this one and
-- the next, where there is a next one.
abbrev pub HasNext : Header → Payloads → (payload next : List ℕ) → List ℕ → Type 0
HasNext header payloads payload next file = 1 ≤ length next → WithGateOpen header (payloads ++ payload ∷ []) next (slice_set file (gate_place payloads) 1)
