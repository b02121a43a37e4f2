-- What stands at a gate.
use Rattle.std.specs.Prelude.{◌≡◌, ◌≢◌, ◌⊎◌, ◌≤◌, ℕ, List, [], ◌∷◌, ◌++◌, length}
use Rattle.std.specs.Int.{to_le_bytes, w32}
use Rattle.log_journal.specs.Stands.{body_of, IsPayload}
use Rattle.log_journal.specs.declared.record.Start.{Start}
use Rattle.log_journal.specs.declared.record.Start.TheVariants.{Shut, Bad, Size}
use Rattle.log_journal.specs.declared.record.Record.{Record}
use Rattle.log_journal.specs.declared.record.Record.TheVariants.{Closed, Broken, Whole}

-- the file ends where a gate should stand, or no payload stands behind an open one
abbrev pub IsNoRecord : List ℕ → Type 0
IsNoRecord file = (file ≡ []) ⊎ ((behind : List ℕ) × (file ≡ 1 ∷ behind)
    × ((payload after : List ℕ) → IsPayload payload → behind ≡ body_of payload ++ after → ⊥))

-- a gate that isn't open
abbrev pub IsClosed : List ℕ → Type 0
IsClosed file = (gate : ℕ) × ((free : List ℕ) × (gate ≢ 1) × (file ≡ gate ∷ free))

-- a record of this payload
abbrev pub Begins : List ℕ → List ℕ → Type 0
Begins payload file = (after : List ℕ) × IsPayload payload × (file ≡ 1 ∷ (body_of payload ++ after))

-- what a file that goes on from a gate has there; `payload` is that of a whole record
abbrev pub RecordAt : List ℕ → Record → List ℕ → Type 0
RecordAt file Closed payload = IsClosed file
RecordAt file Broken payload = IsNoRecord file
RecordAt file (Whole size) payload = Begins payload file × (size ≡ length payload)

-- the same for the gate and the length alone
abbrev pub StartsWith : List ℕ → Start → Type 0
StartsWith file Shut = IsClosed file
StartsWith file Bad = IsNoRecord file
StartsWith file (Size n) = (after : List ℕ) × (1 ≤ n) × (n ≤ 8192) × (file ≡ 1 ∷ (to_le_bytes w32 n ++ after))

abbrev pub IfSize : Start → (ℕ → Type 0) → Type 0
IfSize (Size n) P = P n
IfSize other P = Unit {0}

abbrev pub IfWhole : Record → (ℕ → Type 0) → Type 0
IfWhole (Whole n) P = P n
IfWhole other P = Unit {0}
