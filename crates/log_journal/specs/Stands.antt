-- What the bytes of a journal file stand for.
use Rattle.std.specs.Prelude.{◌≡◌, ◌≢◌, ◌⊎◌, ◌+◌, ◌<◌, ◌≤◌, ℕ, List, [], ◌∷◌, ◌++◌, length, slice_index, slice_set}
use Rattle.std.specs.Int.{to_le_bytes, w32}
use Rattle.log_journal.specs.Header.{header_bytes}
use Rattle.log_journal.specs.declared.header.Header.{Header}

-- what may be kept: 1 to 8,192 bytes
pub record IsPayload (payload : List ℕ) : Type 0 where
  pub some : 1 ≤ length payload
  pub fits : length payload ≤ 8192

-- payloads in the order in which they were put
abbrev pub Payloads : Type 0
Payloads = List (List ℕ)

-- each of them may be kept
abbrev pub ArePayloads : Payloads → Type 0
ArePayloads [] = Unit {0}
ArePayloads (payload ∷ payloads) = IsPayload payload × ArePayloads payloads

-- what stands behind the gate of a record: the payload's length in four bytes, the least first, and its bytes
abbrev pub body_of : List ℕ → List ℕ
body_of payload = to_le_bytes w32 (length payload) ++ payload

-- records of these payloads, each behind an open gate
abbrev pub records : Payloads → List ℕ
records [] = []
records (payload ∷ payloads) = 1 ∷ (body_of payload ++ records payloads)

-- the file up to the gate behind these payloads
abbrev pub front_of : Header → Payloads → List ℕ
front_of header payloads = header_bytes header ++ records payloads

-- where the gate behind these payloads stands: a header has 16 bytes
abbrev pub gate_place : Payloads → ℕ
gate_place payloads = 16 + length (records payloads)

-- The file stands for these payloads: their records, and then a gate that isn't open. What follows is free.
pub record StandsFor (header : Header) (file : List ℕ) (payloads : Payloads) : Type 0 where
  pub gate : ℕ
  pub free : List ℕ
  pub closed : gate ≢ 1
  pub whole : file ≡ front_of header payloads ++ gate ∷ free
  pub sizes : ArePayloads payloads

-- the file ends right behind the closed gate that stands behind these payloads
abbrev pub EndsBehind : Payloads → List ℕ → Type 0
EndsBehind payloads file = length file ≡ gate_place payloads + 1

-- the file stands for the payloads before, or for them with one more
abbrev pub BeforeOrWith : Header → Payloads → List ℕ → List ℕ → Type 0
BeforeOrWith header payloads payload file = StandsFor header file payloads ⊎ StandsFor header file (payloads ++ payload ∷ [])

-- the file, once the gate byte behind the payloads in it is set to 1, stands for them with one more
abbrev pub WithGateOpen : Header → Payloads → List ℕ → List ℕ → Type 0
WithGateOpen header payloads payload file = StandsFor header (slice_set file (gate_place payloads) 1) (payloads ++ payload ∷ [])

-- no journal was founded in the file yet, or its founding didn't end
abbrev pub IsUnborn : List ℕ → Type 0
IsUnborn file = (length file < 17) ⊎ ((length file ≡ 17) × (slice_index file 0 ≢ 1))
