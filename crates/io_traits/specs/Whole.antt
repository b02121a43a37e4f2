-- What is read of a whole source, and what stands of a text after a write that failed.
use Rattle.std.specs.Prelude.{◌≡◌, ◌++◌, ◌<◌, ℕ, List, length, take}

-- the bytes were read from the front of what was left
abbrev pub IsTaken : List ℕ → List ℕ → Type 0
IsTaken left left' = (front : List ℕ) × (left ≡ front ++ left')

-- of the bytes a front that isn't all of them was appended
abbrev pub IsCutShort : List ℕ → List ℕ → List ℕ → Type 0
IsCutShort bytes text text' = (n : ℕ) × (n < length bytes) × (text' ≡ text ++ take n bytes)
