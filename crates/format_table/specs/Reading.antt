-- Reading one number, and what it leads to.
use Rattle.std.specs.Prelude.{◌≡◌, ℕ, ◌≤◌, ◌<◌, ◌⊎◌, ℤ, List, length, take, reverse, Result, Ok, Err, FitsSigned}
use Rattle.std.specs.Int.{w64, from_le_bytes}
use Rattle.format_table.specs.Taking.{value_in}
use Rattle.format_table.specs.Draft.{Progress}
use Rattle.format_table.specs.Parts.{width_of}
use Rattle.format_table.specs.declared.field.Form.{Form}

-- the number that a form's first bytes hold
abbrev pub front_value : Form → List ℕ → ℤ
front_value form bytes = value_in form (from_le_bytes w64 (take (width_of form) bytes))

-- a number stands at the front of the bytes
pub record IsNumber (form : Form) (bytes : List ℕ) (z : ℤ) : Type 0 where
  pub enough : width_of form ≤ length bytes
  pub value : z ≡ front_value form bytes

-- the bytes are too few, or what they hold passes 64 bits
abbrev pub IsNoNumber : Form → List ℕ → Type 0
IsNoNumber form bytes = (length bytes < width_of form) ⊎ (FitsSigned w64 (front_value form bytes) → ⊥)

-- a code, and the numbers of its draft, are what was read
abbrev pub ReadsRow : Result (ℕ × Progress) ℕ → Result (ℕ × List ℤ) ℕ → Type 0
ReadsRow (Ok found) read = read ≡ Ok (found.0, reverse found.1.earlier)
ReadsRow (Err place) read = read ≡ Err place
