-- Reading an entry's bytes from left to right, with the place of the first fault.
use Rattle.std.specs.Prelude.{◌≡◌, ℕ, ◌+◌, ◌-◌, ◌^◌, ◌*◌, ℤ, pos, ◌-ℤ◌, nat_lt, List, [], ◌∷◌, ◌++◌, length, take, drop, Option, Some, None, Result, Ok, Err, if◌then◌else◌}
use Rattle.std.specs.Int.{w64, from_le_bytes}
use Rattle.format_table.specs.Parts.{Slot, width_of}
use Rattle.format_table.specs.Tables.{KindRow, kind_at}
use Rattle.format_table.specs.Walk.{Found, Source, numbers_of_slots}
use Rattle.format_table.specs.declared.field.Form.{Form}
use Rattle.format_table.specs.declared.field.Form.TheVariants.{I64, Day}

-- the number that so many bytes hold with a sign: the upper half of the words are the numbers below 0
abbrev pub with_sign : ℕ → ℕ → ℤ
with_sign width word = if nat_lt word (2 ^ (8 * width - 1)) then pos word else pos word -ℤ pos (2 ^ (8 * width))

abbrev pub value_in : Form → ℕ → ℤ
value_in I64 word = with_sign 8 word
value_in Day word = with_sign 4 word
value_in _ word = pos word

-- bytes, with the place of the first of them
pub record Placed : Type 0 where
  pub place : ℕ
  pub bytes : List ℕ

abbrev pub placed : ℕ → List ℕ → Placed
placed place bytes = record { place = place; bytes = bytes }

-- the number of a field at the front of the bytes, or their place where they are too few
abbrev pub front_number : Form → Placed → Result (Found Placed) ℕ
front_number form at =
    if nat_lt (length at.bytes) (width_of form) then Err at.place
    else Ok (record {
      number = value_in form (from_le_bytes w64 (take (width_of form) at.bytes));
      rest = placed (at.place + width_of form) (drop (width_of form) at.bytes);
    })

-- the place of the first byte too many
abbrev pub place_left : ℕ → List ℕ → Option ℕ
place_left place [] = None
place_left place (b ∷ bytes) = Some place

-- The numbers of bytes from left to right, with the place of the first fault: a number that is short or past its limit, or a
-- byte too many.
abbrev pub byte_source : Source Placed ℕ
byte_source = record { find = λ before line at. front_number line.form at; past = λ before at. at.place; left = λ at. place_left at.place at.bytes }

-- numbers with the code of their kind
abbrev pub with_code : ℕ → Result (List ℤ) ℕ → Result (ℕ × List ℤ) ℕ
with_code code (Ok zs) = Ok (code, zs)
with_code code (Err place) = Err place

-- the numbers of a kind, behind its code
abbrev pub of_kind : List Slot → ℕ → Option KindRow → List ℕ → Result (ℕ × List ℤ) ℕ
of_kind key code None bytes = Err 0
of_kind key code (Some kind) bytes = with_code code (numbers_of_slots byte_source (key ++ kind.slots) (placed 1 bytes))

-- the code and the numbers that the bytes spell, or the place of the first fault; an unknown code is one at place 0
abbrev pub taken : List Slot → List KindRow → List ℕ → Result (ℕ × List ℤ) ℕ
taken key kinds [] = Err 0
taken key kinds (code ∷ bytes) = of_kind key code (kind_at kinds code) bytes

-- an answer is what reading gives
abbrev pub Gives : {E : Type 0} → (E → ℕ) → (E → List ℤ) → Result E ℕ → Result (ℕ × List ℤ) ℕ → Type 0
Gives code_of numbers_of (Ok entry) read = read ≡ Ok (code_of entry, numbers_of entry)
Gives code_of numbers_of (Err place) read = read ≡ Err place
