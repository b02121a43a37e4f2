-- A table of kinds: the code and the name of each, and its fields behind those of the key. Own format.
use Rattle.std.specs.Prelude.{ℤ, Some, None, IsSome, ℕ, ◌==◌, nat_lt, Bool, true, false, ◌&&◌, not, List, [], ◌∷◌, ◌++◌, bytes_eq, find, Option}
use Rattle.std.specs.List.{list_all, list_any}
use Rattle.format_table.specs.Forms.{is_table}
use Rattle.format_table.specs.Layout.{AreNumbers}
use Rattle.format_table.specs.Parts.{Line, Slot}

pub record KindRow : Type 0 where
  pub code : ℕ
  pub name : List ℕ
  pub slots : List Slot

-- the kind of a code
abbrev pub kind_at : List KindRow → ℕ → Option KindRow
kind_at kinds code = find (λ kind. kind.code == code) kinds

-- the kind of a name
abbrev pub kind_named : List KindRow → List ℕ → Option KindRow
kind_named kinds name = find (λ kind. bytes_eq kind.name name) kinds

-- no kind of a list has the code, or the name, of another
abbrev pub is_new : List KindRow → KindRow → Bool
is_new kinds kind = not (list_any (λ (other : KindRow). other.code == kind.code) kinds) && not (list_any (λ (other : KindRow). bytes_eq other.name kind.name) kinds)

abbrev pub is_sound_table : List Slot → List KindRow → Bool
is_sound_table key [] = true
is_sound_table key (kind ∷ kinds) = nat_lt kind.code 256 && is_table (key ++ kind.slots) && is_new kinds kind && is_sound_table key kinds

-- all fields of an entry of a kind, those of the key first
abbrev pub slots_in : List Slot → Option KindRow → List Slot
slots_in key None = []
slots_in key (Some kind) = key ++ kind.slots

abbrev pub slots_at : List Slot → List KindRow → ℕ → List Slot
slots_at key kinds code = slots_in key (kind_at kinds code)

-- a code of the table with numbers for all fields of its kind
pub record IsRow (key : List Slot) (kinds : List KindRow) (code : ℕ) (zs : List ℤ) : Type 0 where
  pub known : IsSome (kind_at kinds code)
  pub are : AreNumbers (slots_at key kinds code) [] zs

-- a field counts no rows
abbrev pub has_none : List Line → Bool
has_none [] = true
has_none (line ∷ lines) = false

-- no field counts rows, and none has fields at the end
abbrev pub are_plain : List Slot → Bool
are_plain slots = list_all (λ slot. has_none slot.first && (slot.ends == 0)) slots
