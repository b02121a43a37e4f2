-- Marks, their table and their one rule. A list is read newest first.
use Rattle.std.specs.Prelude.{◌+◌, ◌-◌, ◌≤◌, ℕ, ℤ, pos, Bool, true, false, nat_le, List, [], ◌∷◌, codes, decimal, ◌++◌, Option, Some, None}
use Rattle.std.proofs.Common.{arith}
use Rattle.aid_types.specs.Ranges.{IsBetween}
use Rattle.aid_types.specs.declared.number.Key.{Key}
use Rattle.aid_types.specs.declared.award.Refusal.{Refusal}
use Rattle.format_table.specs.Columns.{one}
use Rattle.format_table.specs.Parts.{Slot}
use Rattle.format_table.specs.declared.field.Form.TheVariants.{U8, U32}
use Rattle.format_table.specs.Tables.{KindRow}
use Rattle.log_rules.specs.Rows.{ruling_by}
use Rattle.log_rules.specs.Ruling.{Ruling}
use Rattle.desk_tests.specs.declared.mark.Mark.{Mark}
use Rattle.desk_tests.specs.declared.mark.Left.{Left}

abbrev pub mark_key : List Slot
mark_key = one (codes "number") U32 (pos 1) (pos 999999) ∷ []

abbrev pub mark_slots : List Slot
mark_slots = one (codes "amount") U8 (pos 0) (pos 200) ∷ []

abbrev pub mark_kinds : List KindRow
mark_kinds = record { code = 1; name = codes "mark"; slots = mark_slots } ∷ []

abbrev pub code_of : Mark → ℕ
code_of m = 1

abbrev pub numbers_of : Mark → List ℤ
numbers_of m = pos m.number ∷ pos m.amount ∷ []

pub key_range : (n : ℕ) → IsBetween 1 999999 n → IsBetween 1 999999999999 n
key_range n within = (within.0, omega (arith, within.1))

-- its number, at no school
abbrev pub key_of : Mark → Key
key_of m = record { school = 0; number = m.number; in_range = key_range m.number m.numbered }

-- the points of all marks
abbrev pub total : List Mark → ℕ
total [] = 0
total (m ∷ past) = total past + m.amount + 1

-- 201: all marks have at most 1,000 points
abbrev pub unless_few : Bool → ℕ → Option Refusal
unless_few true kept = None
unless_few false kept = Some (record { rule = 201; kept = kept; bound = 1000 })

abbrev pub breaks : List Mark → Mark → Option Refusal
breaks past m = unless_few (nat_le (total past + m.amount + 1) 1000) (total past)

-- the points that are left
abbrev pub outcome : List Mark → Mark → Left
outcome past m = record { points = 1000 - (total past + m.amount + 1) }

abbrev pub marking : Ruling Mark Left
marking = ruling_by mark_key mark_kinds code_of numbers_of key_of breaks outcome

-- all marks have at most 1,000 points
abbrev pub IsFew : List Mark → Type 0
IsFew past = total past ≤ 1000

-- left POINTS
abbrev pub left_text : Left → List ℕ
left_text left = codes "left " ++ decimal left.points

-- what a contract sees of an index: its marks, the newest first, and how many more there is room for
pub record Marked : Type 0 where
  pub list : List Mark
  pub room : ℕ
