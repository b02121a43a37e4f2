-- What holds of each filing's numbers by the table of kinds: they have room in their bytes, and there are not more than the most.
use Rattle.std.proofs.Common.{◌≡◌, ◌≤◌, ℤ, true, List, [], ◌++◌, All, length, refl, arith, lit≤}
use Rattle.format_table.specs.Forms.{IsTable, are_sound, most_numbers, most_of}
use Rattle.format_table.specs.Layout.{AreNumbers}
use Rattle.format_table.specs.Limits.{IsNarrow}
use Rattle.format_table.specs.Parts.{Slot}
use Rattle.format_table.proofs.Laws.{few_in, length-most_of, narrow_in}
use Rattle.format_kinds.specs.Kinds.{key_slots, slots_of_kind, table_row_of}
use Rattle.format_kinds.specs.declared.kind.Kind.{Kind}
use Rattle.format_kinds.specs.declared.kind.Kind.TheVariants.{Book, School, Calendar, Prior, Apply, Enroll, Originate, Pay, Withdraw, Repay, Adjust, Cost, Sent, Amend}

-- ---- the table
pub are_sound-kind : (kind : Kind) → are_sound (slots_of_kind kind) ≡ true
unfolding table_row_of
are_sound-kind Book = refl
are_sound-kind School = refl
are_sound-kind Calendar = refl
are_sound-kind Prior = refl
are_sound-kind Apply = refl
are_sound-kind Enroll = refl
are_sound-kind Originate = refl
are_sound-kind Pay = refl
are_sound-kind Withdraw = refl
are_sound-kind Repay = refl
are_sound-kind Adjust = refl
are_sound-kind Cost = refl
are_sound-kind Sent = refl
are_sound-kind Amend = refl

pub most_of-kind : (kind : Kind) → most_of (slots_of_kind kind) ≤ most_numbers
unfolding table_row_of
most_of-kind Book = lit≤ tt
most_of-kind School = lit≤ tt
most_of-kind Calendar = lit≤ tt
most_of-kind Prior = lit≤ tt
most_of-kind Apply = lit≤ tt
most_of-kind Enroll = lit≤ tt
most_of-kind Originate = lit≤ tt
most_of-kind Pay = lit≤ tt
most_of-kind Withdraw = lit≤ tt
most_of-kind Repay = lit≤ tt
most_of-kind Adjust = lit≤ tt
most_of-kind Cost = lit≤ tt
most_of-kind Sent = lit≤ tt
most_of-kind Amend = lit≤ tt

pub IsTable-kind : (kind : Kind) → IsTable (slots_of_kind kind)
IsTable-kind kind = record { sound = are_sound-kind kind; few = most_of-kind kind }

-- the fields of a kind are no more than the most numbers
pub length-slots_of_kind : (kind : Kind) → length (slots_of_kind kind) ≤ most_numbers
length-slots_of_kind kind = omega (arith, length-most_of (slots_of_kind kind), most_of-kind kind)

-- a filing of any kind has at most so many numbers, each of them narrow
pub few_numbers : (kind : Kind) (zs : List ℤ) → AreNumbers (slots_of_kind kind) [] zs → length zs ≤ most_numbers
few_numbers kind zs h = few_in (slots_of_kind kind) zs (IsTable-kind kind) h

pub narrow_numbers : (kind : Kind) (zs : List ℤ) → AreNumbers (slots_of_kind kind) [] zs → All IsNarrow zs
narrow_numbers kind zs h = narrow_in (slots_of_kind kind) zs (IsTable-kind kind) h

-- where the parts are told
pub IsTable-parts : (kind : Kind) (key rest : List Slot) → key ≡ key_slots → rest ≡ (table_row_of kind).slots → IsTable (key ++ rest)
IsTable-parts kind key rest k r = rw (k, r) (IsTable-kind kind)
