-- Which rows are told of as those that filed what desks added. Own. `same` tells whether two entries are one.
use Rattle.std.specs.Prelude.{ℕ, ◌+◌, ◌==◌, ◌&&◌, Bool, false, List, [], ◌∷◌, Option, Some, None}
use Rattle.std.specs.List.{find}
use Rattle.log_desks.specs.DeskTexts.{end_row}
use Rattle.log_desks.specs.Desks.{DeskView}
use Rattle.log_desks.specs.declared.stop.DeskEnd.{DeskEnd}
use Rattle.log_desks.specs.declared.stop.DeskEnd.TheVariants.{Stopped}
use Rattle.log_desks.specs.declared.stop.DeskStop.TheVariants.{DiskFault}
use Rattle.log_machine.specs.declared.names.RowName.{RowName}

-- ---- where desks ended
abbrev pub same_row : RowName → RowName → Bool
same_row one other = (one.desk == other.desk) && (one.row == other.row)

-- a fault of the disk that named this position
abbrev pub names_position : ℕ → DeskEnd → Bool
names_position position (Stopped (DiskFault (Some named))) = named == position
names_position position _ = false

-- what was kept is this entry
abbrev pub is_entry : {Entry : Type 0} → (Entry → Entry → Bool) → Entry → Option Entry → Bool
is_entry same entry None = false
is_entry same entry (Some other) = same entry other

-- the desk ended at this row, with this position in doubt
abbrev pub ends_at : {Entry Lines : Type 0} → ℕ → RowName → DeskView Entry Lines → Bool
ends_at position by desk = names_position position desk.ended && same_row (end_row desk) by

-- the desk ended with this position in doubt, at a row that files this
abbrev pub leaves : {Entry Lines : Type 0} → (Entry → Entry → Bool) → ℕ → Entry → DeskView Entry Lines → Bool
leaves same position entry desk = names_position position desk.ended && is_entry same entry desk.last

-- ---- the row that is told of
-- what a row files at which its desk ended with this position in doubt
abbrev pub kept_in : {Entry Lines : Type 0} → Option (DeskView Entry Lines) → Option Entry
kept_in None = None
kept_in (Some desk) = desk.last

abbrev pub end_row_or : {Entry Lines : Type 0} → RowName → Option (DeskView Entry Lines) → RowName
end_row_or by None = by
end_row_or by (Some desk) = end_row desk

abbrev pub first_row : {Entry Lines : Type 0} → (Entry → Entry → Bool) → List (DeskView Entry Lines) → ℕ → RowName → Option Entry → RowName
first_row same desks position by None = by
first_row same desks position by (Some entry) = end_row_or by (find (leaves same position entry) desks)

-- The row that is told of for what stands at a position, where this row filed it: it itself where it was answered. Where its desk
-- ended at it, the first row in desk order that files the same, and at which a desk ended with this position in doubt.
abbrev pub name_of : {Entry Lines : Type 0} → (Entry → Entry → Bool) → List (DeskView Entry Lines) → ℕ → RowName → RowName
name_of same desks position by = first_row same desks position by (kept_in (find (ends_at position by) desks))

-- the rows that are told of for these, from a position on
abbrev pub names_of : {Entry Lines : Type 0} → (Entry → Entry → Bool) → List (DeskView Entry Lines) → ℕ → List RowName → List RowName
names_of same desks position [] = []
names_of same desks position (by ∷ rows) = name_of same desks position by ∷ names_of same desks (position + 1) rows
