-- The lines of a desk.
use Rattle.std.specs.Prelude.{◌+◌, ℕ, List, [], ◌++◌, Option, Some, None}
use Rattle.log_machine.specs.declared.names.RowName.{RowName}
use Rattle.log_desks.specs.declared.stop.DeskStop.{DeskStop}
use Rattle.log_desks.specs.declared.stop.DeskEnd.{DeskEnd}
use Rattle.log_desks.specs.declared.stop.DeskEnd.TheVariants.{Open, Done, Stopped}
use Rattle.log_desks.specs.Desks.{DeskView}

-- the row behind those that a desk answered
abbrev pub end_row : {Entry Lines : Type 0} → DeskView Entry Lines → RowName
end_row desk = record { desk = desk.number; row = desk.answered + 1 }

-- the row at which a desk stopped, and why, where it did
abbrev pub stop_at : ℕ → ℕ → DeskEnd → Option (RowName × DeskStop)
stop_at desk answered Open = None
stop_at desk answered Done = None
stop_at desk answered (Stopped stop) = Some (record { desk = desk; row = answered + 1 }, stop)

-- the line of a stop
abbrev pub stop_text : (RowName → DeskStop → List ℕ) → Option (RowName × DeskStop) → List ℕ
stop_text line None = []
stop_text line (Some (at, stop)) = line at stop

-- the lines of a desk: one for each row that was answered, and one for its stop
abbrev pub desk_text : {Entry Lines : Type 0} → (RowName → DeskStop → List ℕ) → DeskView Entry Lines → List ℕ
desk_text line desk = desk.text ++ stop_text line (stop_at desk.number desk.answered desk.ended)
