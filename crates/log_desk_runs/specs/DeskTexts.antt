-- What is written of many desks that filed at once, and the status. Own format.
use Rattle.std.specs.Prelude.{ℕ, ◌+◌, Bool, true, false, List, [], ◌∷◌, ◌++◌, codes, decimal, Some, None, if◌then◌else◌}
use Rattle.std.specs.List.{list_any}
use Rattle.log_desks.specs.DeskTexts.{desk_text}
use Rattle.log_desks.specs.Desks.{DeskView}
use Rattle.log_machine.specs.declared.names.RowName.{RowName}
use Rattle.log_desks.specs.declared.stop.DeskStop.{DeskStop}
use Rattle.log_desks.specs.declared.stop.DeskStop.TheVariants.{DiskFault, NoMemory}
use Rattle.log_desks.specs.declared.stop.DeskEnd.{DeskEnd}
use Rattle.log_desks.specs.declared.stop.DeskEnd.TheVariants.{Stopped}

-- what stands before each line of a desk: `desk D `
abbrev pub desk_prefix : ℕ → List ℕ
desk_prefix number = codes "desk " ++ decimal number ++ codes " "

-- the number of a row, and why a desk stopped there
abbrev pub stop_words : ℕ → DeskStop → List ℕ
stop_words row (DiskFault None) = decimal row ++ codes " fault disk none\n"
stop_words row (DiskFault (Some position)) = decimal row ++ codes " fault disk " ++ decimal position ++ codes "\n"
stop_words row NoMemory = decimal row ++ codes " fault memory\n"

-- the last line of a desk that stopped at a row: `desk D ROW fault ..`
abbrev pub stop_line : List ℕ → RowName → DeskStop → List ℕ
stop_line prefix at stop = prefix ++ stop_words at.row stop

-- the lines of all desks, in desk order
abbrev pub desks_text : {Entry Lines : Type 0} → List (DeskView Entry Lines) → List ℕ
desks_text [] = []
desks_text (desk ∷ desks) = desk_text (stop_line desk.prefix) desk ++ desks_text desks

-- `admitted POSITION D ROW`: the filing at a position, and the row that filed it
abbrev pub admitted_line : ℕ → RowName → List ℕ
admitted_line position by = codes "admitted " ++ decimal position ++ codes " " ++ decimal by.desk ++ codes " " ++ decimal by.row ++ codes "\n"

-- such a line for each filing, from a position on, the oldest first
abbrev pub admitted_text : ℕ → List RowName → List ℕ
admitted_text position [] = []
admitted_text position (by ∷ rows) = admitted_line position by ++ admitted_text (position + 1) rows

-- the desk had a fault of the disk, or no memory
abbrev pub had_disk_fault : DeskEnd → Bool
had_disk_fault (Stopped (DiskFault undecided)) = true
had_disk_fault _ = false

abbrev pub had_no_memory : DeskEnd → Bool
had_no_memory (Stopped NoMemory) = true
had_no_memory _ = false

-- the status where all was written: 5 where a desk had a fault of the disk, else 9 where one had no memory, else 0
abbrev pub desks_status : {Entry Lines : Type 0} → List (DeskView Entry Lines) → ℕ
desks_status {Entry} {Lines} desks =
    if list_any (λ (d : DeskView Entry Lines). had_disk_fault d.ended) desks then 5
    else if list_any (λ (d : DeskView Entry Lines). had_no_memory d.ended) desks then 9
    else 0
