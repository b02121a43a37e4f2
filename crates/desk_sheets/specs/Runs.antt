-- What a run does that writes a text of a desk's list.
use Rattle.std.specs.Prelude.{List, Option, Some, None}
use Rattle.log_machine.specs.Scheme.{Scheme}
use Rattle.desk_sheets.specs.Sheets.{desk_text}
use Rattle.desk_sheets.specs.declared.request.DeskSheetRow.{DeskSheetRow}
use Rattle.std.specs.Prelude.{ℕ}

-- the text of a row, if there's one, by the list of which it tells
abbrev pub asked_by : {Entry : Type 0} → Scheme Entry → Option DeskSheetRow → Option (List Entry → List ℕ)
asked_by scheme None = None
asked_by scheme (Some row) = Some (desk_text scheme row)
