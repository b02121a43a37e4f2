-- The rows of words of a run that writes a text of a desk's list, behind the path of its journal. Own format.
use Rattle.std.specs.Prelude.{ℕ, ℤ, pos, unsigned_abs, List, [], ◌∷◌, bytes_eq, codes, if◌then◌else◌, Option, Some, None, Result, Ok, Err}
use Rattle.aid_types.specs.Whole.{whole_between, whole_of}
use Rattle.aid_types.specs.declared.text.Malformed.{Malformed}
use Rattle.desk_sheets.specs.declared.request.DeskSheet.{DeskSheet}
use Rattle.desk_sheets.specs.declared.request.DeskSheet.TheVariants.{Seal, Seals}
use Rattle.desk_sheets.specs.declared.request.DeskSheetRow.{DeskSheetRow}

-- the text of a name
abbrev pub sheet_named : List ℕ → Option DeskSheet
sheet_named name = if bytes_eq name (codes "seal") then Some Seal else if bytes_eq name (codes "seals") then Some Seals else None

-- `report NAME`
abbrev pub sheet_in : List ℕ → List ℕ → Option DeskSheet
sheet_in report name = if bytes_eq report (codes "report") then sheet_named name else None

-- a number that was read
abbrev pub number_by : Result ℤ Malformed → Option ℕ
number_by (Ok z) = Some (unsigned_abs z)
number_by (Err e) = None

-- of the whole list, and of its first so many filings
abbrev pub whole_row : Option DeskSheet → Option DeskSheetRow
whole_row (Some sheet) = Some (record { upto = None; sheet = sheet })
whole_row None = None

abbrev pub first_row : Option ℕ → Option DeskSheet → Option DeskSheetRow
first_row (Some last) (Some sheet) = Some (record { upto = Some last; sheet = sheet })
first_row (Some last) None = None
first_row None sheet = None

abbrev pub row_of_two : List ℕ → List ℕ → Option DeskSheetRow
row_of_two report name = whole_row (sheet_in report name)

abbrev pub row_of_four : List ℕ → List ℕ → List ℕ → List ℕ → Option DeskSheetRow
row_of_four upto position report name =
    if bytes_eq upto (codes "upto") then first_row (number_by (whole_between (pos 1) (pos 4294967295) (whole_of position))) (sheet_in report name) else None

-- the row that words are: `report NAME`, in front of which `upto POSITION` may stand
abbrev pub row_in : List (List ℕ) → Option DeskSheetRow
row_in [] = None
row_in (word ∷ []) = None
row_in (report ∷ name ∷ []) = row_of_two report name
row_in (upto ∷ position ∷ word ∷ []) = None
row_in (upto ∷ position ∷ report ∷ name ∷ []) = row_of_four upto position report name
row_in (upto ∷ position ∷ report ∷ name ∷ word ∷ words) = None
