-- The texts that tell of a desk's list. A list is read newest first. Own.
use Rattle.std.specs.Prelude.{ℕ, ◌+◌, ◌-◌, nat_le, List, [], ◌∷◌, ◌++◌, Option, Some, None, codes, decimal, drop, if◌then◌else◌, length, map}
use Rattle.std.specs.List.{concat}
use Rattle.aid_seals.specs.Seals.{seal, sealed_line}
use Rattle.log_machine.specs.Scheme.{Scheme}
use Rattle.desk_sheets.specs.declared.request.DeskSheet.{DeskSheet}
use Rattle.desk_sheets.specs.declared.request.DeskSheet.TheVariants.{Seal, Seals}
use Rattle.desk_sheets.specs.declared.request.DeskSheetRow.{DeskSheetRow}

-- the seal of a list, by the name in its journal's header and the bytes of its records
abbrev pub list_seal : {Entry : Type 0} → Scheme Entry → List Entry → List ℕ
list_seal scheme past = seal scheme.header.name (map scheme.spelling past)

-- the line that tells of it
abbrev pub seal_text : {Entry : Type 0} → Scheme Entry → List Entry → List ℕ
seal_text scheme past = sealed_line (length past) (list_seal scheme past)

-- such a line of each front, that of no filing first
abbrev pub seal_lines : {Entry : Type 0} → Scheme Entry → List Entry → List (List ℕ)
seal_lines scheme [] = seal_text scheme [] ∷ []
seal_lines scheme (e ∷ past) = seal_lines scheme past ++ seal_text scheme (e ∷ past) ∷ []

-- all of them, and how many they are
abbrev pub seals_text : {Entry : Type 0} → Scheme Entry → List Entry → List ℕ
seals_text scheme past = concat (seal_lines scheme past) ++ codes "rows " ++ decimal (length past + 1) ++ codes "\n"

abbrev pub text_on : {Entry : Type 0} → Scheme Entry → DeskSheet → List Entry → List ℕ
text_on scheme Seal past = seal_text scheme past
text_on scheme Seals past = seals_text scheme past

-- the list as it stood when so many filings were on it
abbrev pub front_of : {Entry : Type 0} → ℕ → List Entry → List Entry
front_of front past = drop (length past - front) past

-- on the whole list, or on its first so many filings; `none` where there are fewer
abbrev pub text_upto : {Entry : Type 0} → Scheme Entry → DeskSheet → Option ℕ → List Entry → List ℕ
text_upto scheme sheet None past = text_on scheme sheet past
text_upto scheme sheet (Some last) past = if nat_le last (length past) then text_on scheme sheet (front_of last past) else codes "none\n"

-- the text of a row
abbrev pub desk_text : {Entry : Type 0} → Scheme Entry → DeskSheetRow → List Entry → List ℕ
desk_text scheme row past = text_upto scheme row.sheet row.upto past
