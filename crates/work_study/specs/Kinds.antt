-- The kinds of work-study filings: the code and the name of each, and its fields behind those of the key. Own format.
use Rattle.std.specs.Prelude.{pos, List, [], ◌∷◌, codes}
use Rattle.format_table.specs.Columns.{one, student, year}
use Rattle.format_table.specs.Parts.{Slot}
use Rattle.format_table.specs.Tables.{KindRow}
use Rattle.format_table.specs.declared.field.Form.TheVariants.{U32}

-- of the fund of an award year
abbrev pub fund_slots : List Slot
fund_slots = year ∷ one (codes "dollars") U32 (pos 0) (pos 9999999) ∷ []

-- of an award, and of a part that is released
abbrev pub dollar_slots : List Slot
dollar_slots = student ∷ year ∷ one (codes "dollars") U32 (pos 0) (pos 9999) ∷ []

-- of an earning
abbrev pub earn_slots : List Slot
earn_slots = student ∷ year ∷ one (codes "minutes") U32 (pos 0) (pos 60000) ∷ one (codes "wage") U32 (pos 0) (pos 100000) ∷ []

abbrev pub work_kinds : List KindRow
work_kinds =
    record { code = 201; name = codes "fund"; slots = fund_slots } ∷ record { code = 202; name = codes "award"; slots = dollar_slots }
    ∷ record { code = 203; name = codes "earn"; slots = earn_slots } ∷ record { code = 204; name = codes "release"; slots = dollar_slots } ∷ []
