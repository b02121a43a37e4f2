-- What is on file of a student's award year, for whoever reviews it, as one text: each part is the text of its own sheet. Own.
use Rattle.std.specs.Prelude.{ℕ, ◌+◌, ◌==◌, ◌&&◌, Bool, false, List, [], ◌∷◌, ◌++◌, codes, if◌then◌else◌, length, map, reverse}
use Rattle.std.specs.List.{concat}
use Rattle.aid_filings.specs.declared.filing.Filing.{Filing}
use Rattle.aid_filings.specs.declared.filing.What.{What}
use Rattle.aid_filings.specs.declared.filing.What.TheVariants.{Apply, Withdraw}
use Rattle.aid_stamps.specs.declared.stamp.Stamp.{Stamp}
use Rattle.aid_types.specs.declared.number.Key.{Key}
use Rattle.office_export.specs.Lines.{standing_line}
use Rattle.office_history.specs.Answer.{outcome_of, standing_of}
use Rattle.office_sheets.specs.Ledgers.{student_sheet, withdrawn_place}
use Rattle.office_sheets.specs.Lists.{list_line}
use Rattle.sheet_need.specs.Need.{need_sheet}
use Rattle.sheet_r2t4.specs.ReturnSheet.{return_sheet}
use Rattle.sheet_review.specs.BookSheet.{book_sheet}
use Rattle.office_history.specs.declared.place.Place.{Place}

-- the line in front of a part
unfoldable pub heading : List ℕ → List ℕ
heading title = codes "== " ++ title ++ codes "\n"

-- an application of the student in the year
abbrev pub applies : ℕ → ℕ → What → Bool
applies student year (Apply a) = a.student == student && a.year == year
applies student year _ = false

-- the line of the list of a filing, where it is such an application
abbrev pub application_line : ℕ → ℕ → List Filing → Stamp → Filing → List (List ℕ)
application_line student year past s f = if applies student year f.what then list_line (length past + 1) s f (outcome_of past f) ∷ [] else []

-- the lines of these applications, the oldest first; the filings and their stamps are read newest first
abbrev pub application_lines : ℕ → ℕ → List Filing → List Stamp → List (List ℕ)
application_lines student year [] stamps = []
application_lines student year (f ∷ past) [] = []
application_lines student year (f ∷ past) (s ∷ stamps) = application_lines student year past stamps ++ application_line student year past s f

-- the term from which a filing withdraws the student in the year
abbrev pub places_left : ℕ → ℕ → Key → What → List Place
places_left student year key (Withdraw w) = if w.student == student && w.year == year then withdrawn_place key w ∷ [] else []
places_left student year key _ = []

-- of all filings, the oldest first
abbrev pub withdrawal_places : ℕ → ℕ → List Filing → List Place
withdrawal_places student year [] = []
withdrawal_places student year (f ∷ past) = withdrawal_places student year past ++ places_left student year f.key f.what

-- the worksheet of a withdrawal
unfoldable pub withdrawal_part : List Filing → Place → List ℕ
withdrawal_part past p = heading (codes "Withdrawal") ++ return_sheet past p.school p.student p.year p.term

-- the applications, the year's book, how the index and the award came about, the ledger, each withdrawal, and where the student stands
abbrev pub review_sheet : List Filing → List Stamp → ℕ → ℕ → List ℕ
review_sheet past stamps student year =
    heading (codes "Applications") ++ concat (application_lines student year past stamps)
    ++ heading (codes "Year book") ++ book_sheet past (reverse stamps) year
    ++ heading (codes "Need") ++ need_sheet past student year
    ++ heading (codes "Ledger") ++ student_sheet student past stamps
    ++ concat (map (withdrawal_part past) (withdrawal_places student year past))
    ++ heading (codes "Standing") ++ standing_line student year (standing_of past student year)
