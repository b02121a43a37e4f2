-- The worksheet of a student's withdrawal from a term of a school (HEA 484B; 34 CFR 668.22).
use Rattle.std.specs.Prelude.{ℕ, ◌-◌, ◌==◌, if◌then◌else◌, List, [], ◌++◌, codes, decimal, drop, length, replicate, Option, Some, None}
use Rattle.std.specs.List.{flat_map}
use Rattle.aid_types.specs.Words.{program_text}
use Rattle.aid_types.specs.declared.number.Key.{Key}
use Rattle.aid_filings.specs.declared.filing.Filing.{Filing}
use Rattle.aid_filings.specs.declared.filing.What.{What}
use Rattle.aid_filings.specs.declared.filing.What.TheVariants.{Withdraw}
use Rattle.aid_filings.specs.declared.filing.WithdrawFacts.{WithdrawFacts}
use Rattle.law_terms.specs.Days.{day_text}
use Rattle.office_history.specs.Net.{sheet}
use Rattle.office_history.specs.Positions.{withdrawn_at}
use Rattle.office_history.specs.Rows.{filing_in}
use Rattle.office_reports.specs.Columns.{right}
use Rattle.office_reports.specs.Lines.{due_text}
use Rattle.office_reports.specs.Rows.{all_programs, due_day}
use Rattle.sheet_r2t4.specs.ReturnEntries.{return_entries}
use Rattle.sheet_r2t4.specs.ReturnLines.{lines_text}

-- the filings before a position, which counts from 1 at the oldest
abbrev pub before : List Filing → ℕ → List Filing
before past position = drop (length past - (position - 1)) past

-- whose sheet it is. Own format
abbrev pub title : Key → WithdrawFacts → List ℕ
title key w =
    codes "Return of funds: student " ++ decimal w.student ++ codes ", school " ++ decimal key.school ++ codes ", award year " ++ decimal w.year
    ++ codes ", term " ++ decimal w.term ++ codes "\n"

-- the day on which a return is due, where there is something to return. Own format
abbrev pub due_words : ℕ → ℕ → List ℕ
due_words school determined = if school == 0 then [] else codes ", return due " ++ due_text (due_day determined)

-- on which filing it stands, and the days that count. Own format
abbrev pub places : ℕ → Key → WithdrawFacts → ℕ → List ℕ
places position key w school =
    codes "withdrawal at " ++ decimal position ++ codes ", number " ++ decimal key.number ++ codes ": last day " ++ day_text w.last
    ++ codes ", determined " ++ day_text w.determined ++ due_words school w.determined ++ codes "\n"

-- the heads of the columns. Own format
unfoldable pub heading : List ℕ
heading = replicate 30 32 ++ flat_map (λ program. right 11 (program_text program)) all_programs ++ right 11 (codes "all") ++ codes "\n"

-- the sheet of the withdrawal at a position; `past` are the filings before it, `now` all of them
abbrev pub return_text : List Filing → List Filing → ℕ → Key → WithdrawFacts → List ℕ
return_text past now position key w =
    title key w ++ places position key w (sheet past key w).school ++ heading ++ lines_text (return_entries past now key w (sheet past key w))

-- that of the filing at a position, `none` where it's no withdrawal
abbrev pub sheet_of : List Filing → ℕ → Key → What → List ℕ
sheet_of past position key (Withdraw w) = return_text (before past position) past position key w
sheet_of past position key _ = codes "none\n"

-- that of what stands at a position, `none` where nothing does
abbrev pub sheet_at : List Filing → ℕ → Option Filing → List ℕ
sheet_at past position None = codes "none\n"
sheet_at past position (Some f) = sheet_of past position f.key f.what

-- that of the student's withdrawal from a term, `none` where none is on file
unfoldable pub return_sheet : List Filing → ℕ → ℕ → ℕ → ℕ → List ℕ
return_sheet past school student year term =
    sheet_at past (withdrawn_at past school student year term) (filing_in past (withdrawn_at past school student year term))
