-- The worksheet of the Student Aid Index and of the award of a student's application in force (HEA 401(b), 475 to 478, 480).
use Rattle.std.specs.Prelude.{ℕ, List, ◌++◌, codes, decimal}
use Rattle.aid_books.specs.declared.book.Book.{Book}
use Rattle.aid_types.specs.Words.{formula_text}
use Rattle.aid_types.specs.declared.application.Application.{Application}
use Rattle.aid_types.specs.declared.award.Formula.{Formula}
use Rattle.aid_types.specs.declared.award.Formula.TheVariants.{A, B, C}
use Rattle.law_sai.specs.Formulas.{formula}
use Rattle.law_sai.specs.Index.{index_lines}
use Rattle.law_sai.specs.declared.IndexLines.{IndexLines}
use Rattle.law_pell.specs.Award.{decision_of}
use Rattle.law_pell.specs.declared.Decision.{Decision}
use Rattle.sheet_need.specs.NeedEntries.{award_entries, dependent_entries, family_entries, parent_entries, single_entries}
use Rattle.sheet_need.specs.NeedLines.{entries_text}

-- whose sheet it is, and on which filings it stands
abbrev pub title : Formula → Application → List ℕ
title f a =
    codes "Student Aid Index of student " ++ decimal a.student ++ codes ", award year " ++ decimal a.year ++ codes ": formula "
    ++ formula_text f ++ codes "\n"

abbrev pub places : Application → ℕ → ℕ → List ℕ
places a at book_at =
    codes "application at " ++ decimal at ++ codes ", transaction " ++ decimal a.transaction ++ codes "; year book at "
    ++ decimal book_at ++ codes "\n"

-- the households of a formula: the parents and the student, or the student alone
abbrev pub households : Formula → Book → Application → IndexLines → List ℕ
households A book a l =
    codes "parents\n" ++ entries_text (parent_entries book a l) ++ codes "student\n" ++ entries_text (dependent_entries book a l)
households B book a l = codes "student\n" ++ entries_text (single_entries book a l)
households C book a l = codes "student\n" ++ entries_text (family_entries book a l)

-- what is worked out: the households, and the award
unfoldable pub worked_by : Formula → Book → Application → IndexLines → Decision → List ℕ
worked_by f book a l d = households f book a l ++ codes "award\n" ++ entries_text (award_entries f book a l d)

-- the sheet of an application under a book, each at its position
abbrev pub need_text : Book → Application → ℕ → ℕ → List ℕ
need_text book a at book_at =
    title (formula book a) a ++ places a at book_at ++ worked_by (formula book a) book a (index_lines book a) (decision_of book a)
