-- The lines of the payments of a term. Own format.
use Rattle.std.specs.Prelude.{ℕ, List, [], ◌∷◌, ◌++◌, codes, decimal, map}
use Rattle.aid_types.specs.Cents.{cents_text}
use Rattle.aid_types.specs.Words.{program_text}
use Rattle.law_terms.specs.Days.{day_text}
use Rattle.format_filings.specs.WrittenRows.{joined}
use Rattle.office_sheets.specs.Headed.{headed}
use Rattle.office_sheets.specs.LedgerLines.{moved_text, movement_text}
use Rattle.office_sheets.specs.Lists.{clerk_text}
use Rattle.office_sheets.specs.declared.payment_rows.PaymentRow.{PaymentRow}

-- POSITION,SCHOOL,NUMBER,KIND,STUDENT,YEAR,TERM,PROGRAM,AMOUNT,TOTAL,DAY,CLERK: what is taken back has a minus before it
abbrev pub payment_line : PaymentRow → List ℕ
payment_line r =
    joined (
    decimal r.position ∷ decimal r.key.school ∷ decimal r.key.number ∷ movement_text r.moved.movement ∷ decimal r.student ∷ decimal r.year
    ∷ decimal r.term ∷ program_text r.moved.program ∷ moved_text r.moved.movement r.moved.cents ∷ cents_text r.total ∷ day_text r.stamp.day
    ∷ clerk_text r.stamp.clerk ∷ [])
    ++ codes "\n"

-- the lines below their heading, or that nothing moved
abbrev pub payments_text : List PaymentRow → List ℕ
payments_text rows = headed (codes "position,school,number,kind,student,year,term,program,amount,total,day,clerk\n") (map payment_line rows)
