-- The rows of a generated year. Each is told by its kind and its numbers in the order of the kind's fields, those of its key
-- first. Own.
use Rattle.std.specs.Prelude.{ℕ, zero, suc, ◌+◌, ◌-◌, ◌*◌, ◌/◌, ◌%◌, ◌==◌, ℤ, pos, List, [], ◌∷◌, ◌++◌, if◌then◌else◌}
use Rattle.aid_filings.specs.declared.filing.Filing.{Filing}
use Rattle.law_terms.specs.CivilDays.{days_from_1900}
use Rattle.format_kinds.specs.declared.kind.Kind.{Kind}
use Rattle.format_kinds.specs.declared.kind.Kind.TheVariants.{School, Calendar, Apply, Enroll, Originate, Withdraw}
use Rattle.format_bytes.specs.Numbers.{day_number, kind_of, numbers_of}
use Rattle.run_generate.specs.Drawn.{draws_behind, later}
use Rattle.run_generate.specs.declared.operation.QuotePayment.{QuotePayment}
use Rattle.run_generate.specs.declared.operation.YearOperation.{YearOperation}
use Rattle.run_generate.specs.declared.operation.YearOperation.TheVariants.{File, PayQuote}
use Rattle.run_generate.specs.declared.draws.Draws.{Draws}

-- what a row says: to file these numbers, or to pay the quote of a student's term, under a school's number
pub data YearRow : Type 0 where
  files : Kind → List ℤ → YearRow
  pays_quote : (school number student year term : ℕ) → YearRow

-- what an ask says
unfoldable pub says : YearOperation → YearRow
says (File filing) = files (kind_of filing.what) (numbers_of filing)
says (PayQuote pay) = pays_quote pay.key.school pay.key.number pay.student pay.year pay.term

-- so many zeros
abbrev pub zeros : ℕ → List ℤ
zeros zero = []
zeros (suc n) = pos 0 ∷ zeros n

-- school 101 + k has 2 main terms and 12 full-time credits
abbrev pub school_row : ℕ → YearRow
school_row k = files School (pos 0 ∷ pos (k + 2) ∷ pos (101 + k) ∷ pos 2 ∷ pos 12 ∷ [])

-- a main term without breaks of school 101 + k, filed under its own number, from its first day to its last
abbrev pub term_row : ℕ → ℕ → ℕ → ℕ → ℕ → YearRow
term_row k y term first last = files Calendar (pos (101 + k) ∷ pos term ∷ pos y ∷ pos term ∷ pos 0 ∷ day_number first ∷ day_number last ∷ pos 0 ∷ [])

-- term 1 from August 25 to December 12, and term 2 from January 12 to May 1 of the next year
abbrev pub autumn : ℕ → ℕ
autumn y = days_from_1900 y 8 25

abbrev pub autumn_row : ℕ → ℕ → YearRow
autumn_row y k = term_row k y 1 (autumn y) (days_from_1900 y 12 12)

abbrev pub spring_row : ℕ → ℕ → YearRow
spring_row y k = term_row k y 2 (days_from_1900 (y + 1) 1 12) (days_from_1900 (y + 1) 5 1)

-- the four schools, and then the two terms of each
abbrev pub founding_rows : ℕ → List YearRow
founding_rows y =
    school_row 0 ∷ school_row 1 ∷ school_row 2 ∷ school_row 3
    ∷ autumn_row y 0 ∷ spring_row y 0 ∷ autumn_row y 1 ∷ spring_row y 1 ∷ autumn_row y 2 ∷ spring_row y 2 ∷ autumn_row y 3 ∷ spring_row y 3 ∷ []

-- what is drawn for a student: the school, the parents' income in dollars, and the credits in term 1
abbrev pub school_of : Draws → ℕ
school_of d = 101 + d.school % 4

abbrev pub income_of : Draws → ℕ
income_of d = d.income % 120000

abbrev pub credits_of : Draws → ℕ
credits_of d = 3 + d.credits % 10

-- the first transaction of student i, who is 19, one of four in the family, and answers no to each question of independence; both
-- have to file a return, the parents are married, the older is 48, they earned their income and paid a tenth of it
abbrev pub apply_row : ℕ → ℕ → Draws → YearRow
apply_row y i d = files Apply (
    pos (school_of d) ∷ pos (10 * i) ∷ pos i ∷ pos y ∷ pos 1 ∷ pos (y - 19) ∷ pos 0 ∷ pos 4 ∷ (zeros 10 ++ (pos 1 ∷ (zeros 16
    ++ (pos 1 ∷ pos 1 ∷ pos 48 ∷ pos (income_of d) ∷ (zeros 8 ++ (pos (income_of d / 10) ∷ pos (income_of d) ∷ zeros 5)))))))

abbrev pub enroll_row : ℕ → ℕ → Draws → YearRow
enroll_row y i d = files Enroll (pos (school_of d) ∷ pos (10 * i + 1) ∷ pos i ∷ pos y ∷ pos 1 ∷ pos (credits_of d) ∷ [])

abbrev pub originate_row : ℕ → ℕ → Draws → YearRow
originate_row y i d = files Originate (pos (school_of d) ∷ pos (10 * i + 2) ∷ pos i ∷ pos y ∷ pos 24000 ∷ [])

abbrev pub pay_row : ℕ → ℕ → Draws → YearRow
pay_row y i d = pays_quote (school_of d) (10 * i + 3) i y 1

-- the last day of attendance, counted from the term's first day, of a student who withdraws
abbrev pub last_day : ℕ → Draws → ℕ
last_day y d = autumn y + d.leave / 16 % 100

-- a withdrawal determined 7 days later, with charges of 2,000 dollars
abbrev pub withdraw_row : ℕ → ℕ → Draws → YearRow
withdraw_row y i d = files Withdraw (
    pos (school_of d) ∷ pos (10 * i + 4) ∷ pos i ∷ pos y ∷ pos 1 ∷ day_number (last_day y d) ∷ day_number (last_day y d + 7) ∷ pos 200000 ∷ zeros 6)

-- one student in sixteen withdraws
abbrev pub withdraw_rows : ℕ → ℕ → Draws → List YearRow
withdraw_rows y i d = if d.leave % 16 == 0 then withdraw_row y i d ∷ [] else []

abbrev pub student_rows : ℕ → ℕ → Draws → List YearRow
student_rows y i d = apply_row y i d ∷ enroll_row y i d ∷ originate_row y i d ∷ pay_row y i d ∷ withdraw_rows y i d

-- so many students, numbered from i on, drawn behind a number
unfoldable pub students_rows : ℕ → ℕ → ℕ → ℕ → List YearRow
students_rows y zero i x = []
students_rows y (suc n) i x = student_rows y i (draws_behind x) ++ students_rows y n (i + 1) (later x)
