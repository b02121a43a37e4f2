-- What the students of a term could be paid of Pell. Own format.
use Rattle.std.specs.Prelude.{ℕ, ◌/◌, ◌==◌, ◌&&◌, nat_lt, List, [], ◌∷◌, ◌++◌, map, Option, None, codes, decimal, if◌then◌else◌}
use Rattle.std.specs.List.{flat_map}
use Rattle.std.specs.Ordering.{nat_cmp}
use Rattle.aid_types.specs.Cents.{cents_text}
use Rattle.aid_types.specs.declared.number.Key.{Key}
use Rattle.aid_filings.specs.declared.filing.Filing.{Filing}
use Rattle.aid_filings.specs.declared.filing.What.{What}
use Rattle.aid_filings.specs.declared.filing.What.TheVariants.{Enroll}
use Rattle.office_history.specs.Answer.{quote_of, standing_of}
use Rattle.office_history.specs.Net.{pell_term}
use Rattle.office_history.specs.Past.{credits, given}
use Rattle.office_export.specs.Applicants.{told_by}
use Rattle.office_export.specs.InOrder.{in_order}
use Rattle.office_sheets.specs.Headed.{headed}
use Rattle.office_sheets.specs.declared.term_quotes.QuoteOf.{QuoteOf}

-- the student of an enrollment in the term
abbrev pub enrolled_by : ℕ → ℕ → ℕ → Key → What → Option ℕ
enrolled_by school year term key (Enroll e) = given (key.school == school && (e.year == year && e.term == term)) e.student
enrolled_by school year term key _ = None

-- those who were enrolled there, by number
abbrev pub enrolled : List Filing → ℕ → ℕ → ℕ → List ℕ
enrolled past school year term = in_order nat_cmp (told_by (λ f. enrolled_by school year term f.key f.what) past)

-- a student with credits in force there: the Scheduled Award, the term's net Pell, and the greatest payment that the school could file
abbrev pub quote_row : List Filing → ℕ → ℕ → ℕ → ℕ → List QuoteOf
quote_row past school year term student =
    if nat_lt 0 (credits past school student year term)
    then record {
      student = student;
      credits = credits past school student year term;
      scheduled = (standing_of past student year).scheduled;
      pell = pell_term past school student year term;
      quote = quote_of past school student year term;
    } ∷ []
    else []

abbrev pub quote_rows : List Filing → ℕ → ℕ → ℕ → List QuoteOf
quote_rows past school year term = flat_map (quote_row past school year term) (enrolled past school year term)

-- STUDENT,CREDITS,SCHEDULED,PELL,QUOTE: the award and the quote in whole dollars
abbrev pub quote_line : QuoteOf → List ℕ
quote_line q =
    decimal q.student ++ codes "," ++ decimal q.credits ++ codes "," ++ decimal q.scheduled ++ codes "," ++ cents_text q.pell ++ codes ","
    ++ decimal (q.quote / 100) ++ codes "\n"

-- the lines below their heading, or that nobody is enrolled
abbrev pub quotes_text : List QuoteOf → List ℕ
quotes_text rows = headed (codes "student,credits,scheduled,pell,quote\n") (map quote_line rows)

abbrev pub quotes_sheet : List Filing → ℕ → ℕ → ℕ → List ℕ
quotes_sheet past school year term = quotes_text (quote_rows past school year term)
