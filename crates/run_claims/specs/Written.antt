-- How a filing is written in a row and kept in bytes, in few words. The program goes by its table of kinds; laws of this crate
-- say that both come to the same. Own format.
use Rattle.std.specs.Prelude.{◌≡◌, ◌≢◌, ◌⊎◌, ◌<◌, ◌≤◌, ℕ, ℤ, pos, List, [], ◌∷◌, ◌++◌, codes, flat_map, length, map, slice_index_or, take}
use Rattle.std.specs.List.{All}
use Rattle.std.specs.Int.{w64, to_le_bytes, cast_unsigned}
use Rattle.jiff_core.specs.Calendar.{IsCivilDate, days_from_civil}
use Rattle.aid_types.specs.Cents.{cents_text}
use Rattle.aid_types.specs.Whole.{whole_text}
use Rattle.aid_types.specs.Programs.{rank}
use Rattle.aid_types.specs.Ranges.{IsBetween}
use Rattle.aid_types.specs.declared.application.Application.{Application}
use Rattle.aid_types.specs.declared.number.Program.{Program}
use Rattle.aid_books.specs.Ages.{IsAgeRow, IsByAge}
use Rattle.aid_books.specs.Marginal.{IsBracket, IsMarginal}
use Rattle.aid_books.specs.declared.book.Book.{Book}
use Rattle.aid_filings.specs.declared.filing.Amount.{Amount}
use Rattle.aid_filings.specs.declared.filing.Filing.{Filing}
use Rattle.aid_filings.specs.declared.filing.What.{What}
use Rattle.aid_filings.specs.declared.filing.What.TheVariants.{Book as BookFiled, School, Calendar, Prior, Apply, Enroll, Originate, Pay, Withdraw, Repay, Adjust, Cost, Sent, Amend}
use Rattle.format_kinds.specs.Book.{age_row, bracket_row, ceiling_numbers, form_number, size_numbers}
use Rattle.law_terms.specs.DayText.{date_text}
use Rattle.format_kinds.specs.Kinds.{words_of_programs}
use Rattle.format_bytes.specs.Numbers.{day_number, flag_number, region_number, side_numbers}
use Rattle.aid_stamps.specs.Clerks.{IsClerk}
use Rattle.aid_stamps.specs.Stamps.{plain_stamp}
use Rattle.aid_stamps.specs.declared.stamp.Stamp.{Stamp}
use Rattle.log_stamps.specs.declared.entry.StampedEntry.{StampedEntry}

-- a number of a filing, by how it is written and kept
pub data Number : Type 0 where
  -- in digits; kept in so many bytes
  whole : ℕ → ℤ → Number
  -- the same, from a least number to a greatest one
  ranged : ℕ → ℕ → ℕ → ℕ → Number
  -- cents, as 1234.56; kept in eight bytes
  money : ℕ → Number
  -- a day, counted from 1900-01-01, as 2025-08-25; kept in four bytes, counted from 1970-01-01
  day : ℕ → Number
  -- a program by its word; kept in one byte as its place in the order of returns
  word : Program → Number

-- the lowest bytes of a number, the lowest first; of one below 0 those of its two's complement
abbrev pub lowest : ℕ → ℤ → List ℕ
lowest width z = take width (to_le_bytes w64 (cast_unsigned w64 z))

-- the bytes of a number
abbrev pub bytes_of : Number → List ℕ
bytes_of (whole width z) = lowest width z
bytes_of (ranged width low high n) = lowest width (pos n)
bytes_of (money cents) = lowest 8 (pos cents)
bytes_of (day d) = lowest 4 (day_number d)
bytes_of (word program) = lowest 1 (pos (rank program))

-- the text is that of the day: year, month and day of the calendar (ISO 8601)
abbrev pub IsDateOf : ℕ → List ℕ → Type 0
IsDateOf d text = (y m date : ℕ) × IsCivilDate (pos y) m date × (day_number d ≡ days_from_civil (pos y) m date) × (text ≡ date_text y m date)

-- the text spells the number
abbrev pub Spells : Number → List ℕ → Type 0
Spells (whole width z) text = text ≡ whole_text z
Spells (ranged width low high n) text = text ≡ whole_text (pos n)
Spells (money cents) text = text ≡ cents_text cents
Spells (day d) text = IsDateOf d text
Spells (word program) text = text ≡ slice_index_or words_of_programs (rank program) []

-- a student's number, and an award year
abbrev pub student : ℕ → Number
student n = ranged 8 1 999999999999 n

abbrev pub year : ℕ → Number
year n = ranged 2 2000 2099 n

-- a table of a book: the count of its rows, and the numbers of each
abbrev pub table : {Row : Type 0} → (Row → List ℤ) → List Row → List Number
table numbers rows = whole 1 (pos (length rows)) ∷ map (whole 8) (flat_map numbers rows)

-- a book: its form is 2, and the ceiling its last number, where it has one
abbrev pub book_numbers : Book → List Number
book_numbers b =
    whole 8 (form_number b.ceiling) ∷ ranged 8 2000 2099 b.year ∷ map (whole 8) (b.pell.maximum ∷ b.pell.minimum ∷ b.percent.maximum_single ∷ b.percent.maximum_other
    ∷ b.percent.minimum_dependent_single ∷ b.percent.minimum_dependent_other ∷ b.percent.minimum_single_parent ∷ b.percent.minimum_parent ∷ b.percent.minimum_no_dependents
    ∷ size_numbers b.poverty.contiguous ++ size_numbers b.poverty.alaska ++ size_numbers b.poverty.hawaii
    ++ b.payroll.oasdi_cap ∷ b.payroll.oasdi_rate ∷ b.payroll.medicare_rate ∷ b.payroll.medicare_high ∷ b.payroll.threshold_single ∷ b.payroll.threshold_married
    ∷ size_numbers b.protection.parents ++ b.protection.dependent_student ∷ b.protection.single_student ∷ b.protection.married_student
    ∷ size_numbers b.protection.single_parent ++ size_numbers b.protection.married_parent
    ++ b.employment.cap ∷ b.employment.rate ∷ b.assets.parents_rate ∷ b.assets.dependent_rate ∷ b.assets.no_dependents_rate ∷ b.assets.with_dependents_rate ∷ [])
    ++ table bracket_row b.business ++ table age_row b.age
    ++ map (whole 8) (b.schedule.low_at ∷ b.schedule.low ∷ b.schedule.first_rate ∷ b.schedule.student_rate ∷ b.schedule.lowest_student ∷ [])
    ++ table bracket_row b.bracket ++ map (whole 8) (ceiling_numbers b.ceiling)

-- an application: its numbers, the student's standing and household, and the parents'
abbrev pub application_numbers : Application → List Number
application_numbers a =
    student a.student ∷ year a.year ∷ whole 1 (pos a.transaction) ∷ whole 2 (pos a.birth_year)
    ∷ map (whole 1) (region_number a.region ∷ pos a.family ∷ map flag_number (a.married ∷ a.graduate ∷ a.bachelor ∷ a.veteran ∷ a.dependents ∷ a.orphan ∷ a.ward
    ∷ a.foster ∷ a.emancipated ∷ a.homeless ∷ a.student_file ∷ []))
    ++ map (whole 8) (side_numbers a.own)
    ++ map (whole 1) (flag_number a.parents_married ∷ flag_number a.parents_file ∷ pos a.parent_age ∷ []) ++ map (whole 8) (side_numbers a.parents)

-- a payment, a repayment or an adjustment
abbrev pub amount_numbers : Amount → List Number
amount_numbers x = student x.student ∷ year x.year ∷ whole 1 (pos x.term) ∷ word x.program ∷ money x.cents ∷ []

-- what is filed: the code and the name of its kind, and its numbers behind those of the key
abbrev pub written : What → ℕ × List ℕ × List Number
written (BookFiled x) = (1, codes "book", book_numbers x)
written (School x) = (2, codes "school", whole 4 (pos x.code) ∷ whole 1 (pos x.terms) ∷ whole 1 (pos x.full) ∷ [])
written (Calendar x) = (
  3,
  codes "calendar",
  year x.year ∷ whole 1 (pos x.term) ∷ whole 1 (flag_number x.extra) ∷ day x.first ∷ day x.last
      ∷ whole 1 (pos (length x.breaks)) ∷ flat_map (λ days. day days.0 ∷ day days.1 ∷ []) x.breaks,
)
written (Prior x) = (4, codes "prior", student x.student ∷ ranged 4 0 4294967295 x.units ∷ [])
written (Apply x) = (5, codes "apply", application_numbers x)
written (Enroll x) = (6, codes "enrol", student x.student ∷ year x.year ∷ whole 1 (pos x.term) ∷ ranged 1 0 255 x.credits ∷ [])
written (Originate x) = (7, codes "originate", student x.student ∷ year x.year ∷ whole 4 (pos x.cost) ∷ [])
written (Pay x) = (8, codes "pay", amount_numbers x)
written (Withdraw x) =
    (9, codes "withdraw", student x.student ∷ year x.year ∷ whole 1 (pos x.term) ∷ day x.last ∷ day x.determined ∷ map money (x.charges ∷ x.could))
written (Repay x) = (10, codes "repay", amount_numbers x)
written (Adjust x) = (11, codes "adjust", amount_numbers x)
written (Cost x) = (12, codes "cost", student x.student ∷ year x.year ∷ whole 4 (pos x.cost) ∷ [])
written (Sent x) =
    (13, codes "sent", student x.student ∷ year x.year ∷ whole 1 (pos x.term) ∷ word x.program ∷ money x.cents ∷ day x.day ∷ whole 8 (pos x.reference) ∷ [])
written (Amend x) =
    (14, codes "amend", ranged 4 0 999999 x.of.school ∷ whole 8 (pos x.of.number) ∷ whole 1 (pos x.change) ∷ whole 1 (pos x.reason) ∷ whole 8 (pos x.reference) ∷ [])

-- all numbers of a filing, those of its key first
abbrev pub numbers_of : Filing → List Number
numbers_of f = ranged 4 0 999999 f.key.school ∷ whole 8 (pos f.key.number) ∷ (written f.what).2

-- the bytes in which a filing is kept
abbrev pub kept_bytes : Filing → List ℕ
kept_bytes f = (written f.what).0 ∷ flat_map bytes_of (numbers_of f)

-- a day, or a number with a range of its own, lies in its range; all others do by their types
abbrev pub IsInRange : Number → Type 0
IsInRange (ranged width low high n) = IsBetween low high n
IsInRange (day d) = d ≤ 2958463
IsInRange _ = Unit {0}

-- the lists of what is filed are as long as its type makes them, and the tables of a book rise
abbrev pub HasLists : What → Type 0
HasLists (BookFiled b) =
    (length b.business ≤ 16) × All IsBracket b.business × IsMarginal b.business × (length b.bracket ≤ 16) × All IsBracket b.bracket × IsMarginal b.bracket
    × (length b.age ≤ 64) × All IsAgeRow b.age × IsByAge b.age
HasLists (Calendar c) = length c.breaks ≤ 8
HasLists (Withdraw w) = length w.could ≡ 6
HasLists _ = Unit {0}

-- what a desk can file: a filing of numbers and lists that its type can hold
abbrev pub CanBeFiled : Filing → Type 0
CanBeFiled f = All IsInRange (numbers_of f) × HasLists f.what

-- ---- a filing with its stamp
-- the bytes in which it is kept: its stamp's day, the length of the clerk's name, the name, and its own
abbrev pub stamped_bytes : StampedEntry Filing → List ℕ
stamped_bytes e = bytes_of (day e.stamp.day) ++ length e.stamp.clerk ∷ e.stamp.clerk ++ kept_bytes e.entry

-- it can be filed, on a day that can be written and by a clerk that can be named
abbrev pub CanBeKept : StampedEntry Filing → Type 0
CanBeKept e = IsInRange (day e.stamp.day) × IsClerk e.stamp.clerk × CanBeFiled e.entry

-- Words say the rest behind a stamp: behind `at`, its day and its clerk's name, or, under the plain stamp, nothing else.
abbrev pub Says : Stamp → List (List ℕ) → List (List ℕ) → Type 0
Says s rest words = ((s ≡ plain_stamp) × (words ≡ rest)) ⊎ (IsInRange (day s.day) × IsClerk s.clerk × (s.clerk ≢ []) × (text : List ℕ) × IsDateOf s.day text × (words ≡ codes "at" ∷ text ∷ s.clerk ∷ rest))

-- ---- texts
-- texts that spell these numbers, one for each
abbrev pub Spell : List Number → List (List ℕ) → Type 0
Spell [] [] = Unit {0}
Spell (n ∷ ns) (text ∷ texts) = Spells n text × Spell ns texts
Spell _ _ = ⊥

-- the row files this: the name of its kind, and behind it its numbers. A book has no row
abbrev pub Files : List (List ℕ) → Filing → Type 0
Files [] f = ⊥
Files (name ∷ texts) f = CanBeFiled f × (1 < (written f.what).0) × (name ≡ (written f.what).1) × Spell (numbers_of f) texts
