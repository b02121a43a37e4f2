-- Terms on file by their school and number.
use Rattle.std.specs.Prelude.{ℕ, ◌+◌, ◌*◌, nat_lt, Option, Some, None, if◌then◌else◌}
use Rattle.aid_filings.specs.Calendars.{term_of}
use Rattle.aid_filings.specs.declared.filing.CalendarFacts.{CalendarFacts}
use Rattle.aid_filings.specs.declared.filing.What.{What}
use Rattle.aid_filings.specs.declared.filing.What.TheVariants.{Calendar}
use Rattle.office_history.specs.Past.{FiledTerm}

-- the calendar that is filed
abbrev pub calendar_in : What → Option CalendarFacts
calendar_in (Calendar c) = Some c
calendar_in _ = None

-- the term of a calendar that a school filed at a position
abbrev pub on_file_at : ℕ → ℕ → CalendarFacts → FiledTerm
on_file_at school position c = record { school = school; year = c.year; position = position; term = term_of c }

-- its school and its number
abbrev pub place_of : FiledTerm → ℕ × ℕ
place_of t = (t.school, t.term.number)

-- the one of two with the lesser school, then the lesser number
abbrev pub earlier_place : ℕ × ℕ → Option (ℕ × ℕ) → Option (ℕ × ℕ)
earlier_place a None = Some a
earlier_place a (Some b) = if nat_lt (9 * a.0 + a.1) (9 * b.0 + b.1) then Some a else Some b
