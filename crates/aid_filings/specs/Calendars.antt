-- The term that a calendar is of.
use Rattle.aid_filings.specs.declared.filing.CalendarFacts.{CalendarFacts}
use Rattle.aid_types.specs.declared.term.Term.{Term}

-- its number, kind, days and breaks
abbrev pub term_of : CalendarFacts → Term
term_of c = record { number = c.term; extra = c.extra; first = c.first; last = c.last; breaks = c.breaks; in_range = c.in_range }
