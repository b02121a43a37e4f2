-- What the calendar that is filed says of a term, whoever files it.
use Rattle.std.specs.Prelude.{ℕ, ◌==◌, ◌&&◌, Bool, false, not}
use Rattle.aid_filings.specs.Calendars.{term_of}
use Rattle.aid_types.specs.declared.term.Term.{Term}
use Rattle.aid_filings.specs.declared.filing.What.{What}
use Rattle.aid_filings.specs.declared.filing.What.TheVariants.{Calendar}
use Rattle.law_terms.specs.Terms.{shares_day}

-- its term shares a day with this one
abbrev pub overlaps : Term → What → Bool
overlaps term (Calendar c) = shares_day term (term_of c)
overlaps term _ = false

-- its term is a main one of the year
abbrev pub is_main : ℕ → What → Bool
is_main year (Calendar c) = c.year == year && not c.extra
is_main year _ = false
