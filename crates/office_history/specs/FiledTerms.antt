-- What a calendar that is filed adds to the terms on file.
use Rattle.std.specs.Prelude.{ℕ, ◌==◌, ◌&&◌, Bool, false, not}
use Rattle.aid_filings.specs.Calendars.{term_of}
use Rattle.aid_types.specs.declared.term.Term.{Term}
use Rattle.aid_filings.specs.declared.filing.What.{What}
use Rattle.aid_filings.specs.declared.filing.What.TheVariants.{Calendar}
use Rattle.law_terms.specs.Terms.{shares_day}

-- the filer is the school, and files a term that shares a day with this one
abbrev pub is_overlapping : ℕ → Term → ℕ → What → Bool
is_overlapping school term filer (Calendar c) = filer == school && shares_day term (term_of c)
is_overlapping school term filer _ = false

-- the filer is the school, and files a main term of the year
abbrev pub is_main_term : ℕ → ℕ → ℕ → What → Bool
is_main_term school year filer (Calendar c) = filer == school && (c.year == year && not c.extra)
is_main_term school year filer _ = false
