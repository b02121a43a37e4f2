-- The limits of the law and of an office's files by name. Each computes to its number.
use Rattle.std.specs.Prelude.{ℕ, Bool, ◌==◌}

-- lifetime eligibility used, in thousandths of a percent of a Scheduled Award: twelve semesters, six years (HEA 401(d)(5))
abbrev pub most_units : ℕ
most_units = 600000

-- FSEOG of a student in a year, in cents: 4,000 dollars (HEA 413B(a)(2))
abbrev pub fseog_limit : ℕ
fseog_limit = 400000

-- the filings of an office
abbrev pub most_filings : ℕ
most_filings = 1000000

-- the filings of a desk under rules, as of loans and of work-study
abbrev pub most_desk_filings : ℕ
most_desk_filings = 200000

-- the filings of an export that the auditor judges
abbrev pub most_exported : ℕ
most_exported = 20000

-- a program by its place in the order of returns, from 0: unsubsidized, subsidized and PLUS loans stand before Pell Grants
abbrev pub is_pell : ℕ → Bool
is_pell place = place == 3

-- FSEOG stands behind them
abbrev pub is_fseog : ℕ → Bool
is_fseog place = place == 4
