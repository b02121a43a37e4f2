-- How many rows a question may walk over.
use Rattle.std.specs.Prelude.{ℕ, ◌+◌, List, Option, Some, None}
use Rattle.aid_filings.specs.declared.filing.Filing.{Filing}
use Rattle.office_history.specs.FirstEnrollments.{places_of}
use Rattle.office_history.specs.Rows.{terms_at}

-- the terms at schools in which a student is enrolled, where a student is named
abbrev pub places_in : List Filing → Option ℕ → ℕ
places_in past None = 0
places_in past (Some student) = places_of past student

-- the terms of a school, and the terms at schools in which a student is enrolled
abbrev pub walked : List Filing → ℕ → Option ℕ → ℕ
walked past school student = terms_at past school + places_in past student
