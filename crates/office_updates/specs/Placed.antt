-- What the rows of places tell of a history.
use Rattle.std.specs.Prelude.{◌≡◌, ℕ, List, Option, Some, None}
use Rattle.sorted_rows.specs.Places.{value_at}
use Rattle.aid_filings.specs.declared.filing.Filing.{Filing}
use Rattle.aid_types.specs.Programs.{six}
use Rattle.office_history.specs.Accounts.{nothing}
use Rattle.office_history.specs.Rows.{place_row}
use Rattle.office_history.specs.declared.rows.PlaceRow.{PlaceRow}
use Rattle.office_history.specs.Names.{place_cmp}
use Rattle.office_history.specs.declared.names.StudentPlace.{StudentPlace}

-- what the row of a place tells, and what is told where there is none
abbrev pub place_or : Option PlaceRow → PlaceRow
place_or None = record { credits = 0; withdrawn_at = 0; could = six (λ p. 0); determined = 0; account = nothing }
place_or (Some row) = row

-- the rows tell of each place what is on file
abbrev pub ArePlaces : List Filing → List (StudentPlace × PlaceRow) → Type 0
ArePlaces past rows = (school student year term : ℕ) →
    place_or (value_at place_cmp (record { student = student; school = school; year = year; term = term }) rows)
    ≡ place_row past school student year term
