-- What was paid and what was taken back, by program.
use Rattle.std.specs.Prelude.{ℕ, Bool, List}
use Rattle.aid_types.specs.Programs.{minus, plus, six}
use Rattle.aid_filings.specs.declared.filing.Filing.{Filing}
use Rattle.office_history.specs.Net.{Cell, cell_at, is_cell, paid, taken}
use Rattle.office_history.specs.declared.place.Place.{Place}
use Rattle.office_sheets.specs.Payments.{of_program}
use Rattle.office_sheets.specs.declared.term_sums.Sums.{Sums}

-- at the cells that pass, of each program others. Own
abbrev pub sums_of : List Filing → (ℕ → Cell → Bool) → Sums
sums_of past cells = record { paid = six (λ p. paid past (cells p)); taken = six (λ p. taken past (cells p)) }

-- in a student's term at a school. Own
abbrev pub place_sums : List Filing → Place → Sums
place_sums past p = sums_of past (λ program. is_cell (cell_at p.school p.student p.year p.term program))

-- in a term of a school. Own
abbrev pub term_sums : List Filing → ℕ → ℕ → ℕ → Sums
term_sums past school year term = sums_of past (of_program school year term)

-- the sums of both, and what the first have more. Own
abbrev pub both : Sums → Sums → Sums
both a b = record { paid = plus a.paid b.paid; taken = plus a.taken b.taken }

abbrev pub rest : Sums → Sums → Sums
rest a b = record { paid = minus a.paid b.paid; taken = minus a.taken b.taken }
