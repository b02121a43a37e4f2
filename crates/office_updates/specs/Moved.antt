-- The rows of a student and of a student's year with what a filing brings.
use Rattle.std.specs.Prelude.{◌≡◌, ℕ, ◌+◌, ◌-◌, ◌*◌, ◌≤◌, ◌==◌, ◌&&◌, Bool, true, false, List, ◌∷◌, Option, slice_index}
use Rattle.aid_filings.specs.declared.filing.Filing.{Filing}
use Rattle.aid_types.specs.Programs.{minus, plus}
use Rattle.aid_types.specs.declared.application.Application.{Application}
use Rattle.aid_types.specs.declared.term.Term.{Term}
use Rattle.law_terms.specs.Used.{use_of}
use Rattle.law_pell.specs.declared.Ceiling.{Ceiling}
use Rattle.office_history.specs.Past.{first_of_two, is_extra}
use Rattle.office_history.specs.Rows.{year_row}
use Rattle.office_history.specs.declared.account.Account.{Account}
use Rattle.office_history.specs.declared.rows.StudentRow.{StudentRow}
use Rattle.office_history.specs.declared.rows.YearRow.{YearRow}

-- the net Pell of the main terms with what moved in a term, which is an extra one or not
abbrev pub main_moved : Bool → ℕ → Account → ℕ
main_moved true main moved = main
main_moved false main moved = (main + slice_index moved.paid 3) - slice_index moved.taken 3

-- a year with what moved in a term of it
abbrev pub year_moved : YearRow → Option Term → Account → YearRow
year_moved before term moved = record before {
  nets = minus (plus before.nets moved.paid) moved.taken;
  main = main_moved (is_extra term) before.main moved;
}

-- a year with an application that corrects it, the award that this gives, the ceiling that decides on it, and its position
abbrev pub year_applied : YearRow → Application → ℕ → Ceiling → ℕ → YearRow
year_applied before a award ceiling here = record before {
  transaction = a.transaction;
  application_at = here;
  scheduled = award;
  ceiling = ceiling;
}

-- no more is paid of a year than one and a half of its award
abbrev pub IsWithinYear : YearRow → Type 0
IsWithinYear year = slice_index year.nets 3 ≤ 150 * year.scheduled

-- the lifetime units that a year uses
abbrev pub use_of_year : YearRow → ℕ
use_of_year year = use_of (slice_index year.nets 3) year.scheduled

-- a student with what one year uses before and after
abbrev pub student_moved : StudentRow → YearRow → YearRow → StudentRow
student_moved student before after = record student { used = (student.used - use_of_year before) + use_of_year after }

-- a student with a payment, of Pell or not, at a position
abbrev pub student_paid : StudentRow → Bool → ℕ → StudentRow
student_paid student is_pell here = record student { pell_at = first_of_two is_pell student.pell_at here }

-- a student with the use before this office, filed at a position
abbrev pub student_prior : StudentRow → ℕ → ℕ → StudentRow
student_prior student here units = record student { prior_at = here; used = student.used + units }

-- a filing changes no other year than one
abbrev pub ChangesYear : List Filing → Filing → ℕ → ℕ → Type 0
ChangesYear past f student year = (s y : ℕ) → (student == s && year == y) ≡ false → year_row (f ∷ past) s y ≡ year_row past s y
