-- What histories of filings in range tell is in range.
use Rattle.std.proofs.Common.{◌≡◌, ℕ, ◌≤◌, arith, List, Option, Some, None, zero-le}
use Rattle.aid_types.specs.declared.application.Application.{Application}
use Rattle.aid_books.specs.declared.book.Book.{Book}
use Rattle.aid_filings.specs.declared.filing.Filing.{Filing}
use Rattle.office_history.specs.Answer.{IsLegal, standing_of, standing_under}
use Rattle.office_history.specs.Award.{award_under, scheduled_of}
use Rattle.office_history.specs.Past.{application, the_book}
use Rattle.office_history.specs.Net.{pell_year, used}
use Rattle.office_history.proofs.FactsInRange.{scheduled_in_range}
use Rattle.office_history.proofs.LegalWithin.{legal_within}
use Rattle.office_export.specs.Forms.{form_of, standing_form}
use Rattle.office_export.proofs.Laws.{IsWritable, form_of-standing_line}
use Rattle.audit.specs.Findings.{Asked, IsAsked, right_line}

-- a row's numbers are small
pub record IsSmallRow (past : List Filing) (student year : ℕ) : Type 0 where
  pub transaction : (standing_of past student year).transaction ≤ 99
  pub scheduled : (standing_of past student year).scheduled ≤ 100000
  pub used : (standing_of past student year).used ≤ 600000

pub standing_small : (past : List Filing) (student year : ℕ) → IsLegal past → IsSmallRow past student year
unfolding scheduled_of
standing_small past student year legal = record {
  transaction = filed (the_book past year) (application past student year) (pell_year past student year) (used past student);
  scheduled = award (the_book past year) (application past student year) (pell_year past student year) (used past student) (scheduled_in_range past student year);
  used = lifetime (the_book past year) (application past student year) (pell_year past student year) (used past student) ((legal_within past legal).lifetime student);
}
  where
    filed : (b : Option Book) (a : Option Application) (paid n : ℕ) → (standing_under b a paid n).transaction ≤ 99
    filed None a paid n = zero-le
    filed (Some b) None paid n = zero-le
    filed (Some b) (Some a) paid n = a.in_range.0.1

    award : (b : Option Book) (a : Option Application) (paid n : ℕ) → award_under b a ≤ 100000 → (standing_under b a paid n).scheduled ≤ 100000
    award None a paid n h = h
    award (Some b) None paid n h = h
    award (Some b) (Some a) paid n h = h

    lifetime : (b : Option Book) (a : Option Application) (paid n : ℕ) → n ≤ 600000 → (standing_under b a paid n).used ≤ 600000
    lifetime None a paid n h = h
    lifetime (Some b) None paid n h = h
    lifetime (Some b) (Some a) paid n h = h

-- the line that tells where a student stands has the form of one
pub standing_writable : (past : List Filing) (student year : ℕ) → IsLegal past → IsWritable (standing_of past student year)
standing_writable past student year legal =
    let small = standing_small past student year legal in
    record { transaction = omega (arith, small.transaction); scheduled = omega (arith, small.scheduled); used = omega (arith, small.used) }

pub form_of-right : (past : List Filing) (s : Asked) → IsLegal past → IsAsked s → form_of (right_line past s) ≡ Some (standing_form s.0 s.1)
form_of-right past s legal operations =
    form_of-standing_line s.0 s.1 (standing_of past s.0 s.1) operations.student operations.most_student operations.year operations.most_year (standing_writable past s.0 s.1 legal)
