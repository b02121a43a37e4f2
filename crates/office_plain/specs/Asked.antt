-- Questions that are put to filings and to terms on file.
use Rattle.std.specs.Prelude.{◌≡◌, ℕ, Bool, Option}
use Rattle.std.specs.Borrow.{Bor}
use Rattle.aid_filings.specs.declared.filing.CalendarFacts.{CalendarFacts}
use Rattle.aid_filings.specs.declared.filing.Filing.{Filing}
use Rattle.office_history.specs.Past.{FiledTerm}
use Rattle.office_plain.specs.Terms.{on_file_at}

-- a closure answers of each filing what is told of it
abbrev pub Answers : {A : Type 0} → (Bor Filing → Option A → Type 0) → (Filing → Option A) → Type 0
Answers post told = (x : Bor Filing) (r : _) → post x r → r ≡ told x.now

-- a closure tests each calendar that a school filed
abbrev pub Tests : (ℕ → Bor CalendarFacts → Bool → Type 0) → (FiledTerm → Bool) → Type 0
Tests post test = (school position : ℕ) (x : Bor CalendarFacts) (r : Bool) → post school x r → r ≡ test (on_file_at school position x.now)
