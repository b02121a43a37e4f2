-- An office as its callers see it.
use Rattle.std.specs.Prelude.{◌≡◌, ◌≢◌, ℕ, ◌*◌, List, [], ◌∷◌, ◌++◌, Some}
use Rattle.aid_filings.specs.declared.filing.Amount.{Amount}
use Rattle.aid_filings.specs.declared.filing.Filing.{Filing}
use Rattle.aid_filings.specs.declared.filing.What.TheVariants.{Pay}
use Rattle.aid_types.specs.declared.number.Program.TheVariants.{Pell}
use Rattle.aid_filings.specs.declared.reply.Outcome.{Outcome}
use Rattle.office_history.specs.Answer.{outcome_of}
use Rattle.office_history.specs.Rows.{filing_in}

-- its filings, the newest first, and how many more it takes without asking for memory
pub record Register : Type 0 where
  pub history : List Filing
  pub spare : ℕ

-- at a position stands another filing with a filing's key
abbrev pub IsKeyUsedAt : List Filing → ℕ → Filing → Type 0
IsKeyUsedAt past position f = (other : Filing) × (filing_in past position ≡ Some other) × (other.key ≡ f.key) × (other ≢ f)

-- with what each filing was admitted, the oldest first
abbrev pub outcomes_of : List Filing → List Outcome
outcomes_of [] = []
outcomes_of (f ∷ past) = outcomes_of past ++ outcome_of past f ∷ []

-- a filing is a payment of so many whole dollars of Pell by a school to a student for a term
abbrev pub IsPellPayment : Filing → ℕ → ℕ → ℕ → ℕ → ℕ → Type 0
IsPellPayment f school student year term dollars =
    (a : Amount) × (f.what ≡ Pay a) × (a.program ≡ Pell) × (a.cents ≡ 100 * dollars) × (f.key.school ≡ school)
    × (a.student ≡ student) × (a.year ≡ year) × (a.term ≡ term)
