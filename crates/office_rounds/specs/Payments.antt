-- The payments that awards come to. Own: an award is paid by one payment, under the next key of the school.
use Rattle.std.specs.Prelude.{◌≡◌, ℕ, zero, suc, ◌+◌, ◌*◌, List, [], ◌∷◌}
use Rattle.aid_types.specs.declared.number.Program.TheVariants.{Fseog}
use Rattle.aid_filings.specs.declared.filing.Amount.{Amount}
use Rattle.aid_filings.specs.declared.filing.Filing.{Filing}
use Rattle.aid_filings.specs.declared.filing.What.TheVariants.{Pay}
use Rattle.law_funds.specs.declared.candidate.Candidate.{Candidate}
use Rattle.office_rounds.specs.declared.request.RoundRequest.{RoundRequest}

-- a filing is the payment of an award of so many whole dollars to a student under a number of the school
pub record IsPayment (r : RoundRequest) (next payee award : ℕ) (f : Filing) : Type 0 where
  pub amount : Amount
  pub what : f.what ≡ Pay amount
  pub school : f.key.school ≡ r.school
  pub number : f.key.number ≡ next
  pub student : amount.student ≡ payee
  pub year : amount.year ≡ r.year
  pub term : amount.term ≡ r.term
  pub program : amount.program ≡ Fseog
  pub cents : amount.cents ≡ 100 * award

-- of candidates with their awards: a payment for each award above 0, under the numbers from one on
abbrev pub ArePayments : RoundRequest → ℕ → List Candidate → List ℕ → List Filing → Type 0
ArePayments r number (c ∷ cs) (zero ∷ awards) filings = ArePayments r number cs awards filings
ArePayments r number (c ∷ cs) (suc more ∷ awards) filings =
    (f : Filing) × (rest : List Filing) × (filings ≡ f ∷ rest) × IsPayment r number c.student (suc more) f
    × ArePayments r (number + 1) cs awards rest
ArePayments r number [] awards filings = filings ≡ []
ArePayments r number (c ∷ cs) [] filings = filings ≡ []
