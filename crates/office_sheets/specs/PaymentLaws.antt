-- What the rows of a term's payments tell, in a reader's words. Own.
use Rattle.std.specs.Prelude.{◌≡◌, ℕ, ◌==◌, List, [], ◌∷◌, if◌then◌else◌}
use Rattle.aid_types.specs.Programs.{rank}
use Rattle.aid_types.specs.declared.number.Program.{Program}
use Rattle.aid_filings.specs.declared.filing.Amount.{Amount}
use Rattle.aid_filings.specs.declared.filing.Filing.{Filing}
use Rattle.office_sheets.specs.declared.ledger_rows.Movement.TheVariants.{Payment}
use Rattle.office_sheets.specs.declared.payment_rows.PaymentRow.{PaymentRow}

-- the total of the last row of a program, and otherwise so much
abbrev pub last_total : Program → ℕ → List PaymentRow → ℕ
last_total program total [] = total
last_total program total (row ∷ rows) = last_total program (if rank row.moved.program == rank program then row.total else total) rows

-- the row of a payment that stands at a position: its key, its student, its program and the amount that was filed
pub record IsPaymentOf (place : ℕ) (f : Filing) (a : Amount) (row : PaymentRow) : Type 0 where
  pub position : row.position ≡ place
  pub key : row.key ≡ f.key
  pub student : row.student ≡ a.student
  pub kind : row.moved.movement ≡ Payment
  pub program : row.moved.program ≡ a.program
  pub amount : row.moved.cents ≡ a.cents
