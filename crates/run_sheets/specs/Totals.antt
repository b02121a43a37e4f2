-- That the totals of a term's payments add up. Own.
use Rattle.std.specs.Prelude.{◌≡◌, ℕ, ◌+◌, List, ◌∷◌, ◌++◌}
use Rattle.aid_filings.specs.declared.filing.Filing.{Filing}
use Rattle.log_stamps.specs.Entries.{entries, stamps_of}
use Rattle.log_stamps.specs.declared.entry.StampedEntry.{StampedEntry}
use Rattle.office_sheets.specs.PaymentLaws.{last_total}
use Rattle.office_sheets.specs.Payments.{payment_rows}
use Rattle.office_sheets.specs.declared.ledger_rows.Movement.{Movement}
use Rattle.office_sheets.specs.declared.ledger_rows.Movement.TheVariants.{Payment}
use Rattle.office_sheets.specs.declared.payment_rows.PaymentRow.{PaymentRow}
use Rattle.run_sheets.specs.declared.request.TermRequest.{TermRequest}

-- the rows of a term's payments on a list, its newest filing first
abbrev pub rows_of : TermRequest → List (StampedEntry Filing) → List PaymentRow
rows_of t past = payment_rows t.school t.year t.term (entries past) (stamps_of past)

-- a total tells the one before it with what was paid, or less what was taken back
abbrev pub Tells : Movement → ℕ → ℕ → ℕ → Type 0
Tells Payment before cents total = total ≡ before + cents
Tells movement before cents total = total + cents ≡ before

-- rows add up: each tells the total of the last row of its program before it, 0 where there is none, with what it moves
abbrev pub AddUp : List PaymentRow → Type 0
AddUp rows =
    (before after : List PaymentRow) → (row : PaymentRow) → rows ≡ before ++ row ∷ after
    → Tells row.moved.movement (last_total row.moved.program 0 before) row.moved.cents row.total
