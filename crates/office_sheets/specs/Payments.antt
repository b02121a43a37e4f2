-- The payments of a term: every movement of money of all its students, as a bursar reads them. Own format.
use Rattle.std.specs.Prelude.{ℕ, ◌==◌, ◌&&◌, nat_lt, Bool, false, List, [], ◌∷◌, ◌++◌, length, slice_index, Option, Some, None, if◌then◌else◌}
use Rattle.std.specs.List.{flat_map}
use Rattle.aid_types.specs.Programs.{rank}
use Rattle.aid_types.specs.declared.number.Key.{Key}
use Rattle.aid_types.specs.declared.number.Program.{Program}
use Rattle.aid_filings.specs.declared.filing.Amount.{Amount}
use Rattle.aid_filings.specs.declared.filing.Filing.{Filing}
use Rattle.aid_filings.specs.declared.filing.What.{What}
use Rattle.aid_filings.specs.declared.filing.What.TheVariants.{Pay, Withdraw, Repay, Adjust}
use Rattle.aid_stamps.specs.declared.stamp.Stamp.{Stamp}
use Rattle.office_history.specs.Net.{Cell, net}
use Rattle.office_history.specs.Own.{own_place}
use Rattle.office_history.specs.declared.place.Place.{Place}
use Rattle.office_reports.specs.Rows.{all_programs}
use Rattle.office_sheets.specs.Ledgers.{returned_by, withdrawn_place}
use Rattle.office_sheets.specs.PaymentLines.{payments_text}
use Rattle.office_sheets.specs.declared.ledger_rows.Moved.{Moved}
use Rattle.office_sheets.specs.declared.ledger_rows.Movement.{Movement}
use Rattle.office_sheets.specs.declared.ledger_rows.Movement.TheVariants.{Payment, Return, Repayment, Adjustment}
use Rattle.office_sheets.specs.declared.payment_rows.PaymentRow.{PaymentRow}

-- the cells of a program in a term of a school
abbrev pub of_program : ℕ → ℕ → ℕ → ℕ → Cell → Bool
of_program school year term program c = c.school == school && (c.year == year && (c.term == term && c.program == program))

-- what all students of a term have of a program, by the office's own net
abbrev pub total_at : List Filing → Place → Program → ℕ
total_at past p program = net past (of_program p.school p.year p.term (rank program))

-- a movement on the filings now, whose newest is f, with the total of its program with it
abbrev pub payment_row : List Filing → Stamp → Filing → Place → Moved → PaymentRow
payment_row now stamp f p m = record {
  position = length now;
  stamp = stamp;
  key = f.key;
  student = p.student;
  year = p.year;
  term = p.term;
  moved = m;
  total = total_at now p m.program;
}

-- an amount that was filed
abbrev pub amount_payment : List Filing → Stamp → Filing → Movement → Amount → PaymentRow
amount_payment now stamp f movement a =
    payment_row now stamp f (record { school = f.key.school; student = a.student; year = a.year; term = a.term })
    (record { movement = movement; program = a.program; cents = a.cents })

-- what a school returns of a program, where it returns something; and of all programs, in their order (34 CFR 668.22(i))
abbrev pub return_payment : List Filing → Stamp → Filing → Place → Program → ℕ → List PaymentRow
return_payment now stamp f p program cents =
    if nat_lt 0 cents then payment_row now stamp f p (record { movement = Return; program = program; cents = cents }) ∷ [] else []

abbrev pub return_payments : List Filing → Stamp → Filing → Place → List ℕ → List PaymentRow
return_payments now stamp f p returned = flat_map (λ program. return_payment now stamp f p program (slice_index returned (rank program))) all_programs

-- a student's term is of the term of a school
abbrev pub is_of_term : ℕ → ℕ → ℕ → Option Place → Bool
is_of_term school year term None = false
is_of_term school year term (Some p) = p.school == school && (p.year == year && p.term == term)

-- the filing is of a student's term there: a payment, a repayment, an adjustment, a withdrawal, or what was sent back
abbrev pub is_in_term : ℕ → ℕ → ℕ → Key → What → Bool
is_in_term school year term key what = is_of_term school year term (own_place key what)

-- the rows of what a filing moved, of which so much is returned by program
abbrev pub payments_told : List Filing → Stamp → Filing → List ℕ → What → List PaymentRow
payments_told now stamp f returned (Pay a) = amount_payment now stamp f Payment a ∷ []
payments_told now stamp f returned (Repay a) = amount_payment now stamp f Repayment a ∷ []
payments_told now stamp f returned (Adjust a) = amount_payment now stamp f Adjustment a ∷ []
payments_told now stamp f returned (Withdraw w) = return_payments now stamp f (withdrawn_place f.key w) returned
payments_told now stamp f returned _ = []

-- the rows of a filing that was admitted on the filings past, where it moves money in the term
abbrev pub payments_by : ℕ → ℕ → ℕ → List Filing → Stamp → Filing → List PaymentRow
payments_by school year term past stamp f =
    if is_in_term school year term f.key f.what then payments_told (f ∷ past) stamp f (returned_by past f.key f.what) f.what else []

-- of all filings of a history, each with its stamp, both the newest first; the rows come the oldest first
abbrev pub payment_rows : ℕ → ℕ → ℕ → List Filing → List Stamp → List PaymentRow
payment_rows school year term (f ∷ past) (s ∷ stamps) = payment_rows school year term past stamps ++ payments_by school year term past s f
payment_rows school year term past stamps = []

-- the payments of a term on a history and the stamps of its filings, both the newest first
abbrev pub payments_sheet : ℕ → ℕ → ℕ → List Filing → List Stamp → List ℕ
payments_sheet school year term past stamps = payments_text (payment_rows school year term past stamps)
