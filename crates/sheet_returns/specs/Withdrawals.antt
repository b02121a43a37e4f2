-- The withdrawals from the terms of a school.
use Rattle.std.specs.Prelude.{ℕ, ◌+◌, ◌==◌, List, [], ◌∷◌, Option, None, length}
use Rattle.std.specs.List.{cons_option}
use Rattle.std.specs.Ordering.{nat_cmp, ordering_then}
use Rattle.std.specs.declared.cmp.Ordering.{Ordering}
use Rattle.aid_types.specs.declared.number.Key.{Key}
use Rattle.aid_filings.specs.declared.filing.Filing.{Filing}
use Rattle.aid_filings.specs.declared.filing.What.{What}
use Rattle.aid_filings.specs.declared.filing.What.TheVariants.{Withdraw}
use Rattle.aid_filings.specs.declared.filing.WithdrawFacts.{WithdrawFacts}
use Rattle.office_export.specs.InOrder.{in_order}
use Rattle.office_history.specs.Past.{given}
use Rattle.office_history.specs.Rows.{place_row}
use Rattle.office_history.specs.declared.account.Account.{Account}
use Rattle.sheet_returns.specs.declared.rows.Withdrawn.{Withdrawn}

-- a withdrawal from a term of the school: the day on which the school determined it, and its position
abbrev pub withdrawn : ℕ → ℕ → Key → What → Option Withdrawn
withdrawn school position key (Withdraw w) = given (key.school == school) (record { determined = w.determined; position = position })
withdrawn school position key _ = None

-- those of a history, the newest first as the filings are; a position counts from 1
abbrev pub withdrawals : ℕ → List Filing → List Withdrawn
withdrawals school [] = []
withdrawals school (f ∷ past) = cons_option (withdrawn school (length past + 1) f.key f.what) (withdrawals school past)

-- of two the one that was determined on the earlier day comes first, whose return is due on the earlier day too (34 CFR 668.22(j)(1));
-- of two of one day the one at the earlier position
abbrev pub due_order : Withdrawn → Withdrawn → Ordering
due_order p q = ordering_then (nat_cmp p.determined q.determined) (nat_cmp p.position q.position)

-- the withdrawals in that order
abbrev pub by_due : ℕ → List Filing → List Withdrawn
by_due school now = in_order due_order (withdrawals school now)

-- what moved in the term of a withdrawal, on all filings
abbrev pub account_of : List Filing → Key → WithdrawFacts → Account
account_of now key w = (place_row now key.school w.student w.year w.term).account
