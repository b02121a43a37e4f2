-- The lines of a worksheet of a withdrawal, part by part (HEA 484B; 34 CFR 668.22(e) to (i)). `past` are the filings before the
-- withdrawal, `now` all of them. Amounts by program are in the order of returns.
use Rattle.std.specs.Prelude.{ℕ, ◌+◌, ◌-◌, ◌*◌, nat_lt, Bool, if◌then◌else◌, List, [], ◌∷◌, ◌++◌, Option, slice_index, sum}
use Rattle.aid_types.specs.Nearest.{half_up}
use Rattle.aid_types.specs.Programs.{minus, plus, rank, six}
use Rattle.aid_types.specs.declared.number.Key.{Key}
use Rattle.aid_types.specs.declared.number.Program.{Program}
use Rattle.aid_types.specs.declared.number.Program.TheVariants.{Unsub, Sub, Plus, Pell, Fseog, Teach}
use Rattle.aid_types.specs.declared.term.Term.{Term}
use Rattle.aid_filings.specs.declared.filing.Filing.{Filing}
use Rattle.aid_filings.specs.declared.filing.WithdrawFacts.{WithdrawFacts}
use Rattle.office_history.specs.Net.{Cell, days_of, is_cell, last_of, net_at, owed, paid_after, repaid, returned, sent, withdrawn_cell}
use Rattle.office_history.specs.Past.{the_term}
use Rattle.law_r2t4.specs.declared.Lines.{Lines}
use Rattle.sheet_r2t4.specs.declared.entry.Entry.{Entry}
use Rattle.sheet_r2t4.specs.declared.entry.Figure.{Figure}
use Rattle.sheet_r2t4.specs.declared.entry.Figure.TheVariants.{ByProgram, Cents, Days, Percent}
use Rattle.sheet_r2t4.specs.declared.entry.Label.{Label}
use Rattle.sheet_r2t4.specs.declared.entry.Label.TheVariants.{Disbursed, CouldHaveBeen, Both, TermDays, CompletedDays, PercentEarned, Earned, PostWithdrawal, Unearned, Charges, PercentUnearned, UnearnedCharges, SchoolReturns, LaidOnStudent, LoansLeft, GrantsAtFirst, GrantsKept, GrantsReturned, HalfOfGrants, OwedByProgram, RepaidSince, StillOwed, PaidSince, NetNow, SentSince, StillToSend}

-- a line. Own format
abbrev pub entry : Label → Figure → Entry
entry label figure = record { label = label; figure = figure }

-- by program what a sum over a history holds at the cells of a withdrawal, and the net there. Own
abbrev pub at_cells : ((Cell → Bool) → ℕ) → Key → WithdrawFacts → List ℕ
at_cells held key w = six (λ p. held (is_cell (withdrawn_cell key w p)))

abbrev pub nets_of : List Filing → Key → WithdrawFacts → List ℕ
nets_of past key w = six (λ p. net_at past (withdrawn_cell key w p))

-- what was disbursed, what else could have been, and both (34 CFR 668.22(e)(1)(ii), (l)(1))
abbrev pub disbursed_entries : List ℕ → List ℕ → List Entry
disbursed_entries net could =
    entry Disbursed (ByProgram net) ∷ entry CouldHaveBeen (ByProgram could) ∷ entry Both (ByProgram (plus net could)) ∷ []

-- all days of a term, and those up to the last day of attendance, without long breaks (34 CFR 668.22(f))
abbrev pub days_entries : Option Term → ℕ → List Entry
days_entries term last = entry TermDays (Days (days_of term (last_of term))) ∷ entry CompletedDays (Days (days_of term last)) ∷ []

-- what was earned, what of that is still to be disbursed, and what wasn't earned (34 CFR 668.22(e))
abbrev pub earned_entries : Lines → List Entry
earned_entries l =
    entry PercentEarned (Percent l.percent) ∷ entry Earned (Cents l.earned) ∷ entry PostWithdrawal (Cents l.post)
    ∷ entry Unearned (Cents l.unearned) ∷ []

-- the institutional charges, the percent that wasn't earned, and its part of the charges (34 CFR 668.22(g)(1)(ii))
abbrev pub charges_entries : ℕ → ℕ → List Entry
charges_entries charges percent =
    entry Charges (Cents charges) ∷ entry PercentUnearned (Percent (1000 - percent))
    ∷ entry UnearnedCharges (Cents (half_up (charges * (1000 - percent)) 1000)) ∷ []

-- all of a program that was or could have been disbursed (34 CFR 668.22(l)(1))
abbrev pub both_of : List ℕ → List ℕ → Program → ℕ
both_of net could program = slice_index net (rank program) + slice_index could (rank program)

-- box R: what the school leaves of the loans, which the student repays under their terms (34 CFR 668.22(h)(3)(i))
abbrev pub left_of : List ℕ → List ℕ → Program → ℕ
left_of net returned program = slice_index net (rank program) - slice_index returned (rank program)

abbrev pub loans_left : List ℕ → List ℕ → ℕ
loans_left net returned = left_of net returned Unsub + left_of net returned Sub + left_of net returned Plus

-- box T: half of all grants that were or could have been disbursed, as one sum (34 CFR 668.22(h)(3)(ii)(A))
abbrev pub grants_kept : List ℕ → List ℕ → ℕ
grants_kept net could = half_up (both_of net could Pell + both_of net could Fseog + both_of net could Teach) 2

-- boxes R to U: of what is laid on the student the loans come first; the rest are grants, and less half of all of them is what the student
-- returns. Nothing is below 0 (34 CFR 668.22(h)(3))
abbrev pub form_entries : ℕ → ℕ → ℕ → List Entry
form_entries student loans kept =
    entry LoansLeft (Cents loans) ∷ entry GrantsAtFirst (Cents (student - loans)) ∷ entry GrantsKept (Cents kept)
    ∷ entry GrantsReturned (Cents (student - loans - kept)) ∷ []

-- half of all of a grant that was or could have been disbursed (34 CFR 668.22(h)(3)(ii)(A))
abbrev pub half_of : List ℕ → List ℕ → Program → ℕ
half_of net could program = half_up (both_of net could program) 2

-- the same by program, 0 of each loan (34 CFR 668.22(h)(3)(ii)(A))
abbrev pub halves : List ℕ → List ℕ → List ℕ
halves net could = 0 ∷ 0 ∷ 0 ∷ half_of net could Pell ∷ half_of net could Fseog ∷ half_of net could Teach ∷ []

-- half of each grant, and what is owed of it by itself (34 CFR 668.22(h)(3)(ii); by program, which is the office's own)
abbrev pub owed_entries : List ℕ → List ℕ → Lines → List Entry
owed_entries net could l = entry HalfOfGrants (ByProgram (halves net could)) ∷ entry OwedByProgram (ByProgram l.owed) ∷ []

-- what the school returns, what is laid on the student, what the student repays and returns of it by the Department's worksheet, and
-- what is owed of each grant by itself (34 CFR 668.22(g) to (i))
abbrev pub returned_entries : List ℕ → List ℕ → Lines → List Entry
returned_entries net could l =
    entry SchoolReturns (ByProgram l.returned) ∷ entry LaidOnStudent (ByProgram l.laid)
    ∷ form_entries l.student (loans_left net l.returned) (grants_kept net could) ++ owed_entries net could l

-- what came of it since: what was repaid, what is still owed, what was paid, and the net now. Own
abbrev pub since_entries : List Filing → Key → WithdrawFacts → List Entry
since_entries now key w =
    entry RepaidSince (ByProgram (at_cells (repaid now) key w))
    ∷ entry StillOwed (ByProgram (minus (at_cells (owed now) key w) (at_cells (repaid now) key w)))
    ∷ entry PaidSince (ByProgram (at_cells (paid_after now) key w)) ∷ entry NetNow (ByProgram (nets_of now key w)) ∷ []

-- by program what the school sent back of its part, and what of it is still to be sent. Own
abbrev pub sent_lines : List ℕ → List ℕ → List Entry
sent_lines gone part = entry SentSince (ByProgram gone) ∷ entry StillToSend (ByProgram (minus part gone)) ∷ []

-- both, where anything was sent. Own
abbrev pub sent_entries : List Filing → Key → WithdrawFacts → List Entry
sent_entries now key w =
    if nat_lt 0 (sum (at_cells (sent now) key w)) then sent_lines (at_cells (sent now) key w) (at_cells (returned now) key w) else []

-- all lines of a worksheet, on a term, the nets before the withdrawal, and what was worked out from both. Own format
abbrev pub entries_on : Option Term → List ℕ → Lines → List Filing → Key → WithdrawFacts → List Entry
entries_on term net l now key w =
    disbursed_entries net w.could ++ days_entries term w.last ++ earned_entries l ++ charges_entries w.charges l.percent
    ++ returned_entries net w.could l ++ since_entries now key w ++ sent_entries now key w

-- those of a withdrawal
abbrev pub return_entries : List Filing → List Filing → Key → WithdrawFacts → Lines → List Entry
return_entries past now key w l = entries_on (the_term past key.school w.year w.term) (nets_of past key w) l now key w
