-- What a withdrawal leaves the student to repay fits a number.
use Rattle.std.proofs.Common.{ℕ, zero, suc, ◌+◌, ◌≤◌, arith, List, [], ◌∷◌, zero-le}
use Rattle.std.specs.Prelude.{slice_index}
use Rattle.aid_types.proofs.ProgramLemmas.{each_cents}
use Rattle.aid_types.specs.Ranges.{EachIsCents}
use Rattle.aid_types.specs.Programs.{six}
use Rattle.aid_types.specs.declared.number.Key.{Key}
use Rattle.aid_filings.specs.declared.filing.Filing.{Filing}
use Rattle.aid_filings.specs.declared.filing.WithdrawFacts.{WithdrawFacts}
use Rattle.law_r2t4.specs.Worksheet.{worksheet_of}
use Rattle.office_history.specs.Answer.{IsLegal}
use Rattle.office_history.specs.Net.{Cell, days_of, last_of, net_at, sheet, withdrawn_cell}
use Rattle.office_history.specs.Past.{the_term}
use Rattle.office_history.proofs.Cells.{SumsBelow}
use Rattle.office_history.proofs.Ranges.{net_is_small}
use Rattle.office_history.proofs.Sheets.{sums_below}

each_small : (g : Cell → ℕ) (key : Key) (w : WithdrawFacts) (p : ℕ) (rs os : List ℕ) → ((c : Cell) → g c ≤ 99999999) → SumsBelow g key w p rs os →
    (k : ℕ) → slice_index os k ≤ 99999999
each_small g key w p [] [] small h k = zero-le
each_small g key w p [] (o ∷ os) small h k = absurd cc
each_small g key w p (r ∷ rs) [] small h k = zero-le
each_small g key w p (r ∷ rs) (o ∷ os) small h zero = let most = small (withdrawn_cell key w p) in let first = h.0 in omega arith
each_small g key w p (r ∷ rs) (o ∷ os) small h (suc k) = each_small g key w (p + 1) rs os small h.1 k

pub owed_is_small : (past : List Filing) → IsLegal past → (key : Key) (w : WithdrawFacts) → EachIsCents (sheet past key w).owed
owed_is_small past legal key w =
    let term = the_term past key.school w.year w.term in
    let lines = worksheet_of (days_of term w.last) (days_of term (last_of term)) w.charges (six (λ p. net_at past (withdrawn_cell key w p))) w.could in
    each_cents lines.owed (each_small (net_at past) key w 0 lines.returned lines.owed (net_is_small past legal)
    (sums_below (net_at past) key w (days_of term w.last) (days_of term (last_of term)) w.charges w.could))
