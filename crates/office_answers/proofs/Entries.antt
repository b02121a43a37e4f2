-- What a withdrawal moves in a student's term.
use Rattle.std.proofs.Common.{◌≡◌, ℕ, refl, sym, ◌∙◌, arith, List, [], ◌∷◌, length, get_or, eq-eqb, add-zero}
use Rattle.aid_types.specs.Programs.{six}
use Rattle.aid_types.specs.declared.number.Key.{Key}
use Rattle.aid_filings.specs.declared.filing.Filing.{Filing}
use Rattle.aid_filings.specs.declared.filing.WithdrawFacts.{WithdrawFacts}
use Rattle.aid_filings.specs.declared.filing.What.TheVariants.{Withdraw}
use Rattle.law_r2t4.specs.Worksheet.{worksheet_of}
use Rattle.office_history.specs.Net.{is_cell, moved, moves_at, sheet, cell_at}
use Rattle.office_history.proofs.Cells.{moved_own}
use Rattle.office_history.specs.Accounts.{IsEntry}
use Rattle.office_history.specs.Own.{of_lines}
use Rattle.office_history.proofs.Sixes.{six-ext}

six-items : (ns : List ℕ) → length ns ≡ 6 → ns ≡ six (λ p. get_or ns p 0)
six-items (n ∷ o ∷ p ∷ q ∷ r ∷ s ∷ []) h = refl
six-items ns h = absurd (omega arith)

moved-six : (key : Key) (w : WithdrawFacts) (ns : List ℕ) → length ns ≡ 6 →
    ns ≡ six (λ p. moved (is_cell (cell_at key.school w.student w.year w.term p)) (moves_at key w 0 ns))
moved-six key w ns h =
    six-items ns h
    ∙ six-ext (λ p. get_or ns p 0) (λ p. moved (is_cell (cell_at key.school w.student w.year w.term p)) (moves_at key w 0 ns))
    (λ p. sym (moved_own key w p 0 p ns (omega arith)))

-- one from this term moves the amounts of its worksheet
pub own-entry : (past : List Filing) (key : Key) (w : WithdrawFacts) → IsEntry past key (Withdraw w) key.school w.student w.year w.term (of_lines (sheet past key w))
unfolding worksheet_of
own-entry past key w = record {
  paid = refl;
  taken = moved-six key w (sheet past key w).returned refl;
  owed = moved-six key w (sheet past key w).owed refl;
  repaid = refl;
  returned = moved-six key w (sheet past key w).returned refl;
  sent = refl;
  after = refl;
  after_all = refl;
  post = rw (eq-eqb key.school key.school refl, eq-eqb w.student w.student refl, eq-eqb w.year w.year refl, eq-eqb w.term w.term refl, add-zero) refl;
}
