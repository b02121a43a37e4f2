-- What a withdrawal returns is what it adds to what was taken back in its term.
use Rattle.std.proofs.Common.{◌≡◌, ℕ, ◌+◌, ◌-◌, List, [], ◌∷◌, refl, sym, ap, ◌∙◌, arith, get_or}
use Rattle.aid_types.specs.Programs.{minus, six}
use Rattle.aid_types.specs.declared.number.Key.{Key}
use Rattle.aid_filings.specs.declared.filing.Filing.{Filing}
use Rattle.aid_filings.specs.declared.filing.What.{What}
use Rattle.aid_filings.specs.declared.filing.What.TheVariants.{Book, School, Calendar, Prior, Apply, Enroll, Originate, Pay, Withdraw, Repay, Adjust, Cost, Sent, Amend}
use Rattle.aid_filings.specs.declared.filing.WithdrawFacts.{WithdrawFacts}
use Rattle.law_r2t4.specs.Worksheet.{worksheet_of}
use Rattle.office_history.specs.Net.{is_cell, moves_at, onto, sheet, taken, withdrawn_cell}
use Rattle.office_history.proofs.Cells.{moved_own, onto_is}
use Rattle.office_sheets.specs.Ledgers.{returned_by}
use Rattle.office_sheets.specs.Takings.{taken_by}

-- a worksheet returns an amount of each program
six_returned : (past : List Filing) (key : Key) (w : WithdrawFacts) → (sheet past key w).returned ≡ six (λ p. get_or (sheet past key w).returned p 0)
unfolding worksheet_of
six_returned past key w = refl

-- what is added less what there was
rest_of : (a b n : ℕ) → a ≡ b + n → a - n ≡ b
rest_of a b n e = omega arith

-- of one program
added : (past : List Filing) (key : Key) (w : WithdrawFacts) (p n : ℕ)
    → onto (is_cell (withdrawn_cell key w p)) (moves_at key w 0 (sheet past key w).returned) n - n ≡ get_or (sheet past key w).returned p 0
added past key w p n =
    let returned = (sheet past key w).returned in
    rest_of _ _ n
    (onto_is (is_cell (withdrawn_cell key w p)) (moves_at key w 0 returned) n
    ∙ ap (λ (m : ℕ). m + n) (moved_own key w p 0 p returned (omega arith)))

-- of all programs
pub added_by : (past : List Filing) (key : Key) (what : What) → minus (taken_by (record { key = key; what = what } ∷ past) key what) (taken_by past key what) ≡ returned_by past key what
added_by past key (Withdraw w) =
    let there : ℕ → ℕ = λ p. taken past (is_cell (withdrawn_cell key w p)) in
    let one : (p : ℕ) → onto (is_cell (withdrawn_cell key w p)) (moves_at key w 0 (sheet past key w).returned) (there p) - there p ≡ get_or (sheet past key w).returned p 0 = λ p. added past key w p (there p) in
    (λ i. one 0 i ∷ one 1 i ∷ one 2 i ∷ one 3 i ∷ one 4 i ∷ one 5 i ∷ []) ∙ sym (six_returned past key w)
added_by past key (Book b) = refl
added_by past key (School s) = refl
added_by past key (Calendar c) = refl
added_by past key (Prior p) = refl
added_by past key (Apply a) = refl
added_by past key (Enroll e) = refl
added_by past key (Originate o) = refl
added_by past key (Pay a) = refl
added_by past key (Repay a) = refl
added_by past key (Adjust a) = refl
added_by past key (Cost o) = refl
added_by past key (Sent o) = refl
added_by past key (Amend o) = refl
