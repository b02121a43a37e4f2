-- What is told of a student's term: the worksheet of a withdrawal on its account, and whether one stands.
use Rattle.std.proofs.Common.{◌≡◌, ℕ, zero, suc, ◌<◌, Bool, false, lt-ltb, refl, sym, ap, subst, ◌∙◌, arith, true, List, Option, Some, is_some}
use Rattle.std.specs.Prelude.{nat_lt}
use Rattle.aid_types.specs.Programs.{minus, six}
use Rattle.aid_types.specs.Ranges.{EachIsCents}
use Rattle.aid_types.specs.declared.number.Key.{Key}
use Rattle.aid_types.specs.declared.term.Term.{Term}
use Rattle.aid_filings.specs.declared.filing.Filing.{Filing}
use Rattle.aid_filings.specs.declared.filing.WithdrawFacts.{WithdrawFacts}
use Rattle.law_terms.specs.Terms.{days_upto}
use Rattle.law_r2t4.specs.Worksheet.{worksheet_of}
use Rattle.law_r2t4.specs.declared.Lines.{Lines}
use Rattle.office_history.specs.Past.{at_school, earliest, first_at, the_term, the_withdrawal, withdrawal_in}
use Rattle.office_history.specs.Net.{cell_at, days_of, last_of, net_at, sheet, withdrawn_cell}
use Rattle.office_history.specs.Answer.{IsLegal}
use Rattle.office_history.proofs.Asked.{some_told, told_at}
use Rattle.office_history.proofs.Ranges.{net_is_small}
use Rattle.office_history.specs.Accounts.{IsAccount}
use Rattle.office_history.specs.Positions.{withdrawn_at}
use Rattle.office_history.specs.Rows.{place_row}
use Rattle.office_history.specs.declared.account.Account.{Account}
use Rattle.office_history.specs.declared.rows.PlaceRow.{PlaceRow}
use Rattle.office_history.proofs.AccountSteps.{account-nets}
use Rattle.office_history.proofs.Sixes.{six-cents}

-- the nets of an account are amounts
pub nets-cents : (past : List Filing) (school student year term : ℕ) (a : Account) → IsLegal past → IsAccount past school student year term a →
    EachIsCents (minus a.paid a.taken)
nets-cents past school student year term a legal h =
    subst EachIsCents (sym (account-nets past school student year term a h))
    (six-cents (λ p. net_at past (cell_at school student year term p)) (λ p. net_is_small past legal (cell_at school student year term p)))

-- a worksheet on the term on file and on its account
pub sheet-is : (past : List Filing) (key : Key) (w : WithdrawFacts) (t : Term) (a : Account) (l : Lines) →
    l ≡ worksheet_of (days_upto t w.last) (days_upto t t.last) w.charges (minus a.paid a.taken) w.could →
    Some t ≡ the_term past key.school w.year w.term → IsAccount past key.school w.student w.year w.term a → l ≡ sheet past key w
sheet-is past key w t a l e is h =
    e
    ∙ ap (λ (net : List ℕ). worksheet_of (days_upto t w.last) (days_upto t t.last) w.charges net w.could) (account-nets past key.school w.student w.year w.term a h)
    ∙ ap (λ (o : Option Term). worksheet_of (days_of o w.last) (days_of o (last_of o)) w.charges (six (λ p. net_at past (withdrawn_cell key w p))) w.could) is

-- what is told stands at a position
pub told-at : {A : Type 0} (operation : Filing → Option A) (past : List Filing) → nat_lt 0 (first_at (λ f. is_some (operation f)) past) ≡ is_some (earliest operation past)
told-at operation past = go (first_at (λ f. is_some (operation f)) past) (is_some (earliest operation past)) (some_told operation past) (told_at operation past)
  where
    go : (n : ℕ) (b : Bool) → (0 < n → b ≡ true) → (b ≡ true → 0 < n) → nat_lt 0 n ≡ b
    go zero true some at = absurd (omega (arith, at refl))
    go zero false some at = refl
    go (suc n) b some at = lt-ltb 0 (suc n) (omega arith) ∙ sym (some (omega arith))

-- the position of the withdrawal from a student's term tells whether one stands
pub withdrawn-told : (past : List Filing) (school student year term n : ℕ) → n ≡ withdrawn_at past school student year term →
    nat_lt 0 n ≡ is_some (the_withdrawal past school student year term)
withdrawn-told past school student year term n is = ap (nat_lt 0) is ∙ told-at (at_school school (withdrawal_in student year term)) past

-- the row of a student's term tells its account
pub row-account : (past : List Filing) (school student year term : ℕ) (r : PlaceRow) → r ≡ place_row past school student year term →
    IsAccount past school student year term r.account
row-account past school student year term r is =
    subst (λ (x : PlaceRow). IsAccount past school student year term x.account) (sym is)
    (record { paid = refl; taken = refl; owed = refl; repaid = refl; returned = refl; sent = refl; after = refl; after_all = refl; post = refl })
