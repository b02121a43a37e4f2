-- What stands before a position, and that the withdrawal there can be worked out on it.
use Rattle.std.proofs.Common.{◌≡◌, ℕ, zero, suc, ◌-◌, ◌≤◌, ◌<◌, sym, ap, subst, ◌∙◌, arith, List, ◌++◌, length, reverse, take, drop, take-append-drop}
use Rattle.std.specs.Prelude.{slice_get, Some}
use Rattle.std.proofs.lemmas.List.{length-drop, length-reverse, reverse-append, reverse-reverse}
use Rattle.std.proofs.lemmas.Option.{slice_get_within, get_or_from_slice_get}
use Rattle.std.proofs.Math.Seq.{drop-append_seam}
use Rattle.aid_filings.specs.declared.filing.Filing.{Filing}
use Rattle.aid_filings.specs.declared.filing.WithdrawFacts.{WithdrawFacts}
use Rattle.aid_filings.specs.declared.filing.What.TheVariants.{Withdraw}
use Rattle.office_history.specs.Answer.{IsLegal}
use Rattle.office_history.specs.Rows.{filing_in}
use Rattle.office_history.specs.Sheets.{CanBeWorkedOut}
use Rattle.office_history.proofs.Lawful.{can_be_worked_out}
use Rattle.office_history.proofs.Slices.{legal_at, legal_take}
use Rattle.sheet_r2t4.specs.ReturnSheet.{before}

-- the filing at a position, in the list that has the oldest first
there : (h past : List Filing) (i : ℕ) (f : Filing) → reverse h ≡ past → filing_in past (suc i) ≡ Some f → slice_get h i ≡ Some f
there h past i f of_past here =
    subst (λ (l : List Filing). slice_get l i ≡ Some f) (ap (λ (l : List Filing). reverse l) (sym of_past) ∙ reverse-reverse h) here

-- a position at which a filing stands comes after an index of the list
pub inside : (h past : List Filing) (position : ℕ) (f : Filing) → reverse h ≡ past → filing_in past position ≡ Some f
    → (1 ≤ position) × (position - 1 < length h)
inside h past zero f of_past here = absurd cc
inside h past (suc i) f of_past here =
    let lt = slice_get_within h i f (there h past i f of_past here) in
    (omega arith, omega (arith, lt))

-- the filings before it are legal
pub legal_before : (h past : List Filing) (n : ℕ) → reverse h ≡ past → IsLegal past → IsLegal (reverse (take n h))
legal_before h past n of_past legal = legal_take h n (subst IsLegal (sym of_past) legal)

-- they are those of the history
pub are_before : (h past : List Filing) (position : ℕ) → reverse h ≡ past → position - 1 < length h
    → reverse (take (position - 1) h) ≡ before past position
are_before h past position of_past lt =
    let n = position - 1 in
    let newer = reverse (drop n h) in
    let older = reverse (take n h) in
    let split : newer ++ older ≡ past =
    sym (reverse-append (take n h) (drop n h)) ∙ ap (λ (l : List Filing). reverse l) (take-append-drop n h) ∙ of_past in
    let size : length newer ≡ length past - n = omega (arith, lt, length-reverse (drop n h), length-drop n h, length-reverse h, ap length of_past) in
    sym (drop-append_seam newer older) ∙ ap (λ (k : ℕ). drop k (newer ++ older)) size ∙ ap (λ (l : List Filing). drop (length past - n) l) split

-- a withdrawal that stands at a position can be worked out on the filings before it
pub stands_worked_out : (h past : List Filing) (position : ℕ) (f : Filing) (w : WithdrawFacts) → reverse h ≡ past → IsLegal past
    → filing_in past position ≡ Some f → f.what ≡ Withdraw w → CanBeWorkedOut (reverse (take (position - 1) h)) f.key w
stands_worked_out h past zero f w of_past legal here is = absurd cc
stands_worked_out h past (suc i) f w of_past legal here is =
    let at = there h past i f of_past here in
    let index : suc i - 1 ≡ i = omega arith in
    let may = legal_at h i f (slice_get_within h i f at) (sym (get_or_from_slice_get h i f f at)) (subst IsLegal (sym of_past) legal) in
    subst (λ (n : ℕ). CanBeWorkedOut (reverse (take n h)) f.key w) (sym index) (can_be_worked_out (reverse (take i h)) f w may.0 is may.2)
