-- How a filing changes what a rule or a limit reads.
use Rattle.std.proofs.Common.{◌≡◌, ℕ, ◌+◌, ◌≤◌, refl, arith, subst, cond, Bool, true, false, List, [], ◌∷◌, Option, Some, None, eqb-true, zero-le}
use Rattle.std.specs.Prelude.{◌==◌}
use Rattle.std.proofs.lemmas.Bool.{and_parts}
use Rattle.aid_types.specs.declared.number.Key.{Key}
use Rattle.aid_filings.specs.declared.filing.Amount.{Amount}
use Rattle.aid_filings.specs.declared.filing.Filing.{Filing}
use Rattle.aid_filings.specs.declared.filing.What.{What}
use Rattle.aid_filings.specs.declared.filing.What.TheVariants.{Book as BookFiled, School, Calendar, Prior, Apply, Enroll, Originate, Pay, Withdraw, Repay, Adjust, Cost, Sent, Amend}
use Rattle.office_history.specs.Past.{earlier, amount_or}
use Rattle.office_history.specs.Net.{Cell, Move, cell_of, moved, payments_in, takings_in, paid, taken, net, net_at, in_year, at_school_in_year}
use Rattle.office_history.proofs.Cells.{onto_is}

-- a filing is a payment, or pays nothing: what holds for both holds for each kind
pub by_payment : (P : What → Type 0) (key : Key) → ((a : Amount) → P (Pay a)) → ((what : What) → payments_in key what ≡ [] → P what) → (what : What) → P what
by_payment P key pays not (Pay a) = pays a
by_payment P key pays not (BookFiled b) = not (BookFiled b) refl
by_payment P key pays not (School b) = not (School b) refl
by_payment P key pays not (Calendar b) = not (Calendar b) refl
by_payment P key pays not (Prior b) = not (Prior b) refl
by_payment P key pays not (Apply b) = not (Apply b) refl
by_payment P key pays not (Enroll b) = not (Enroll b) refl
by_payment P key pays not (Originate b) = not (Originate b) refl
by_payment P key pays not (Withdraw b) = not (Withdraw b) refl
by_payment P key pays not (Repay b) = not (Repay b) refl
by_payment P key pays not (Adjust b) = not (Adjust b) refl
by_payment P key pays not (Cost b) = not (Cost b) refl
by_payment P key pays not (Sent b) = not (Sent b) refl
by_payment P key pays not (Amend b) = not (Amend b) refl

-- a net rises by no more than what the filing pays
pub net_step : (past : List Filing) (f : Filing) (sel : Cell → Bool) → net (f ∷ past) sel ≤ moved sel (payments_in f.key f.what) + net past sel
net_step past f sel =
    rw (onto_is sel (payments_in f.key f.what) (paid past sel), onto_is sel (takings_in past (net_at past) f.key f.what) (taken past sel)) (omega arith)

-- a payment raises a net by its cents at the cells that pass
pub net_paid : (past : List Filing) (key : Key) (a : Amount) (sel : Cell → Bool) →
    net (record { key = key; what = Pay a } ∷ past) sel ≤ cond (sel (cell_of key a)) a.cents 0 + net past sel
net_paid past key a sel = omega arith

-- a filing that pays nothing raises no net
pub net_unpaid : (past : List Filing) (key : Key) (what : What) (sel : Cell → Bool) → payments_in key what ≡ [] →
    net (record { key = key; what = what } ∷ past) sel ≤ net past sel
net_unpaid past key what sel none =
    let k : net (record { key = key; what = what } ∷ past) sel ≤ moved sel [] + net past sel =
    subst (λ (ms : List Move). net (record { key = key; what = what } ∷ past) sel ≤ moved sel ms + net past sel) none
    (net_step past (record { key = key; what = what }) sel) in
    omega arith

-- the earliest amount stands
pub earlier_stands : (new old : Option ℕ) → amount_or old ≤ amount_or (earlier new old)
earlier_stands None old = omega arith
earlier_stands (Some a) None = zero-le
earlier_stands (Some a) (Some b) = omega arith

-- an amount at a cell is at most g of the school, student and year asked about, where it is at most g of its own
pub within_school_year : (g : ℕ → ℕ → ℕ → ℕ) (school student year : ℕ) (d : Cell) (n : ℕ) → n ≤ g d.school d.student d.year →
    cond (at_school_in_year school student year d) n 0 ≤ g school student year
within_school_year g school student year d n h = go (at_school_in_year school student year d) refl
  where
    go : (b : Bool) → at_school_in_year school student year d ≡ b → cond b n 0 ≤ g school student year
    go false e = zero-le
    go true e =
        let p = and_parts (d.school == school) _ e in
        let q = and_parts (d.student == student) (d.year == year) p.1 in
        subst (λ y. n ≤ g school student y) (eqb-true d.year year q.1)
        (subst (λ s. n ≤ g school s d.year) (eqb-true d.student student q.0)
        (subst (λ c. n ≤ g c d.student d.year) (eqb-true d.school school p.0) h))

-- the same for a student's program in a year
pub within_year : (g : ℕ → ℕ → ℕ) (student year program : ℕ) (d : Cell) (n : ℕ) → (d.program ≡ program → n ≤ g d.student d.year) →
    cond (in_year student year program d) n 0 ≤ g student year
within_year g student year program d n h = go (in_year student year program d) refl
  where
    go : (b : Bool) → in_year student year program d ≡ b → cond b n 0 ≤ g student year
    go false e = zero-le
    go true e =
        let p = and_parts (d.student == student) _ e in
        let q = and_parts (d.year == year) (d.program == program) p.1 in
        subst (λ y. n ≤ g student y) (eqb-true d.year year q.0)
        (subst (λ s. n ≤ g s d.year) (eqb-true d.student student p.0) (h (eqb-true d.program program q.1)))
