-- What a filing changes of a student's year at a school.
use Rattle.std.proofs.Common.{◌≡◌, ℕ, ◌+◌, ◌-◌, ◌≤◌, inl, inr, refl, sym, ap, subst, ◌∙◌, arith, cond, Bool, true, false, zero-le, List, ◌∷◌, length, Option, Some, None, eq-eqb}
use Rattle.std.specs.Prelude.{◌==◌, sum, is_some}
use Rattle.aid_types.specs.Ranges.{EachIsCents}
use Rattle.aid_types.specs.Programs.{six}
use Rattle.aid_types.specs.declared.number.Key.{Key}
use Rattle.aid_filings.specs.declared.filing.Amount.{Amount}
use Rattle.aid_filings.specs.declared.filing.Filing.{Filing}
use Rattle.aid_filings.specs.declared.filing.OriginateFacts.{OriginateFacts}
use Rattle.aid_filings.specs.declared.filing.What.{What}
use Rattle.aid_filings.specs.declared.filing.What.TheVariants.{Originate, Pay, Withdraw, Repay, Adjust, Cost}
use Rattle.aid_filings.specs.declared.filing.WithdrawFacts.{WithdrawFacts}
use Rattle.office_history.specs.Answer.{IsLegal, breaks}
use Rattle.office_history.specs.Net.{cell_at, cell_of, Cell, at_school_in_year, is_cell, moved, net, net_at, paid, payments_in, taken, takings_in}
use Rattle.office_history.specs.Positions.{cost_at}
use Rattle.office_history.specs.Rules.{rules_of}
use Rattle.office_history.specs.Past.{amount_or, at_school, cost_in, first_of_two, later, latest}
use Rattle.office_history.proofs.AnyNets.{any_net_stands}
use Rattle.office_history.proofs.Cells.{onto_is}
use Rattle.aid_types.proofs.Holds.{all_hold, stands_holds}
use Rattle.office_history.proofs.Nets.{nets_stand}
use Rattle.office_history.proofs.Ranges.{net_is_small}
use Rattle.office_history.specs.Accounts.{IsEntry}
use Rattle.office_history.specs.Own.{IsOwnEntry}
use Rattle.office_history.specs.Rows.{school_year_row}
use Rattle.office_history.specs.declared.account.Account.{Account}
use Rattle.office_history.specs.declared.place.Place.{Place}
use Rattle.office_history.specs.declared.rows.SchoolYearRow.{SchoolYearRow}
use Rattle.office_history.proofs.Own.{MovesIn, moved-all, moved-none, moves}
use Rattle.office_history.proofs.Sixes.{six-cents}
use Rattle.office_updates.specs.After.{IsSchoolYearAfter}
use Rattle.office_history.specs.declared.names.StudentSchoolYear.{StudentSchoolYear}
use Rattle.office_updates.proofs.PlacesAfter.{IsAmount, told_none, told_some}
use Rattle.office_updates.proofs.RowNames.{IsSchoolYearWritten, school_year_written}

-- an origination that breaks no rule is the first of its student, year and school
cost_first : (past : List Filing) (key : Key) (o : OriginateFacts) → breaks past (record { key = key; what = Originate o }) ≡ None →
    cost_at past key.school o.student o.year ≡ 0
cost_first past key o h =
    let k = all_hold (rules_of past key (Originate o)) h in
    stands_holds 41 (cost_at past key.school o.student o.year) o.year k.1.1.1.0

-- a student's year at a school is its own
own_school_year : (school student year : ℕ) → at_school_in_year school student year (cell_at school student year 0 0) ≡ true
own_school_year school student year = rw (eq-eqb school school refl, eq-eqb student student refl, eq-eqb year year refl) refl

-- an origination tells the position and the cost
abbrev pub year_costed : Key → OriginateFacts → StudentSchoolYear
year_costed key o = record { student = o.student; school = key.school; year = o.year }

abbrev told_cost : List Filing → StudentSchoolYear → Option ℕ → SchoolYearRow
told_cost past at c = record (school_year_row past at.school at.student at.year) {
  cost_at = first_of_two (is_some c) (cost_at past at.school at.student at.year) (length past + 1);
  cost = amount_or (later c (latest (at_school at.school (cost_in at.student at.year)) past));
}

abbrev pub with_cost : SchoolYearRow → ℕ → ℕ → SchoolYearRow
with_cost row position dollars = record row { cost_at = position; cost = dollars }

first_cost : (row : SchoolYearRow) (dollars position n : ℕ) → n ≡ 0 → with_cost row (first_of_two true n position) dollars ≡ with_cost row position dollars
first_cost row dollars position n e = rw e refl

originate-filed : (past : List Filing) (key : Key) (o : OriginateFacts) → breaks past (record { key = key; what = Originate o }) ≡ None →
    IsSchoolYearWritten past (record { key = key; what = Originate o }) (year_costed key o)
    (with_cost (school_year_row past key.school o.student o.year) (length past + 1) o.cost)
originate-filed past key o rule =
    record {
      here = ap (told_cost past (year_costed key o)) (told_some (key.school == key.school) _ o.cost (own_school_year key.school o.student o.year))
          ∙ first_cost (school_year_row past key.school o.student o.year) o.cost (length past + 1) _ (cost_first past key o rule);
      elsewhere = λ asked away. ap (told_cost past asked) (told_none (key.school == asked.school) _ o.cost away);
    }

-- a changed cost tells the cost alone
abbrev told_changed : List Filing → StudentSchoolYear → Option ℕ → SchoolYearRow
told_changed past at c = record (school_year_row past at.school at.student at.year) {
  cost = amount_or (later c (latest (at_school at.school (cost_in at.student at.year)) past));
}

cost-filed : (past : List Filing) (key : Key) (o : OriginateFacts) →
    IsSchoolYearWritten past (record { key = key; what = Cost o }) (year_costed key o) (record (school_year_row past key.school o.student o.year) { cost = o.cost })
cost-filed past key o =
    record {
      here = ap (told_changed past (year_costed key o)) (told_some (key.school == key.school) _ o.cost (own_school_year key.school o.student o.year));
      elsewhere = λ asked away. ap (told_changed past asked) (told_none (key.school == asked.school) _ o.cost away);
    }

-- a row with what moved
abbrev pub with_net : SchoolYearRow → Account → SchoolYearRow
with_net row moved = record row { net = (row.net + sum moved.paid) - sum moved.taken }

net-moved : (past : List Filing) (f : Filing) (sel : Cell → Bool) → IsLegal past →
    net (f ∷ past) sel ≡ (net past sel + moved sel (payments_in f.key f.what)) - moved sel (takings_in past (net_at past) f.key f.what)
net-moved past f sel legal =
    let stands = any_net_stands past legal sel in
    rw (onto_is sel (payments_in f.key f.what) (paid past sel), onto_is sel (takings_in past (net_at past) f.key f.what) (taken past sel)) (omega arith)

abbrev told_net : List Filing → StudentSchoolYear → ℕ → SchoolYearRow
told_net past at n = record (school_year_row past at.school at.student at.year) { net = n }

net_joint : (later before p t p' t' : ℕ) → later ≡ (before + p) - t → p' ≡ p → t' ≡ t → later ≡ (before + p') - t'
net_joint later before p t p' t' e e0 e1 = omega arith

net_same : (later before p t : ℕ) → later ≡ (before + p) - t → p ≡ 0 → t ≡ 0 → later ≡ before
net_same later before p t e e0 e1 = omega arith

-- money alone changes the net of its year at the school
abbrev year_of_place : Place → StudentSchoolYear
year_of_place p = record { student = p.student; school = p.school; year = p.year }

money-school_year : (past : List Filing) (f : Filing) (p : Place) (e : Account) → IsLegal past →
    ((asked : StudentSchoolYear) → school_year_row (f ∷ past) asked.school asked.student asked.year ≡ told_net past asked (net (f ∷ past) (at_school_in_year asked.school asked.student asked.year))) →
    MovesIn past f.key f.what p → IsEntry past f.key f.what p.school p.student p.year p.term e →
    IsSchoolYearWritten past f (year_of_place p) (with_net (school_year_row past p.school p.student p.year) e)
money-school_year past f p e legal alone m k = record {
  here =
      let sel = at_school_in_year p.school p.student p.year in
      let own = λ (q : ℕ). own_school_year p.school p.student p.year in
      let paid_all = ap sum k.paid ∙ moved-all sel p (payments_in f.key f.what) m.paid own in
      let taken_all = ap sum k.taken ∙ moved-all sel p (takings_in past (net_at past) f.key f.what) m.taken own in
      alone (year_of_place p) ∙ ap (told_net past (year_of_place p)) (net_joint _ _ _ _ _ _ (net-moved past f sel legal) paid_all taken_all);
  elsewhere = λ asked away.
      let sel = at_school_in_year asked.school asked.student asked.year in
      let paid_none = moved-none sel p (payments_in f.key f.what) m.paid (λ q. away) in
      let taken_none = moved-none sel p (takings_in past (net_at past) f.key f.what) m.taken (λ q. away) in
      alone asked ∙ ap (told_net past asked) (net_same _ _ _ _ (net-moved past f sel legal) paid_none taken_none);
}

-- the year at the school of an amount, and of a withdrawal
abbrev pub year_of : Key → Amount → StudentSchoolYear
year_of key a = record { student = a.student; school = key.school; year = a.year }

abbrev pub year_left : Key → WithdrawFacts → StudentSchoolYear
year_left key w = record { student = w.student; school = key.school; year = w.year }

pay-school_year : (past : List Filing) (key : Key) (a : Amount) (e : Account) → IsLegal past → IsOwnEntry past key (Pay a) e →
    IsSchoolYearWritten past (record { key = key; what = Pay a }) (year_of key a) (with_net (school_year_row past key.school a.student a.year) e)
pay-school_year past key a e legal k =
    money-school_year past (record { key = key; what = Pay a }) (record { school = key.school; student = a.student; year = a.year; term = a.term }) e legal
    (λ asked. refl) (moves past key (Pay a)) k

repay-school_year : (past : List Filing) (key : Key) (a : Amount) (e : Account) → IsLegal past → IsOwnEntry past key (Repay a) e →
    IsSchoolYearWritten past (record { key = key; what = Repay a }) (year_of key a) (with_net (school_year_row past key.school a.student a.year) e)
repay-school_year past key a e legal k =
    money-school_year past (record { key = key; what = Repay a }) (record { school = key.school; student = a.student; year = a.year; term = a.term }) e legal
    (λ asked. refl) (moves past key (Repay a)) k

adjust-school_year : (past : List Filing) (key : Key) (a : Amount) (e : Account) → IsLegal past → IsOwnEntry past key (Adjust a) e →
    IsSchoolYearWritten past (record { key = key; what = Adjust a }) (year_of key a) (with_net (school_year_row past key.school a.student a.year) e)
adjust-school_year past key a e legal k =
    money-school_year past (record { key = key; what = Adjust a }) (record { school = key.school; student = a.student; year = a.year; term = a.term }) e legal
    (λ asked. refl) (moves past key (Adjust a)) k

withdraw-filed : (past : List Filing) (key : Key) (w : WithdrawFacts) (e : Account) → IsLegal past → IsOwnEntry past key (Withdraw w) e →
    IsSchoolYearWritten past (record { key = key; what = Withdraw w }) (year_left key w) (with_net (school_year_row past key.school w.student w.year) e)
withdraw-filed past key w e legal k =
    money-school_year past (record { key = key; what = Withdraw w }) (record { school = key.school; student = w.student; year = w.year; term = w.term }) e legal
    (λ asked. refl) (moves past key (Withdraw w)) k

-- a withdrawal takes back no more of a program than its net, so the amounts can be summed
taken-small : (past : List Filing) (key : Key) (w : WithdrawFacts) (c : Cell) → IsLegal (record { key = key; what = Withdraw w } ∷ past) →
    moved (is_cell c) (takings_in past (net_at past) key (Withdraw w)) ≤ 99999999
taken-small past key w c legal =
    within (paid past (is_cell c)) (taken past (is_cell c)) _ _ (onto_is (is_cell c) (takings_in past (net_at past) key (Withdraw w)) (taken past (is_cell c)))
    (nets_stand (record { key = key; what = Withdraw w } ∷ past) legal c) (net_is_small past legal.0 c)
  where
    within : (p t m after : ℕ) → after ≡ m + t → after ≤ p → p - t ≤ 99999999 → m ≤ 99999999
    within p t m after e h k = omega arith

cents-filed : (past : List Filing) (key : Key) (w : WithdrawFacts) (e : Account) → IsLegal (record { key = key; what = Withdraw w } ∷ past) →
    IsOwnEntry past key (Withdraw w) e → EachIsCents e.taken
cents-filed past key w e legal k =
    rw k.taken (six-cents (λ p. moved (is_cell (cell_at key.school w.student w.year w.term p)) (takings_in past (net_at past) key (Withdraw w)))
    (λ p. taken-small past key w (cell_at key.school w.student w.year w.term p) legal))

-- the same of a filing by what it is
pub originate-school_year : (past : List Filing) (f : Filing) (o : OriginateFacts) → f.what ≡ Originate o → breaks past f ≡ None →
    IsSchoolYearWritten past f (year_costed f.key o) (with_cost (school_year_row past f.key.school o.student o.year) (length past + 1) o.cost)
originate-school_year past f o is =
    subst (λ (what : What). breaks past (record { key = f.key; what = what }) ≡ None →
    IsSchoolYearWritten past (record { key = f.key; what = what }) (year_costed f.key o) (with_cost (school_year_row past f.key.school o.student o.year) (length past + 1) o.cost)) (sym is)
    (originate-filed past f.key o)

pub cost-school_year : (past : List Filing) (f : Filing) (o : OriginateFacts) → f.what ≡ Cost o →
    IsSchoolYearWritten past f (year_costed f.key o) (record (school_year_row past f.key.school o.student o.year) { cost = o.cost })
cost-school_year past f o is =
    subst (λ (what : What). IsSchoolYearWritten past (record { key = f.key; what = what }) (year_costed f.key o)
    (record (school_year_row past f.key.school o.student o.year) { cost = o.cost })) (sym is)
    (cost-filed past f.key o)

pub amount-school_year : (past : List Filing) (f : Filing) (a : Amount) (e : Account) → IsLegal past → IsAmount f.what a → IsOwnEntry past f.key f.what e →
    IsSchoolYearWritten past f (year_of f.key a) (with_net (school_year_row past f.key.school a.student a.year) e)
amount-school_year past f a e legal is k = by is
  where
    of : (what : What) → what ≡ f.what → (IsOwnEntry past f.key what e →
        IsSchoolYearWritten past (record { key = f.key; what = what }) (year_of f.key a) (with_net (school_year_row past f.key.school a.student a.year) e)) →
        IsSchoolYearWritten past f (year_of f.key a) (with_net (school_year_row past f.key.school a.student a.year) e)
    of what same filed =
        subst (λ (x : What). IsOwnEntry past f.key x e →
        IsSchoolYearWritten past (record { key = f.key; what = x }) (year_of f.key a) (with_net (school_year_row past f.key.school a.student a.year) e)) same filed k

    by : IsAmount f.what a → IsSchoolYearWritten past f (year_of f.key a) (with_net (school_year_row past f.key.school a.student a.year) e)
    by (inl pays) = of (Pay a) (sym pays) (pay-school_year past f.key a e legal)
    by (inr (inl repays)) = of (Repay a) (sym repays) (repay-school_year past f.key a e legal)
    by (inr (inr adjusts)) = of (Adjust a) (sym adjusts) (adjust-school_year past f.key a e legal)

pub withdraw-school_year : (past : List Filing) (f : Filing) (w : WithdrawFacts) (e : Account) → IsLegal past → f.what ≡ Withdraw w → IsOwnEntry past f.key f.what e →
    IsSchoolYearWritten past f (year_left f.key w) (with_net (school_year_row past f.key.school w.student w.year) e)
withdraw-school_year past f w e legal is =
    subst (λ (what : What). IsOwnEntry past f.key what e →
    IsSchoolYearWritten past (record { key = f.key; what = what }) (year_left f.key w) (with_net (school_year_row past f.key.school w.student w.year) e)) (sym is)
    (withdraw-filed past f.key w e legal)

pub withdraw-cents : (past : List Filing) (f : Filing) (w : WithdrawFacts) (e : Account) → f.what ≡ Withdraw w → IsLegal (f ∷ past) → IsOwnEntry past f.key f.what e → EachIsCents e.taken
withdraw-cents past f w e is =
    subst (λ (what : What). IsLegal (record { key = f.key; what = what } ∷ past) → IsOwnEntry past f.key what e → EachIsCents e.taken) (sym is)
    (cents-filed past f.key w e)

-- a payment pays no more than an amount may be, and a repayment and an adjustment pay nothing
pub amount-cents : (past : List Filing) (f : Filing) (a : Amount) (e : Account) → IsAmount f.what a → IsOwnEntry past f.key f.what e → EachIsCents e.paid
amount-cents past f a e is k = by is
  where
    below : (b : Bool) → cond b a.cents 0 + 0 ≤ 99999999
    below true = let few = a.in_range.1 in omega arith
    below false = omega arith

    within : (what : What) → ((p : ℕ) → moved (is_cell (cell_at f.key.school a.student a.year a.term p)) (payments_in f.key what) ≤ 99999999) →
        e.paid ≡ six (λ p. moved (is_cell (cell_at f.key.school a.student a.year a.term p)) (payments_in f.key what)) → EachIsCents e.paid
    within what few same = rw same (six-cents (λ p. moved (is_cell (cell_at f.key.school a.student a.year a.term p)) (payments_in f.key what)) few)

    own : (what : What) → f.what ≡ what → IsOwnEntry past f.key what e
    own what same = subst (λ (w : What). IsOwnEntry past f.key w e) same k

    by : IsAmount f.what a → EachIsCents e.paid
    by (inl pays) = within (Pay a) (λ p. below (is_cell (cell_at f.key.school a.student a.year a.term p) (cell_of f.key a))) (own (Pay a) pays).paid
    by (inr (inl repays)) = within (Repay a) (λ p. zero-le) (own (Repay a) repays).paid
    by (inr (inr adjusts)) = within (Adjust a) (λ p. zero-le) (own (Adjust a) adjusts).paid

-- a pair that is the name and the row
pub year_placed : (past : List Filing) (f : Filing) (own : StudentSchoolYear) (row : SchoolYearRow) (r : StudentSchoolYear × SchoolYearRow) →
    IsSchoolYearWritten past f own row → r.0 ≡ own → r.1 ≡ row → IsSchoolYearAfter past f (Some r)
year_placed past f own row r w e0 e1 =
    subst (λ (x : StudentSchoolYear × SchoolYearRow). IsSchoolYearAfter past f (Some x)) (pair own row e0 e1) (school_year_written past f own row w)
  where
    pair : (own : StudentSchoolYear) (row : SchoolYearRow) → r.0 ≡ own → r.1 ≡ row → ◌≡◌ {A = StudentSchoolYear × SchoolYearRow} (own, row) r
    pair own row e0 e1 = rw (sym e0, sym e1) refl
