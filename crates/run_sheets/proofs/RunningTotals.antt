-- The rows of a term's payments add up: each tells the total before it with what it moves.
use Rattle.std.proofs.Common.{◌≡◌, ℕ, ◌+◌, ◌-◌, ◌≤◌, refl, sym, ap, subst, ◌∙◌, arith, cond, Bool, true, false, List, [], ◌∷◌, ◌++◌, length, eqb-true, eq-eqb}
use Rattle.std.specs.Prelude.{◌==◌, nat_lt, slice_index, Option, Some, None, ⊤}
use Rattle.std.specs.List.{flat_map}
use Rattle.std.proofs.lemmas.Bool.{and_parts}
use Rattle.aid_types.specs.Programs.{rank}
use Rattle.aid_types.specs.declared.number.Key.{Key}
use Rattle.aid_types.specs.declared.number.Program.{Program}
use Rattle.aid_filings.specs.declared.filing.Filing.{Filing}
use Rattle.aid_filings.specs.declared.filing.What.{What}
use Rattle.aid_filings.specs.declared.filing.What.TheVariants.{Book, School, Calendar, Prior, Apply, Enroll, Originate, Pay, Withdraw, Repay, Adjust, Cost, Sent, Amend}
use Rattle.aid_filings.specs.declared.filing.WithdrawFacts.{WithdrawFacts}
use Rattle.aid_stamps.specs.declared.stamp.Stamp.{Stamp}
use Rattle.office_history.specs.Answer.{IsLegal}
use Rattle.office_history.specs.Net.{moved, net, net_at, paid, taken, takings_in}
use Rattle.office_history.specs.Own.{own_place}
use Rattle.office_history.specs.declared.place.Place.{Place}
use Rattle.office_history.proofs.AnyNets.{any_net_stands}
use Rattle.office_history.proofs.Cells.{onto_is}
use Rattle.office_history.proofs.Own.{at}
use Rattle.office_history.proofs.Sixes.{six-rank}
use Rattle.office_reports.specs.Rows.{all_programs}
use Rattle.office_sheets.specs.Ledgers.{returned_by, withdrawn_place}
use Rattle.office_sheets.specs.PaymentLaws.{last_total}
use Rattle.office_sheets.specs.Payments.{amount_payment, is_in_term, is_of_term, of_program, payment_row, payment_rows, payments_by, payments_told, return_payment, return_payments}
use Rattle.office_sheets.specs.declared.ledger_rows.Movement.TheVariants.{Payment, Return, Repayment, Adjustment}
use Rattle.office_sheets.specs.declared.payment_rows.PaymentRow.{PaymentRow}
use Rattle.office_sheets.proofs.PaymentLaws.{last_is_net}
use Rattle.office_sheets.proofs.Returned.{added_by}
use Rattle.office_sheets.proofs.TermSums.{own_program, taken_here}
use Rattle.run_sheets.specs.Totals.{AddUp, Tells}

-- the totals of the programs with a row
abbrev with_row : (Program → ℕ) → PaymentRow → Program → ℕ
with_row totals row program = cond (rank row.moved.program == rank program) row.total (totals program)

-- rows add up from such totals on
abbrev AddUpFrom : (Program → ℕ) → List PaymentRow → Type 0
AddUpFrom totals [] = ⊤
AddUpFrom totals (row ∷ rows) = Tells row.moved.movement (totals row.moved.program) row.moved.cents row.total × AddUpFrom (with_row totals row) rows

-- then each of them tells its total
each_tells : (totals : Program → ℕ) (before after : List PaymentRow) (row : PaymentRow) → AddUpFrom totals (before ++ row ∷ after)
    → Tells row.moved.movement (last_total row.moved.program (totals row.moved.program) before) row.moved.cents row.total
each_tells totals [] after row h = h.0
each_tells totals (r ∷ before) after row h = each_tells (with_row totals r) before after row h.1

-- more rows follow that add up from the totals after them
more_add_up : (totals : Program → ℕ) (rows more : List PaymentRow) → AddUpFrom totals rows → AddUpFrom (λ program. last_total program (totals program) rows) more
    → AddUpFrom totals (rows ++ more)
more_add_up totals [] more h g = g
more_add_up totals (row ∷ rows) more h g = (h.0, more_add_up (with_row totals row) rows more h.1 g)

-- totals that are the same
from_same : (totals others : Program → ℕ) (rows : List PaymentRow) → ((program : Program) → totals program ≡ others program) → AddUpFrom totals rows → AddUpFrom others rows
from_same totals others rows same h = subst (λ (t : Program → ℕ). AddUpFrom t rows) (λ i program. same program i) h

-- the net of a program in a student's term
abbrev there : List Filing → Place → Program → ℕ
there past p program = net past (of_program p.school p.year p.term (rank program))

-- the cell of an amount is of its program in its term
own_cell : (p : Place) (program : Program) → of_program p.school p.year p.term (rank program) (at p (rank program)) ≡ true
own_cell p program = own_program p (rank program) (rank program) ∙ eq-eqb (rank program) (rank program) refl

-- the place of a filing
abbrev place_in : Place → Option Place → Place
place_in p None = p
place_in p (Some q) = q

-- what is paid adds to the net
adds : (b : Bool) (cents before less : ℕ) → b ≡ true → less ≤ before → (cond b cents 0 + before) - less ≡ (before - less) + cents
adds true cents before less e h = omega (arith, h)
adds false cents before less e h = absurd cc

-- and what is taken back is taken off
takes : (b : Bool) (cents before less : ℕ) → b ≡ true → cond b cents 0 + less ≤ before → (before - (cond b cents 0 + less)) + cents ≡ before - less
takes true cents before less e h = omega (arith, h)
takes false cents before less e h = absurd cc

-- the programs of rows that are still to come: none stands twice, and of each the total is the net before
abbrev IsNoneOf : Program → List Program → Type 0
IsNoneOf q [] = ⊤
IsNoneOf q (r ∷ rs) = ((rank q == rank r) ≡ false) × IsNoneOf q rs

abbrev AreApart : List Program → Type 0
AreApart [] = ⊤
AreApart (q ∷ qs) = IsNoneOf q qs × AreApart qs

abbrev Agree : (Program → ℕ) → (Program → ℕ) → List Program → Type 0
Agree totals was [] = ⊤
Agree totals was (q ∷ qs) = (totals q ≡ was q) × Agree totals was qs

agree_with : (totals was : Program → ℕ) (row : PaymentRow) (qs : List Program) → IsNoneOf row.moved.program qs → Agree totals was qs → Agree (with_row totals row) was qs
agree_with totals was row [] none h = h
agree_with totals was row (q ∷ qs) none h = (rw none.0 h.0, agree_with totals was row qs none.1 h.1)

agree_all : (was : Program → ℕ) (qs : List Program) → Agree was was qs
agree_all was [] = tt
agree_all was (q ∷ qs) = (refl, agree_all was qs)

-- the rows of a withdrawal
module _ (now : List Filing) (stamp : Stamp) (f : Filing) (p : Place) (returned : List ℕ) (was : Program → ℕ)
    (less : (program : Program) → there now p program + slice_index returned (rank program) ≡ was program) where
  returns_add_up : (qs : List Program) → AreApart qs → (totals : Program → ℕ) → Agree totals was qs
      → AddUpFrom totals (flat_map (λ program. return_payment now stamp f p program (slice_index returned (rank program))) qs)
  returns_add_up [] apart totals same = tt
  returns_add_up (q ∷ qs) apart totals same = go (λ others h. returns_add_up qs apart.1 others h) (nat_lt 0 (slice_index returned (rank q)))
    where
      row : PaymentRow
      row = payment_row now stamp f p (record { movement = Return; program = q; cents = slice_index returned (rank q) })

      rows : List PaymentRow
      rows = flat_map (λ program. return_payment now stamp f p program (slice_index returned (rank program))) qs

      go : ((others : Program → ℕ) → Agree others was qs → AddUpFrom others rows) → (b : Bool) → AddUpFrom totals (cond b (row ∷ []) [] ++ rows)
      go rest true = (less q ∙ sym same.0, rest (with_row totals row) (agree_with totals was row qs apart.0 same.1))
      go rest false = rest totals same.1

all_apart : AreApart all_programs
all_apart = ((refl, (refl, (refl, (refl, (refl, tt))))), ((refl, (refl, (refl, (refl, tt)))), ((refl, (refl, (refl, tt))), ((refl, (refl, tt)), ((refl, tt), (tt, tt))))))

-- what a withdrawal takes back of a program in the term is what its worksheet returns of it
withdrawn_is : (past : List Filing) (key : Key) (w : WithdrawFacts) (program : Program)
    → moved (of_program key.school w.year w.term (rank program)) (takings_in past (net_at past) key (Withdraw w)) ≡ slice_index (returned_by past key (Withdraw w)) (rank program)
withdrawn_is past key w program =
    sym (six-rank (λ r. moved (of_program key.school w.year w.term r) (takings_in past (net_at past) key (Withdraw w))) program)
    ∙ ap (λ (ns : List ℕ). slice_index ns (rank program))
    (sym (taken_here past (record { key = key; what = Withdraw w }) (withdrawn_place key w) refl) ∙ added_by past key (Withdraw w))

-- the rows of a filing that moves money in a student's term
told_add_up : (past : List Filing) (stamp : Stamp) (f : Filing) (o : Place) (what : What) → own_place f.key what ≡ Some o → IsLegal (record { key = f.key; what = what } ∷ past)
    → AddUpFrom (there past o) (payments_told (record { key = f.key; what = what } ∷ past) stamp f (returned_by past f.key what) what)
told_add_up past stamp f o (Pay a) own legal =
    let p : Place = record { school = f.key.school; student = a.student; year = a.year; term = a.term } in
    let cells = of_program f.key.school a.year a.term (rank a.program) in
    subst (λ (q : Place). AddUpFrom (there past q) (amount_payment (record { key = f.key; what = Pay a } ∷ past) stamp f Payment a ∷ []))
    (ap (place_in o) own)
    (adds (cells (at p (rank a.program))) a.cents (paid past cells) (taken past cells) (own_cell p a.program) (any_net_stands past legal.0 cells), tt)
told_add_up past stamp f o (Repay a) own legal =
    let p : Place = record { school = f.key.school; student = a.student; year = a.year; term = a.term } in
    let cells = of_program f.key.school a.year a.term (rank a.program) in
    let now : List Filing = record { key = f.key; what = Repay a } ∷ past in
    subst (λ (q : Place). AddUpFrom (there past q) (amount_payment now stamp f Repayment a ∷ []))
    (ap (place_in o) own)
    (takes (cells (at p (rank a.program))) a.cents (paid past cells) (taken past cells) (own_cell p a.program) (any_net_stands now legal cells), tt)
told_add_up past stamp f o (Adjust a) own legal =
    let p : Place = record { school = f.key.school; student = a.student; year = a.year; term = a.term } in
    let cells = of_program f.key.school a.year a.term (rank a.program) in
    let now : List Filing = record { key = f.key; what = Adjust a } ∷ past in
    subst (λ (q : Place). AddUpFrom (there past q) (amount_payment now stamp f Adjustment a ∷ []))
    (ap (place_in o) own)
    (takes (cells (at p (rank a.program))) a.cents (paid past cells) (taken past cells) (own_cell p a.program) (any_net_stands now legal cells), tt)
told_add_up past stamp f o (Withdraw w) own legal =
    let p : Place = withdrawn_place f.key w in
    let now : List Filing = record { key = f.key; what = Withdraw w } ∷ past in
    let returned = returned_by past f.key (Withdraw w) in
    subst (λ (q : Place). AddUpFrom (there past q) (return_payments now stamp f p returned))
    (ap (place_in o) own)
    (returns_add_up now stamp f p returned (there past p)
    (λ program. let cells = of_program p.school p.year p.term (rank program) in
    let m = withdrawn_is past f.key w program in
    let o = onto_is cells (takings_in past (net_at past) f.key (Withdraw w)) (taken past cells) in
    let within : taken now cells ≤ paid past cells = any_net_stands now legal cells in
    less (taken now cells) (moved cells (takings_in past (net_at past) f.key (Withdraw w))) (taken past cells) (slice_index returned (rank program)) (paid past cells) o m within)
    all_programs all_apart (there past p) (agree_all (there past p) all_programs))
  where
    less : (after more before returned was : ℕ) → after ≡ more + before → more ≡ returned → after ≤ was → (was - after) + returned ≡ was - before
    less after more before returned was e m h = omega (arith, e, m, h)
told_add_up past stamp f o (Book b) own legal = absurd cc
told_add_up past stamp f o (School s) own legal = absurd cc
told_add_up past stamp f o (Calendar b) own legal = absurd cc
told_add_up past stamp f o (Prior b) own legal = absurd cc
told_add_up past stamp f o (Apply b) own legal = absurd cc
told_add_up past stamp f o (Enroll b) own legal = absurd cc
told_add_up past stamp f o (Originate b) own legal = absurd cc
told_add_up past stamp f o (Cost b) own legal = absurd cc
told_add_up past stamp f o (Amend b) own legal = absurd cc
told_add_up past stamp f o (Sent b) own legal = tt

-- those of any filing, from the nets of the term on
module _ (school year term : ℕ) where
  abbrev net_of : List Filing → Program → ℕ
  net_of past program = net past (of_program school year term (rank program))

  same_there : (past : List Filing) (o : Place) → is_of_term school year term (Some o) ≡ true → (program : Program) → there past o program ≡ net_of past program
  same_there past o is program =
      let a = and_parts (o.school == school) _ is in
      let b = and_parts (o.year == year) (o.term == term) a.1 in
      let e0 = eqb-true o.school school a.0 in
      let e1 = eqb-true o.year year b.0 in
      let e2 = eqb-true o.term term b.1 in
      λ i. net past (of_program (e0 i) (e1 i) (e2 i) (rank program))

  by_add_up : (past : List Filing) (stamp : Stamp) (f : Filing) → IsLegal (f ∷ past) → AddUpFrom (net_of past) (payments_by school year term past stamp f)
  by_add_up past stamp f legal = go (own_place f.key f.what) refl (is_in_term school year term f.key f.what) refl
    where
      go : (o : Option Place) → own_place f.key f.what ≡ o → (b : Bool) → is_in_term school year term f.key f.what ≡ b
          → AddUpFrom (net_of past) (cond (is_in_term school year term f.key f.what) (payments_told (f ∷ past) stamp f (returned_by past f.key f.what) f.what) [])
      go o own false out = rw out tt
      go None own true is = let no : is_in_term school year term f.key f.what ≡ false = ap (λ (o : Option Place). is_of_term school year term o) own in absurd cc
      go (Some o) own true is =
          let of_term = ap (λ (x : Option Place). is_of_term school year term x) (sym own) ∙ is in
          subst (λ (b : Bool). AddUpFrom (net_of past) (cond b (payments_told (f ∷ past) stamp f (returned_by past f.key f.what) f.what) [])) (sym is)
          (from_same (there past o) (net_of past) (payments_told (f ∷ past) stamp f (returned_by past f.key f.what) f.what) (same_there past o of_term)
          (told_add_up past stamp f o f.what own legal))

  all_add_up : (past : List Filing) (stamps : List Stamp) → length stamps ≡ length past → IsLegal past → AddUpFrom (λ program. 0) (payment_rows school year term past stamps)
  all_add_up [] stamps e legal = tt
  all_add_up (f ∷ past) [] e legal = absurd (omega (arith, e))
  all_add_up (f ∷ past) (s ∷ stamps) e legal =
      let shorter : length stamps ≡ length past = omega (arith, e) in
      more_add_up (λ program. 0) (payment_rows school year term past stamps) (payments_by school year term past s f) (all_add_up past stamps shorter legal.0)
      (from_same (net_of past) (λ program. last_total program 0 (payment_rows school year term past stamps)) (payments_by school year term past s f)
      (λ program. sym (last_is_net school year term program past stamps shorter)) (by_add_up past s f legal))

  pub rows_add_up : (past : List Filing) (stamps : List Stamp) → length stamps ≡ length past → IsLegal past → AddUp (payment_rows school year term past stamps)
  rows_add_up past stamps e legal before after row split =
      each_tells (λ program. 0) before after row (subst (λ (rows : List PaymentRow). AddUpFrom (λ program. 0) rows) split (all_add_up past stamps e legal))
