-- The last total of a program is the office's own net, and each payment has its row.
use Rattle.std.proofs.Common.{◌≡◌, ℕ, ◌+◌, ◌-◌, refl, sym, ap, subst, ◌∙◌, arith, cond, Bool, true, false, List, [], ◌∷◌, ◌++◌, length, eqb-true, eq-eqb}
use Rattle.std.specs.Prelude.{◌==◌, nat_lt, slice_index, Option, Some, None}
use Rattle.std.specs.List.{Contains, flat_map}
use Rattle.std.proofs.lemmas.Bool.{and_parts}
use Rattle.std.proofs.lemmas.Bool.Decides.{nat_tests}
use Rattle.std.proofs.lemmas.List.Concat.{flat_map-append}
use Rattle.std.proofs.lemmas.List.Elements.{Contains-append_left, Contains-append_right}
use Rattle.aid_types.specs.Programs.{rank}
use Rattle.aid_types.specs.declared.number.Program.{Program}
use Rattle.aid_types.specs.declared.number.Program.TheVariants.{Unsub, Sub, Plus, Pell, Fseog, Teach}
use Rattle.aid_filings.specs.declared.filing.Amount.{Amount}
use Rattle.aid_filings.specs.declared.filing.Filing.{Filing}
use Rattle.aid_filings.specs.declared.filing.What.{What}
use Rattle.aid_filings.specs.declared.filing.What.TheVariants.{Book, School, Calendar, Prior, Apply, Enroll, Originate, Pay, Withdraw, Repay, Adjust, Cost, Sent, Amend}
use Rattle.aid_filings.specs.declared.filing.WithdrawFacts.{WithdrawFacts}
use Rattle.aid_stamps.specs.declared.stamp.Stamp.{Stamp}
use Rattle.office_history.specs.Net.{cell_of, moved, net, net_at, paid, taken, takings_in}
use Rattle.office_history.specs.Own.{own_place}
use Rattle.office_history.specs.declared.place.Place.{Place}
use Rattle.office_history.proofs.Among.{among_head}
use Rattle.office_history.proofs.Cells.{onto_is}
use Rattle.office_history.proofs.Sixes.{six-rank}
use Rattle.office_reports.specs.Rows.{all_programs}
use Rattle.office_sheets.specs.Ledgers.{returned_by, withdrawn_place}
use Rattle.office_sheets.specs.PaymentLaws.{IsPaymentOf, last_total}
use Rattle.office_sheets.specs.Payments.{amount_payment, is_in_term, is_of_term, of_program, payment_row, payment_rows, payments_by, payments_told, return_payment, return_payments, total_at}
use Rattle.office_sheets.specs.TermSums.{term_sums}
use Rattle.office_sheets.specs.declared.ledger_rows.Movement.{Movement}
use Rattle.office_sheets.specs.declared.ledger_rows.Movement.TheVariants.{Payment, Return, Repayment, Adjustment}
use Rattle.office_sheets.specs.declared.payment_rows.PaymentRow.{PaymentRow}
use Rattle.office_sheets.specs.declared.term_sums.Sums.{Sums}
use Rattle.office_sheets.proofs.Returned.{added_by}
use Rattle.office_sheets.proofs.TermSums.{net_told, own_program, sums_same, taken_here}

-- the last total among rows and more of them
last_total-append : (program : Program) (total : ℕ) (rows more : List PaymentRow) → last_total program total (rows ++ more) ≡ last_total program (last_total program total rows) more
last_total-append program total [] more = refl
last_total-append program total (row ∷ rows) more = last_total-append program (cond (rank row.moved.program == rank program) row.total total) rows more

-- a filing that moves nothing of the program in the term leaves the net
unpaid : (b : Bool) (cents before less : ℕ) → b ≡ false → before - less ≡ (cond b cents 0 + before) - less
unpaid false cents before less e = omega arith
unpaid true cents before less e = absurd cc

untaken : (b : Bool) (cents before less : ℕ) → b ≡ false → before - less ≡ before - (cond b cents 0 + less)
untaken false cents before less e = omega arith
untaken true cents before less e = absurd cc

-- the row of an amount: of the program it tells the net, and of another the net stays
amount_last : (past now : List Filing) (stamp : Stamp) (f : Filing) (movement : Movement) (a : Amount) (program : Program)
    → (of_program f.key.school a.year a.term (rank program) (cell_of f.key a) ≡ false → net past (of_program f.key.school a.year a.term (rank program)) ≡ net now (of_program f.key.school a.year a.term (rank program)))
    → last_total program (net past (of_program f.key.school a.year a.term (rank program))) (amount_payment now stamp f movement a ∷ []) ≡ net now (of_program f.key.school a.year a.term (rank program))
amount_last past now stamp f movement a program same = go (rank a.program == rank program) refl
  where
    own : of_program f.key.school a.year a.term (rank program) (cell_of f.key a) ≡ (rank a.program == rank program)
    own = own_program (record { school = f.key.school; student = a.student; year = a.year; term = a.term }) (rank program) (rank a.program)

    go : (b : Bool) → (rank a.program == rank program) ≡ b
        → cond b (net now (of_program f.key.school a.year a.term (rank a.program))) (net past (of_program f.key.school a.year a.term (rank program))) ≡ net now (of_program f.key.school a.year a.term (rank program))
    go true e = ap (λ (r : ℕ). net now (of_program f.key.school a.year a.term r)) (eqb-true (rank a.program) (rank program) e)
    go false e = same (own ∙ e)

-- rows that tell the net of their program
module _ (now : List Filing) (p : Place) (program : Program) where
  -- one of them, or none, leaves the last total where it is that net
  keeps : (r : PaymentRow) → r.total ≡ total_at now p r.moved.program → (b : Bool) → last_total program (total_at now p program) (cond b (r ∷ []) []) ≡ total_at now p program
  keeps r tells false = refl
  keeps r tells true = go (rank r.moved.program == rank program) refl
    where
      go : (d : Bool) → (rank r.moved.program == rank program) ≡ d → cond d r.total (total_at now p program) ≡ total_at now p program
      go false e = refl
      go true e = tells ∙ ap (λ (q : ℕ). net now (of_program p.school p.year p.term q)) (eqb-true (rank r.moved.program) (rank program) e)

  -- and one of the program makes it that net
  makes : (r : PaymentRow) → r.total ≡ total_at now p r.moved.program → r.moved.program ≡ program → (total : ℕ) → last_total program total (r ∷ []) ≡ total_at now p program
  makes r tells is total =
      ap (λ (d : Bool). cond d r.total total) (eq-eqb (rank r.moved.program) (rank program) (ap rank is)) ∙ tells ∙ ap (λ (q : Program). total_at now p q) is

-- the place of a filing
abbrev place_in : Place → Option Place → Place
place_in p None = p
place_in p (Some q) = q

-- the rows of returns
module _ (now : List Filing) (stamp : Stamp) (f : Filing) (p : Place) (returned : List ℕ) (program : Program) where
  abbrev returns_of : Program → List PaymentRow
  returns_of q = return_payment now stamp f p q (slice_index returned (rank q))

  keep : (qs : List Program) → last_total program (total_at now p program) (flat_map returns_of qs) ≡ total_at now p program
  keep [] = refl
  keep (q ∷ qs) =
      last_total-append program (total_at now p program) (returns_of q) (flat_map returns_of qs)
      ∙ ap (λ (t : ℕ). last_total program t (flat_map returns_of qs))
      (keeps now p program (payment_row now stamp f p (record { movement = Return; program = q; cents = slice_index returned (rank q) })) refl (nat_lt 0 (slice_index returned (rank q))))
      ∙ keep qs

  among : (total : ℕ) (before after : List Program) → nat_lt 0 (slice_index returned (rank program)) ≡ true
      → last_total program total (flat_map returns_of (before ++ program ∷ after)) ≡ total_at now p program
  among total before after some =
      let own = payment_row now stamp f p (record { movement = Return; program = program; cents = slice_index returned (rank program) }) in
      ap (λ (rows : List PaymentRow). last_total program total rows) (flat_map-append returns_of before (program ∷ after))
      ∙ last_total-append program total (flat_map returns_of before) (flat_map returns_of (program ∷ after))
      ∙ last_total-append program (last_total program total (flat_map returns_of before)) (returns_of program) (flat_map returns_of after)
      ∙ ap (λ (b : Bool). last_total program (last_total program (last_total program total (flat_map returns_of before)) (cond b (own ∷ []) [])) (flat_map returns_of after)) some
      ∙ ap (λ (t : ℕ). last_total program t (flat_map returns_of after)) (makes now p program own refl refl (last_total program total (flat_map returns_of before)))
      ∙ keep after

-- the programs before one in the order of returns, and those after it
before : Program → List Program
before Unsub = []
before Sub = Unsub ∷ []
before Plus = Unsub ∷ Sub ∷ []
before Pell = Unsub ∷ Sub ∷ Plus ∷ []
before Fseog = Unsub ∷ Sub ∷ Plus ∷ Pell ∷ []
before Teach = Unsub ∷ Sub ∷ Plus ∷ Pell ∷ Fseog ∷ []

after : Program → List Program
after Unsub = Sub ∷ Plus ∷ Pell ∷ Fseog ∷ Teach ∷ []
after Sub = Plus ∷ Pell ∷ Fseog ∷ Teach ∷ []
after Plus = Pell ∷ Fseog ∷ Teach ∷ []
after Pell = Fseog ∷ Teach ∷ []
after Fseog = Teach ∷ []
after Teach = []

each_program : (program : Program) → all_programs ≡ before program ++ program ∷ after program
unfolding before after
each_program Unsub = refl
each_program Sub = refl
each_program Plus = refl
each_program Pell = refl
each_program Fseog = refl
each_program Teach = refl

returned_last : (now : List Filing) (stamp : Stamp) (f : Filing) (p : Place) (returned : List ℕ) (program : Program) (total : ℕ)
    → (slice_index returned (rank program) ≡ 0 → total ≡ total_at now p program) → last_total program total (return_payments now stamp f p returned) ≡ total_at now p program
returned_last now stamp f p returned program total same = go (nat_lt 0 (slice_index returned (rank program))) refl
  where
    nothing : (n : ℕ) → nat_lt 0 n ≡ false → n ≡ 0
    nothing n h = grind (arith, nat_tests)

    go : (b : Bool) → nat_lt 0 (slice_index returned (rank program)) ≡ b → last_total program total (return_payments now stamp f p returned) ≡ total_at now p program
    go true some =
        ap (λ (qs : List Program). last_total program total (flat_map (returns_of now stamp f p returned program) qs)) (each_program program)
        ∙ among now stamp f p returned program total (before program) (after program) some
    go false none =
        ap (λ (t : ℕ). last_total program t (return_payments now stamp f p returned)) (same (nothing (slice_index returned (rank program)) none))
        ∙ keep now stamp f p returned program all_programs

-- what a withdrawal takes back of a program in the term is what its worksheet returns of it
withdrawn_is : (past : List Filing) (f : Filing) (w : WithdrawFacts) (program : Program)
    → moved (of_program f.key.school w.year w.term (rank program)) (takings_in past (net_at past) f.key (Withdraw w)) ≡ slice_index (returned_by past f.key (Withdraw w)) (rank program)
withdrawn_is past f w program =
    sym (six-rank (λ r. moved (of_program f.key.school w.year w.term r) (takings_in past (net_at past) f.key (Withdraw w))) program)
    ∙ ap (λ (ns : List ℕ). slice_index ns (rank program))
    (sym (taken_here past (record { key = f.key; what = Withdraw w }) (withdrawn_place f.key w) refl) ∙ added_by past f.key (Withdraw w))

-- with the rows of a filing that moves money in the term
step_own : (past : List Filing) (stamp : Stamp) (f : Filing) (program : Program) (o : Place) (what : What) → own_place f.key what ≡ Some o
    → last_total program (net past (of_program o.school o.year o.term (rank program))) (payments_told (record { key = f.key; what = what } ∷ past) stamp f (returned_by past f.key what) what)
    ≡ net (record { key = f.key; what = what } ∷ past) (of_program o.school o.year o.term (rank program))
step_own past stamp f program o (Pay a) own =
    subst (λ (q : Place). last_total program (net past (of_program q.school q.year q.term (rank program))) (amount_payment (record { key = f.key; what = Pay a } ∷ past) stamp f Payment a ∷ []) ≡ net (record { key = f.key; what = Pay a } ∷ past) (of_program q.school q.year q.term (rank program)))
    (ap (place_in o) own)
    (amount_last past (record { key = f.key; what = Pay a } ∷ past) stamp f Payment a program
    (unpaid _ a.cents (paid past (of_program f.key.school a.year a.term (rank program))) (taken past (of_program f.key.school a.year a.term (rank program)))))
step_own past stamp f program o (Repay a) own =
    subst (λ (q : Place). last_total program (net past (of_program q.school q.year q.term (rank program))) (amount_payment (record { key = f.key; what = Repay a } ∷ past) stamp f Repayment a ∷ []) ≡ net (record { key = f.key; what = Repay a } ∷ past) (of_program q.school q.year q.term (rank program)))
    (ap (place_in o) own)
    (amount_last past (record { key = f.key; what = Repay a } ∷ past) stamp f Repayment a program
    (untaken _ a.cents (paid past (of_program f.key.school a.year a.term (rank program))) (taken past (of_program f.key.school a.year a.term (rank program)))))
step_own past stamp f program o (Adjust a) own =
    subst (λ (q : Place). last_total program (net past (of_program q.school q.year q.term (rank program))) (amount_payment (record { key = f.key; what = Adjust a } ∷ past) stamp f Adjustment a ∷ []) ≡ net (record { key = f.key; what = Adjust a } ∷ past) (of_program q.school q.year q.term (rank program)))
    (ap (place_in o) own)
    (amount_last past (record { key = f.key; what = Adjust a } ∷ past) stamp f Adjustment a program
    (untaken _ a.cents (paid past (of_program f.key.school a.year a.term (rank program))) (taken past (of_program f.key.school a.year a.term (rank program)))))
step_own past stamp f program o (Withdraw w) own =
    let now = record { key = f.key; what = Withdraw w } ∷ past in
    subst (λ (q : Place). last_total program (net past (of_program q.school q.year q.term (rank program))) (return_payments now stamp f (withdrawn_place f.key w) (returned_by past f.key (Withdraw w))) ≡ net now (of_program q.school q.year q.term (rank program)))
    (ap (place_in o) own)
    (returned_last now stamp f (withdrawn_place f.key w) (returned_by past f.key (Withdraw w)) program (net past (of_program f.key.school w.year w.term (rank program)))
    (λ none. let cells = of_program f.key.school w.year w.term (rank program) in
    let ms = takings_in past (net_at past) f.key (Withdraw w) in
    let m = withdrawn_is past f w program in
    let o = onto_is cells ms (taken past cells) in
    let t : taken now cells ≡ taken past cells = omega (arith, m, o, none) in
    ap (λ (n : ℕ). paid past cells - n) (sym t)))
step_own past stamp f program o (Book b) own = absurd cc
step_own past stamp f program o (School s) own = absurd cc
step_own past stamp f program o (Calendar b) own = absurd cc
step_own past stamp f program o (Prior b) own = absurd cc
step_own past stamp f program o (Apply b) own = absurd cc
step_own past stamp f program o (Enroll b) own = absurd cc
step_own past stamp f program o (Originate b) own = absurd cc
step_own past stamp f program o (Cost b) own = absurd cc
step_own past stamp f program o (Amend b) own = absurd cc
step_own past stamp f program o (Sent b) own = refl

-- with the rows of any filing
module _ (school year term : ℕ) (program : Program) where
  abbrev net_of : List Filing → ℕ
  net_of past = net past (of_program school year term (rank program))

  stays : (past : List Filing) (f : Filing) → is_in_term school year term f.key f.what ≡ false → net_of past ≡ net_of (f ∷ past)
  stays past f out =
      sym (net_told past school year term (term_sums past school year term) program refl)
      ∙ ap (λ (s : Sums). slice_index s.paid (rank program) - slice_index s.taken (rank program)) (sums_same past f school year term out)
      ∙ net_told (f ∷ past) school year term (term_sums (f ∷ past) school year term) program refl

  there : (h : List Filing) (o : Place) → is_of_term school year term (Some o) ≡ true → net h (of_program o.school o.year o.term (rank program)) ≡ net_of h
  there h o is =
      let a = and_parts (o.school == school) _ is in
      let b = and_parts (o.year == year) (o.term == term) a.1 in
      let e0 = eqb-true o.school school a.0 in
      let e1 = eqb-true o.year year b.0 in
      let e2 = eqb-true o.term term b.1 in
      λ i. net h (of_program (e0 i) (e1 i) (e2 i) (rank program))

  step : (past : List Filing) (stamp : Stamp) (f : Filing) → last_total program (net_of past) (payments_by school year term past stamp f) ≡ net_of (f ∷ past)
  step past stamp f = go (own_place f.key f.what) refl (is_in_term school year term f.key f.what) refl
    where
      told : List PaymentRow
      told = payments_told (f ∷ past) stamp f (returned_by past f.key f.what) f.what

      go : (o : Option Place) → own_place f.key f.what ≡ o → (b : Bool) → is_in_term school year term f.key f.what ≡ b
          → last_total program (net_of past) (cond (is_in_term school year term f.key f.what) (payments_told (f ∷ past) stamp f (returned_by past f.key f.what) f.what) []) ≡ net_of (f ∷ past)
      go o own false out = ap (λ (b : Bool). last_total program (net_of past) (cond b (payments_told (f ∷ past) stamp f (returned_by past f.key f.what) f.what) [])) out ∙ stays past f out
      go None own true is = let no : is_in_term school year term f.key f.what ≡ false = ap (λ (o : Option Place). is_of_term school year term o) own in absurd cc
      go (Some o) own true is =
          let of_term = ap (λ (x : Option Place). is_of_term school year term x) (sym own) ∙ is in
          ap (λ (b : Bool). last_total program (net_of past) (cond b (payments_told (f ∷ past) stamp f (returned_by past f.key f.what) f.what) [])) is
          ∙ ap (λ (t : ℕ). last_total program t (payments_told (f ∷ past) stamp f (returned_by past f.key f.what) f.what)) (sym (there past o of_term))
          ∙ step_own past stamp f program o f.what own ∙ there (f ∷ past) o of_term

  -- the last total of a program is the net of all students of the term
  pub last_is_net : (past : List Filing) (stamps : List Stamp) → length stamps ≡ length past → last_total program 0 (payment_rows school year term past stamps) ≡ net_of past
  last_is_net [] stamps e = refl
  last_is_net (f ∷ past) [] e = absurd (omega (arith, e))
  last_is_net (f ∷ past) (s ∷ stamps) e =
      last_total-append program 0 (payment_rows school year term past stamps) (payments_by school year term past s f)
      ∙ ap (λ (t : ℕ). last_total program t (payments_by school year term past s f)) (last_is_net past stamps (omega (arith, e)))
      ∙ step past s f

-- each payment in the term has its row
pub payment_has_row : (school year term : ℕ) (newer older : List Filing) (stamps : List Stamp) (f : Filing) (a : Amount) → length stamps ≡ length (newer ++ f ∷ older)
    → f.what ≡ Pay a → is_in_term school year term f.key f.what ≡ true
    → (row : PaymentRow) × Contains (payment_rows school year term (newer ++ f ∷ older) stamps) row × IsPaymentOf (length older + 1) f a row
payment_has_row school year term [] older [] f a same pays is = absurd (omega (arith, same))
payment_has_row school year term [] older (s ∷ stamps) f a same pays is =
    let row = amount_payment (f ∷ older) s f Payment a in
    let own : payments_by school year term older s f ≡ row ∷ [] =
    ap (λ (b : Bool). cond b (payments_told (f ∷ older) s f (returned_by older f.key f.what) f.what) []) is
    ∙ ap (λ (what : What). payments_told (f ∷ older) s f (returned_by older f.key what) what) pays in (
      row,
      Contains-append_right (payment_rows school year term older stamps) (payments_by school year term older s f) row (subst (λ (rows : List PaymentRow). Contains rows row) (sym own) (among_head row [])),
      record { position = omega arith; key = refl; student = refl; kind = refl; program = refl; amount = refl },
    )
payment_has_row school year term (g ∷ newer) older [] f a same pays is = absurd (omega (arith, same))
payment_has_row school year term (g ∷ newer) older (s ∷ stamps) f a same pays is =
    let (row, found, tells) = payment_has_row school year term newer older stamps f a (omega (arith, same)) pays is in
    (row, Contains-append_left (payment_rows school year term (newer ++ f ∷ older) stamps) (payments_by school year term (newer ++ f ∷ older) s g) row found, tells)
