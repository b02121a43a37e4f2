-- The sums of a term, filing by filing.
use Rattle.std.proofs.Common.{◌≡◌, ℕ, ◌+◌, ◌-◌, ◌≤◌, ◌<◌, ◌^◌, refl, sym, ap, ◌∙◌, arith, Bool, true, false, ◌&&◌, List, ◌∷◌, Option, Some, None, eqb-true, eq-eqb}
use Rattle.std.specs.Prelude.{◌==◌, slice_index}
use Rattle.std.proofs.lemmas.Bool.{and_parts}
use Rattle.aid_types.specs.Programs.{minus, plus, rank, six}
use Rattle.aid_types.specs.declared.number.Program.{Program}
use Rattle.aid_filings.specs.declared.filing.Filing.{Filing}
use Rattle.aid_filings.specs.declared.filing.What.{What}
use Rattle.aid_filings.specs.declared.filing.What.TheVariants.{Book, School, Calendar, Prior, Apply, Enroll, Originate, Pay, Withdraw, Repay, Adjust, Cost, Sent, Amend}
use Rattle.aid_stamps.specs.declared.stamp.Stamp.{Stamp}
use Rattle.office_history.specs.Answer.{IsLegal}
use Rattle.office_history.specs.Net.{Cell, Move, is_cell, moved, net, net_at, onto, paid, payments_in, taken, takings_in}
use Rattle.office_history.specs.Own.{own_place}
use Rattle.office_history.specs.declared.place.Place.{Place}
use Rattle.office_history.proofs.Bounds.{paid-most, taken-most}
use Rattle.office_history.proofs.Cells.{onto_is}
use Rattle.office_history.proofs.Own.{AreIn, at, moved-agree, moved-none, moves-in, own-cell, still}
use Rattle.office_history.proofs.Sixes.{plus-six, six-ext, six-most, six-rank}
use Rattle.office_sheets.specs.Ledgers.{returned_by, withdrawn_place}
use Rattle.office_sheets.specs.Payments.{is_of_term, of_program, payments_told}
use Rattle.office_sheets.specs.TermSums.{both, place_sums, rest, term_sums}
use Rattle.office_sheets.specs.declared.term_sums.Sums.{Sums}
use Rattle.office_sheets.proofs.Returned.{added_by}

-- what moves adds, less what there was
added : (sel : Cell → Bool) (ms : List Move) (n : ℕ) → onto sel ms n - n ≡ moved sel ms
added sel ms n = let e = onto_is sel ms n in omega (arith, e)

-- a cell of a student's term is of a program in the term of the school where it is of that program
pub own_program : (p : Place) (r q : ℕ) → of_program p.school p.year p.term r (at p q) ≡ (q == r)
own_program p r q = rw (eq-eqb p.school p.school refl, eq-eqb p.year p.year refl, eq-eqb p.term p.term refl) refl

-- what moves in a student's term moves in the term of the school
moved_here : (p : Place) (ms : List Move) → AreIn p ms → (n : ℕ → ℕ)
    → minus (six (λ r. onto (is_cell (at p r)) ms (n r))) (six n) ≡ six (λ r. moved (of_program p.school p.year p.term r) ms)
moved_here p ms here n =
    six-ext (λ r. onto (is_cell (at p r)) ms (n r) - n r) (λ r. moved (of_program p.school p.year p.term r) ms)
    (λ r. added (is_cell (at p r)) ms (n r)
    ∙ moved-agree (is_cell (at p r)) (of_program p.school p.year p.term r) p ms here (λ q. own-cell p r q ∙ sym (own_program p r q)))

module _ (past : List Filing) (f : Filing) (p : Place) (own : own_place f.key f.what ≡ Some p) where
  -- what a filing adds in the student's term in which it moves money
  paid_here : (rest (place_sums (f ∷ past) p) (place_sums past p)).paid ≡ six (λ r. moved (of_program p.school p.year p.term r) (payments_in f.key f.what))
  paid_here = moved_here p (payments_in f.key f.what) (moves-in past f.key f.what p own).paid (λ r. paid past (is_cell (at p r)))

  pub taken_here : (rest (place_sums (f ∷ past) p) (place_sums past p)).taken ≡ six (λ r. moved (of_program p.school p.year p.term r) (takings_in past (net_at past) f.key f.what))
  taken_here = moved_here p (takings_in past (net_at past) f.key f.what) (moves-in past f.key f.what p own).taken (λ r. taken past (is_cell (at p r)))

  -- the sums with it
  pub sums_more : both (term_sums past p.school p.year p.term) (rest (place_sums (f ∷ past) p) (place_sums past p)) ≡ term_sums (f ∷ past) p.school p.year p.term
  sums_more =
      let cells = of_program p.school p.year p.term in
      let paid_all = ap (plus (six (λ r. paid past (cells r)))) paid_here
      ∙ plus-six (λ r. paid past (cells r)) (λ r. moved (cells r) (payments_in f.key f.what)) (λ r. paid (f ∷ past) (cells r))
      (λ r. onto_is (cells r) (payments_in f.key f.what) (paid past (cells r))) in
      let taken_all = ap (plus (six (λ r. taken past (cells r)))) taken_here
      ∙ plus-six (λ r. taken past (cells r)) (λ r. moved (cells r) (takings_in past (net_at past) f.key f.what)) (λ r. taken (f ∷ past) (cells r))
      (λ r. onto_is (cells r) (takings_in past (net_at past) f.key f.what) (taken past (cells r))) in
      λ i. record { paid = paid_all i; taken = taken_all i }

  -- they can be added
  fits : (sel : ℕ → Cell → Bool) (ms : List Move) (before : ℕ → ℕ) (more : List ℕ) → ((r : ℕ) → onto (sel r) ms (before r) ≤ 100000000000000)
      → more ≡ six (λ r. moved (sel r) ms) → (q : ℕ) → slice_index (six before) q + slice_index more q < 2 ^ 64
  fits sel ms before more most is q =
      let had = six-most before 100000000000000 (λ r. let o = onto_is (sel r) ms (before r) in let m = most r in omega (arith, o, m)) q in
      let has = six-most (λ r. moved (sel r) ms) 100000000000000 (λ r. let o = onto_is (sel r) ms (before r) in let m = most r in omega (arith, o, m)) q in
      let all = ap (λ (ns : List ℕ). slice_index ns q) is in
      omega (arith, had, has, all)

  pub paid_fits : IsLegal (f ∷ past) → (q : ℕ) → slice_index (term_sums past p.school p.year p.term).paid q + slice_index (rest (place_sums (f ∷ past) p) (place_sums past p)).paid q < 2 ^ 64
  paid_fits legal =
      let cells = of_program p.school p.year p.term in
      fits cells (payments_in f.key f.what) (λ r. paid past (cells r)) _ (λ r. paid-most (f ∷ past) legal (cells r)) paid_here

  pub taken_fits : IsLegal (f ∷ past) → (q : ℕ) → slice_index (term_sums past p.school p.year p.term).taken q + slice_index (rest (place_sums (f ∷ past) p) (place_sums past p)).taken q < 2 ^ 64
  taken_fits legal =
      let cells = of_program p.school p.year p.term in
      fits cells (takings_in past (net_at past) f.key f.what) (λ r. taken past (cells r)) _ (λ r. taken-most (f ∷ past) legal (cells r)) taken_here

  abbrev place_of : Option Place → Place
  place_of None = p
  place_of (Some q) = q

  -- what a withdrawal adds to what was taken back is what its worksheet returns, and no other filing's rows tell of it
  told : (now : List Filing) (stamp : Stamp) (what : What) → own_place f.key what ≡ Some p
      → payments_told now stamp f ((rest (place_sums (record { key = f.key; what = what } ∷ past) p) (place_sums past p)).taken) what
      ≡ payments_told now stamp f (returned_by past f.key what) what
  told now stamp (Withdraw w) own =
      let there : withdrawn_place f.key w ≡ p = ap place_of own in
      ap (λ (r : List ℕ). payments_told now stamp f r (Withdraw w))
      (ap (λ (q : Place). (rest (place_sums (record { key = f.key; what = Withdraw w } ∷ past) q) (place_sums past q)).taken) (sym there) ∙ added_by past f.key (Withdraw w))
  told now stamp (Book b) own = refl
  told now stamp (School s) own = refl
  told now stamp (Calendar c) own = refl
  told now stamp (Prior b) own = refl
  told now stamp (Apply a) own = refl
  told now stamp (Enroll e) own = refl
  told now stamp (Originate o) own = refl
  told now stamp (Pay a) own = refl
  told now stamp (Repay a) own = refl
  told now stamp (Adjust a) own = refl
  told now stamp (Cost o) own = refl
  told now stamp (Sent o) own = refl
  told now stamp (Amend o) own = refl

  pub told_by : (now : List Filing) (stamp : Stamp)
      → payments_told now stamp f (rest (place_sums (f ∷ past) p) (place_sums past p)).taken f.what ≡ payments_told now stamp f (returned_by past f.key f.what) f.what
  told_by now stamp = told now stamp f.what own

-- what the account of a student's term has more with a filing
pub more_is : (past now : List Filing) (f : Filing) (p : Place) (before after more : Sums) → now ≡ f ∷ past → before ≡ place_sums past p → after ≡ place_sums now p
    → more ≡ rest after before → more ≡ rest (place_sums (f ∷ past) p) (place_sums past p)
more_is past now f p before after more of_now was is e =
    let with_it = is ∙ ap (λ (h : List Filing). place_sums h p) of_now in e ∙ (λ i. rest (with_it i) (was i))

-- so the sums of the term are those with it
pub sums_then : (past now : List Filing) (f : Filing) (p : Place) → own_place f.key f.what ≡ Some p → (sums more new : Sums) → now ≡ f ∷ past
    → sums ≡ term_sums past p.school p.year p.term → more ≡ rest (place_sums (f ∷ past) p) (place_sums past p) → new ≡ both sums more → new ≡ term_sums now p.school p.year p.term
sums_then past now f p own sums more new of_now was is e =
    e ∙ (λ i. both (was i) (is i)) ∙ sums_more past f p own ∙ ap (λ (h : List Filing). term_sums h p.school p.year p.term) (sym of_now)

-- a filing that moves nothing in the term leaves its sums
off : (a b c d : Bool) → (a && (b && c)) ≡ false → (a && (b && (c && d))) ≡ false
off true true true d h = absurd cc
off true true false d h = refl
off true false c d h = refl
off false b c d h = refl

pub sums_same : (past : List Filing) (f : Filing) (school year term : ℕ) → is_of_term school year term (own_place f.key f.what) ≡ false
    → term_sums past school year term ≡ term_sums (f ∷ past) school year term
sums_same past f school year term elsewhere = go (own_place f.key f.what) refl elsewhere
  where
    same : (ms : List Move) (before : ℕ → ℕ) → ((r : ℕ) → moved (of_program school year term r) ms ≡ 0) → six before ≡ six (λ r. onto (of_program school year term r) ms (before r))
    same ms before none =
        six-ext before (λ r. onto (of_program school year term r) ms (before r))
        (λ r. let o = onto_is (of_program school year term r) ms (before r) in let m = none r in omega (arith, o, m))

    all_same : ((r : ℕ) → moved (of_program school year term r) (payments_in f.key f.what) ≡ 0) → ((r : ℕ) → moved (of_program school year term r) (takings_in past (net_at past) f.key f.what) ≡ 0)
        → term_sums past school year term ≡ term_sums (f ∷ past) school year term
    all_same no_pay no_take =
        let paid_same = same (payments_in f.key f.what) (λ r. paid past (of_program school year term r)) no_pay in
        let taken_same = same (takings_in past (net_at past) f.key f.what) (λ r. taken past (of_program school year term r)) no_take in
        λ i. record { paid = paid_same i; taken = taken_same i }

    go : (o : Option Place) → own_place f.key f.what ≡ o → is_of_term school year term o ≡ false → term_sums past school year term ≡ term_sums (f ∷ past) school year term
    go None own out =
        let s = still past f.key f.what own in
        all_same (λ r. ap (moved (of_program school year term r)) s.paid) (λ r. ap (moved (of_program school year term r)) s.taken)
    go (Some o) own out =
        let m = moves-in past f.key f.what o own in
        let none : (r q : ℕ) → of_program school year term r (at o q) ≡ false = λ r q. off (o.school == school) (o.year == year) (o.term == term) (q == r) out in
        all_same (λ r. moved-none (of_program school year term r) o (payments_in f.key f.what) m.paid (none r))
        (λ r. moved-none (of_program school year term r) o (takings_in past (net_at past) f.key f.what) m.taken (none r))

-- the sums of a term are those of the term of a student there
pub sums_there : (past : List Filing) (p : Place) (school year term : ℕ) → is_of_term school year term (Some p) ≡ true
    → term_sums past p.school p.year p.term ≡ term_sums past school year term
sums_there past p school year term is =
    let a = and_parts (p.school == school) _ is in
    let b = and_parts (p.year == year) (p.term == term) a.1 in
    let e0 = eqb-true p.school school a.0 in
    let e1 = eqb-true p.year year b.0 in
    let e2 = eqb-true p.term term b.1 in
    λ i. term_sums past (e0 i) (e1 i) (e2 i)

-- the net of a program
pub net_told : (past : List Filing) (school year term : ℕ) (sums : Sums) (program : Program) → sums ≡ term_sums past school year term
    → slice_index sums.paid (rank program) - slice_index sums.taken (rank program) ≡ net past (of_program school year term (rank program))
net_told past school year term sums program is =
    ap (λ (s : Sums). slice_index s.paid (rank program) - slice_index s.taken (rank program)) is
    ∙ (λ i. six-rank (λ r. paid past (of_program school year term r)) program i - six-rank (λ r. taken past (of_program school year term r)) program i)
