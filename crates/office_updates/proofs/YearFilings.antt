-- Which row of a student's year each kind of filing changes.
use Rattle.std.proofs.Common.{◌≡◌, ℕ, ◌<◌, ◌≤◌, Bool, true, false, not, ◌&&◌, refl, sym, ap, subst, ◌∙◌, arith, [], ◌∷◌, ◌++◌, List, Option, Some, None, eq-eqb, eqb-true, lt-ltb, ◌⊎◌, inl, inr}
use Rattle.std.specs.Prelude.{◌==◌, nat_lt, is_some, length, slice_index, ◌+◌, if◌then◌else◌}
use Rattle.aid_types.specs.Programs.{six}
use Rattle.aid_types.specs.declared.application.Application.{Application}
use Rattle.aid_types.specs.declared.number.Key.{Key}
use Rattle.aid_types.specs.declared.term.Term.{Term}
use Rattle.aid_books.specs.declared.book.Book.{Book}
use Rattle.aid_filings.specs.declared.filing.Amount.{Amount}
use Rattle.aid_filings.specs.declared.filing.CalendarFacts.{CalendarFacts}
use Rattle.aid_filings.specs.declared.filing.Filing.{Filing}
use Rattle.aid_filings.specs.declared.filing.WithdrawFacts.{WithdrawFacts}
use Rattle.aid_filings.specs.declared.filing.What.{What}
use Rattle.aid_filings.specs.declared.filing.What.TheVariants.{Book as BookFiled, School, Calendar, Prior, Apply, Enroll, Originate, Pay, Withdraw, Repay, Adjust, Cost, Sent, Amend}
use Rattle.aid_types.specs.RuleLines.{lacks, only, told}
use Rattle.law_rules.specs.Rules.{rule_91}
use Rattle.law_rules.specs.Lines.{rule_93}
use Rattle.office_history.specs.FactsOf.{apply_facts}
use Rattle.office_history.specs.Rules.{rules_of}
use Rattle.office_history.specs.Answer.{IsLegal, breaks}
use Rattle.office_history.specs.Award.{award_under, ceiling_under, unfit_under}
use Rattle.office_history.specs.Positions.{application_at, award_filed, book_at, school_at, transaction_of}
use Rattle.office_history.specs.Net.{Cell, in_main_terms, in_year, net, paid, pell_main, sheet, taken}
use Rattle.office_history.specs.Past.{application, at_school, book_in, earlier, given, higher, is_extra, is_higher, term_in, the_book, the_term}
use Rattle.office_history.proofs.AnyNets.{any_net_stands}
use Rattle.office_history.proofs.Apart.{not_there}
use Rattle.office_history.proofs.Asked.{some_told}
use Rattle.office_history.proofs.Awards.{correction}
use Rattle.aid_types.proofs.Holds.{all_hold, hold_back, lacks_holds}
use Rattle.office_history.proofs.Filed.{is_filed}
use Rattle.office_history.proofs.Main.{of_sort, not_of_sort, paid_parts, paid_same, paid_unfiled, taken_parts, taken_same}
use Rattle.office_history.specs.Accounts.{AreSums, IsEntry}
use Rattle.office_history.specs.Rows.{year_row}
use Rattle.office_history.specs.declared.account.Account.{Account}
use Rattle.office_history.specs.declared.rows.YearRow.{YearRow}
use Rattle.law_pell.specs.declared.Ceiling.{Ceiling}
use Rattle.office_history.proofs.AccountSteps.{entry-sums}
use Rattle.office_history.proofs.Bounds.{paid-most}
use Rattle.office_history.proofs.Sixes.{six-ext, six-most}
use Rattle.office_updates.specs.After.{IsYearAfter}
use Rattle.office_updates.specs.Moved.{ChangesYear, year_applied, year_moved}
use Rattle.office_history.specs.Own.{IsOwnEntry}
use Rattle.office_history.specs.declared.names.StudentYear.{StudentYear}
use Rattle.office_updates.proofs.YearNames.{year_written}
use Rattle.office_updates.proofs.YearMoves.{MovesIn, main_of_other, main_of_own, moves_of_sheet, net_of_other, nets_of_own}

with_nets : (row : YearRow) (ns ns' : List ℕ) (m m' : ℕ) → ns ≡ ns' → m ≡ m' →
    ◌≡◌ {A = YearRow} (record row { nets = ns; main = m }) (record row { nets = ns'; main = m' })
with_nets row ns ns' m m' e d = λ i. record row { nets = e i; main = d i }

with_award : (row : YearRow) (n n' : ℕ) (c c' : Ceiling) → n ≡ n' → c ≡ c' →
    ◌≡◌ {A = YearRow} (record row { scheduled = n; ceiling = c }) (record row { scheduled = n'; ceiling = c' })
with_award row n n' c c' e d = λ i. record row { scheduled = e i; ceiling = d i }

-- ---- money that moves in a term
-- of a year nothing but its nets changes
pub record Touches (past : List Filing) (key : Key) (what : What) (school student year term : ℕ) : Type 0 where
  pub moves : MovesIn past key what school student year term
  pub leaves : (s y : ℕ) → year_row (record { key = key; what = what } ∷ past) s y
      ≡ record (year_row past s y) {
        nets = six (λ p. net (record { key = key; what = what } ∷ past) (in_year s y p));
        main = net (record { key = key; what = what } ∷ past) (in_main_terms past s y 3);
      }

-- a filing of an amount
abbrev pub IsAmount : Amount → What → Type 0
IsAmount a what = (what ≡ Pay a) ⊎ ((what ≡ Repay a) ⊎ (what ≡ Adjust a))

by_amount : (P : What → Type 0) (what : What) (a : Amount) → IsAmount a what → P (Pay a) → P (Repay a) → P (Adjust a) → P what
by_amount P what a (inl is) pay repay adjust = subst P (sym is) pay
by_amount P what a (inr (inl is)) pay repay adjust = subst P (sym is) repay
by_amount P what a (inr (inr is)) pay repay adjust = subst P (sym is) adjust

pub amount_touches : (past : List Filing) (f : Filing) (a : Amount) → IsAmount a f.what → Touches past f.key f.what f.key.school a.student a.year a.term
amount_touches past f a is =
    by_amount (λ (what : What). Touches past f.key what f.key.school a.student a.year a.term) f.what a is
    (record { moves = record { pays = (refl, tt); takes = tt }; leaves = λ s y. refl })
    (record { moves = record { pays = tt; takes = (refl, tt) }; leaves = λ s y. refl })
    (record { moves = record { pays = tt; takes = (refl, tt) }; leaves = λ s y. refl })

pub amount_entry : (past : List Filing) (f : Filing) (a : Amount) (e : Account) → IsAmount a f.what → IsOwnEntry past f.key f.what e →
    IsEntry past f.key f.what f.key.school a.student a.year a.term e
amount_entry past f a e is =
    by_amount (λ (what : What). IsOwnEntry past f.key what e → IsEntry past f.key what f.key.school a.student a.year a.term e) f.what a is
    (λ own. own) (λ own. own) (λ own. own)

pub withdrawal_touches : (past : List Filing) (f : Filing) (w : WithdrawFacts) → f.what ≡ Withdraw w → Touches past f.key f.what f.key.school w.student w.year w.term
withdrawal_touches past f w is =
    subst (λ (what : What). Touches past f.key what f.key.school w.student w.year w.term) (sym is)
    (record { moves = record { pays = tt; takes = moves_of_sheet f.key w 0 (sheet past f.key w).returned }; leaves = λ s y. refl })

pub withdrawal_entry : (past : List Filing) (f : Filing) (w : WithdrawFacts) (e : Account) → f.what ≡ Withdraw w → IsOwnEntry past f.key f.what e →
    IsEntry past f.key f.what f.key.school w.student w.year w.term e
withdrawal_entry past f w e is =
    let same = λ (own : IsOwnEntry past f.key (Withdraw w) e). own in
    subst (λ (what : What). IsOwnEntry past f.key what e → IsEntry past f.key what f.key.school w.student w.year w.term e) (sym is) same

module _ (past : List Filing) (f : Filing) (school student year term : ℕ) (touches : Touches past f.key f.what school student year term) (legal : IsLegal past) where
  pub touched_row : (e : Account) → IsEntry past f.key f.what school student year term e →
      year_moved (year_row past student year) (the_term past school year term) e ≡ year_row (f ∷ past) student year
  touched_row e entry =
      sym (touches.leaves student year ∙ with_nets (year_row past student year) _ _ _ _
      (nets_of_own past f school student year term legal touches.moves e entry) (main_of_own past f school student year term legal touches.moves e entry))

  pub touched_changes : ChangesYear past f student year
  touched_changes s y off =
      touches.leaves s y ∙ with_nets (year_row past s y) _ _ _ _
      (six-ext (λ p. net (f ∷ past) (in_year s y p)) (λ p. net past (in_year s y p)) (net_of_other past f school student year term legal touches.moves s y off))
      (main_of_other past f school student year term legal touches.moves s y off)

  pub touched_after : (e : Account) (name : StudentYear) (row : YearRow) → IsEntry past f.key f.what school student year term e →
      name ≡ record { student = student; year = year } → row ≡ year_moved (year_row past student year) (the_term past school year term) e →
      IsYearAfter past f (Some (name, row))
  touched_after e name row entry named at = year_written past f student year name row named (at ∙ touched_row e entry) touched_changes

-- ---- an application
above : (a : Application) (o : Option Application) → transaction_of o < a.transaction → is_higher (Some a) o ≡ true
above a None h = refl
above a (Some b) h = lt-ltb b.transaction a.transaction h

-- a year with a new application, in force or not
abbrev with_application : List Filing → ℕ → ℕ → Option Application → Bool → YearRow
with_application past s y new wins = record (year_row past s y) {
  transaction = transaction_of (if wins then new else application past s y);
  application_at = if wins then length past + 1 else application_at past s y;
  scheduled = award_under (the_book past y) (if wins then new else application past s y);
  ceiling = ceiling_under (the_book past y) (if wins then new else application past s y);
}

-- a year after an application, which is of it or not
abbrev with_given : List Filing → ℕ → ℕ → Application → Bool → YearRow
with_given past s y a own = with_application past s y (given own a) (is_higher (given own a) (application past s y))

pub of_kind : (f : Filing) (what : What) → f.what ≡ what → f ≡ record { key = f.key; what = what }
of_kind f what is = λ i. record { key = f.key; what = is i }

pub applied_row : (past : List Filing) (f : Filing) (a : Application) → f.what ≡ Apply a → breaks past f ≡ None →
    year_applied (year_row past a.student a.year) a (award_under (the_book past a.year) (Some a)) (ceiling_under (the_book past a.year) (Some a)) (length past + 1)
    ≡ year_row (f ∷ past) a.student a.year
applied_row past f a is sound =
    let whole = of_kind f (Apply a) is in
    let rule : breaks past (record { key = f.key; what = Apply a }) ≡ None = subst (λ (g : Filing). breaks past g ≡ None) whole sound in
    let same : (a.student == a.student && a.year == a.year) ≡ true = rw (eq-eqb a.student a.student refl, eq-eqb a.year a.year refl) refl in
    let wins : is_higher (Some a) (application past a.student a.year) ≡ true = above a (application past a.student a.year) (correction past f.key a rule).above in
    sym (subst (λ (g : Filing). year_row (g ∷ past) a.student a.year
    ≡ year_applied (year_row past a.student a.year) a (award_under (the_book past a.year) (Some a)) (ceiling_under (the_book past a.year) (Some a)) (length past + 1)) (sym whole)
    (ap (with_given past a.student a.year a) same ∙ ap (with_application past a.student a.year (Some a)) wins))

pub applied_changes : (past : List Filing) (f : Filing) (a : Application) → f.what ≡ Apply a → ChangesYear past f a.student a.year
applied_changes past f a is s y off =
    subst (λ (g : Filing). year_row (g ∷ past) s y ≡ year_row past s y) (sym (of_kind f (Apply a) is)) (ap (with_given past s y a) off)

-- ---- a book
-- an application that breaks no rule is of a year with a book
book_stands : (past : List Filing) (key : Key) (a : Application) → breaks past (record { key = key; what = Apply a }) ≡ None →
    is_some (the_book past a.year) ≡ true
book_stands past key a rule =
    let k = all_hold (rules_of past key (Apply a)) rule in
    let r = hold_back (only (nat_lt 0 key.school) (lacks 12 (school_at past key.school) key.school 0 ∷ []))
    (lacks 10 (book_at past a.year) a.year 0 ∷ told (unfit_under (the_book past a.year) a)
    ++ (rule_91 a.transaction (transaction_of (application past a.student a.year)) ∷ rule_93 (apply_facts past key.school a (award_filed past a)))) k.1 in
    some_told (λ g. book_in a.year g.what) past (lacks_holds 10 (book_at past a.year) a.year 0 r.0)

-- so without a book none is in force
no_application : (past : List Filing) (student year : ℕ) → IsLegal past → the_book past year ≡ None → application past student year ≡ None
no_application [] student year legal none = refl
no_application (f ∷ past) student year legal none = go f.key f.what legal.2 none (no_application past student year legal.0)
  where
    no_book : (new old : Option Book) → earlier new old ≡ None → old ≡ None
    no_book None old e = e
    no_book (Some b) None e = refl
    no_book (Some b) (Some c) e = cc

    go : (key : Key) (what : What) → breaks past (record { key = key; what = what }) ≡ None → the_book (record { key = key; what = what } ∷ past) year ≡ None →
        (the_book past year ≡ None → application past student year ≡ None) → application (record { key = key; what = what } ∷ past) student year ≡ None
    go key (Apply a) rule none ih = pick (a.student == student) (a.year == year) refl
      where
        pick : (t u : Bool) → (a.year == year) ≡ u → higher (given (t && u) a) (application past student year) ≡ None
        pick false u e = ih none
        pick true false e = ih none
        pick true true e =
            let stands : is_some (the_book past year) ≡ true =
            subst (λ (n : ℕ). is_some (the_book past n) ≡ true) (eqb-true a.year year e) (book_stands past key a rule) in
            let lacks : is_some (the_book past year) ≡ false = rw none refl in
            cc
    go key (BookFiled b) rule none ih = ih (no_book (given (b.year == year) b) (the_book past year) none)
    go key (School b) rule none ih = ih none
    go key (Calendar b) rule none ih = ih none
    go key (Prior b) rule none ih = ih none
    go key (Enroll b) rule none ih = ih none
    go key (Originate b) rule none ih = ih none
    go key (Pay b) rule none ih = ih none
    go key (Withdraw b) rule none ih = ih none
    go key (Repay b) rule none ih = ih none
    go key (Adjust b) rule none ih = ih none
    go key (Cost b) rule none ih = ih none
    go key (Sent b) rule none ih = ih none
    go key (Amend b) rule none ih = ih none

award_stays : (new old : Option Book) (o : Option Application) → (old ≡ None → o ≡ None) → award_under (earlier new old) o ≡ award_under old o
award_stays None old o lacks = refl
award_stays (Some b) None o lacks = rw (lacks refl) refl
award_stays (Some b) (Some c) o lacks = refl

ceiling_stays : (new old : Option Book) (o : Option Application) → (old ≡ None → o ≡ None) → ceiling_under (earlier new old) o ≡ ceiling_under old o
ceiling_stays None old o lacks = refl
ceiling_stays (Some b) None o lacks = rw (lacks refl) refl
ceiling_stays (Some b) (Some c) o lacks = refl

-- ---- a term
-- whether a cell's term is on file
abbrev filed_cell : List Filing → Cell → Bool
filed_cell past c = is_filed past c.school c.year c.term

-- a net is that of the cells whose term is on file
on_file_alone : (past : List Filing) → IsLegal past → (sel : Cell → Bool) →
    (paid past sel ≡ paid past (of_sort sel (filed_cell past))) × (taken past sel ≡ taken past (of_sort sel (filed_cell past)))
on_file_alone past legal sel =
    let a = paid_parts past sel (filed_cell past) in
    let b = taken_parts past sel (filed_cell past) in
    let z : paid past (not_of_sort sel (filed_cell past)) ≡ 0 =
    paid_unfiled past legal (not_of_sort sel (filed_cell past)) (λ c e. unfiled (sel c) (filed_cell past c) e) in
    let w = any_net_stands past legal (not_of_sort sel (filed_cell past)) in
    (omega arith, omega arith)
  where
    unfiled : (a b : Bool) → (a && not b) ≡ true → b ≡ false
    unfiled true true e = cc
    unfiled true false e = refl
    unfiled false b e = cc

-- selections that agree where terms are on file have one net
net_agrees : (past : List Filing) → IsLegal past → (sel sel' : Cell → Bool) → ((c : Cell) → filed_cell past c ≡ true → sel c ≡ sel' c) → net past sel ≡ net past sel'
net_agrees past legal sel sel' agree =
    let a = on_file_alone past legal sel in
    let b = on_file_alone past legal sel' in
    let same = λ (c : Cell). both (sel c) (sel' c) (filed_cell past c) (agree c) in
    let p = paid_same past (of_sort sel (filed_cell past)) (of_sort sel' (filed_cell past)) same in
    let t = taken_same past (of_sort sel (filed_cell past)) (of_sort sel' (filed_cell past)) same in
    omega arith
  where
    both : (a b f : Bool) → (f ≡ true → a ≡ b) → (a && f) ≡ (b && f)
    both a b true e = rw (e refl) refl
    both true true false e = refl
    both true false false e = refl
    both false true false e = refl
    both false false false e = refl

-- a new term is of no sort that moves the net of the main terms
main_stays : (past : List Filing) (key : Key) (c : CalendarFacts) → IsLegal past → (s y : ℕ) →
    pell_main (record { key = key; what = Calendar c } ∷ past) s y ≡ pell_main past s y
main_stays past key c legal s y =
    net_agrees past legal (in_main_terms (record { key = key; what = Calendar c } ∷ past) s y 3) (in_main_terms past s y 3)
    (λ d filed. keeps (in_year s y 3 d) d.school d.year d.term (at_school d.school (term_in d.year d.term) (record { key = key; what = Calendar c })) filed)
  where
    keeps : (b : Bool) (school year number : ℕ) (new : Option Term) → is_filed past school year number ≡ true →
        (b && not (is_extra (earlier new (the_term past school year number)))) ≡ (b && not (is_extra (the_term past school year number)))
    keeps b school year number new filed = pick (the_term past school year number) refl
      where
        pick : (o : Option Term) → the_term past school year number ≡ o → (b && not (is_extra (earlier new o))) ≡ (b && not (is_extra o))
        pick None e = let k = not_there past school year number e in cc
        pick (Some t) e = same new
          where
            same : (n : Option Term) → (b && not (is_extra (earlier n (Some t)))) ≡ (b && not (is_extra (Some t)))
            same None = refl
            same (Some x) = refl

-- ---- all other kinds
-- a kind that changes no year
abbrev pub changes_none : What → Bool
changes_none (Apply a) = false
changes_none (Pay a) = false
changes_none (Withdraw w) = false
changes_none (Repay a) = false
changes_none (Adjust a) = false
changes_none _ = true

pub none_of_these : (what : What) → ((a : Application) → what ≡ Apply a → ⊥) → ((a : Amount) → what ≡ Pay a → ⊥) → ((w : WithdrawFacts) → what ≡ Withdraw w → ⊥) →
    ((a : Amount) → what ≡ Repay a → ⊥) → ((a : Amount) → what ≡ Adjust a → ⊥) → changes_none what ≡ true
none_of_these (Apply a) apply pay withdraw repay adjust = absurd (apply a refl)
none_of_these (Pay a) apply pay withdraw repay adjust = absurd (pay a refl)
none_of_these (Withdraw w) apply pay withdraw repay adjust = absurd (withdraw w refl)
none_of_these (Repay a) apply pay withdraw repay adjust = absurd (repay a refl)
none_of_these (Adjust a) apply pay withdraw repay adjust = absurd (adjust a refl)
none_of_these (BookFiled b) apply pay withdraw repay adjust = refl
none_of_these (School b) apply pay withdraw repay adjust = refl
none_of_these (Calendar b) apply pay withdraw repay adjust = refl
none_of_these (Prior b) apply pay withdraw repay adjust = refl
none_of_these (Enroll b) apply pay withdraw repay adjust = refl
none_of_these (Originate b) apply pay withdraw repay adjust = refl
none_of_these (Cost b) apply pay withdraw repay adjust = refl
none_of_these (Sent b) apply pay withdraw repay adjust = refl
none_of_these (Amend b) apply pay withdraw repay adjust = refl

unchanged : (past : List Filing) (key : Key) (what : What) → changes_none what ≡ true → IsLegal past → (s y : ℕ) →
    year_row (record { key = key; what = what } ∷ past) s y ≡ year_row past s y
unchanged past key (BookFiled b) none legal s y =
    with_award (year_row past s y) _ _ _ _ (award_stays (given (b.year == y) b) (the_book past y) (application past s y) (no_application past s y legal))
    (ceiling_stays (given (b.year == y) b) (the_book past y) (application past s y) (no_application past s y legal))
unchanged past key (Calendar c) none legal s y =
    with_nets (year_row past s y) (six (λ p. net past (in_year s y p))) (six (λ p. net past (in_year s y p))) _ _ refl (main_stays past key c legal s y)
unchanged past key (School b) none legal s y = refl
unchanged past key (Prior b) none legal s y = refl
unchanged past key (Enroll b) none legal s y = refl
unchanged past key (Originate b) none legal s y = refl
unchanged past key (Apply a) none legal s y = cc
unchanged past key (Pay a) none legal s y = cc
unchanged past key (Withdraw w) none legal s y = cc
unchanged past key (Repay a) none legal s y = cc
unchanged past key (Adjust a) none legal s y = cc
unchanged past key (Cost b) none legal s y = refl
unchanged past key (Sent b) none legal s y = refl
unchanged past key (Amend b) none legal s y = refl

pub year_unchanged : (past : List Filing) (f : Filing) → changes_none f.what ≡ true → IsLegal past → (s y : ℕ) → year_row (f ∷ past) s y ≡ year_row past s y
year_unchanged past f none legal s y = unchanged past f.key f.what none legal s y

-- ---- what amounts there can be
pub nets_most : (past : List Filing) (student year : ℕ) → IsLegal past → (p : ℕ) → slice_index (year_row past student year).nets p ≤ 100000000000000
nets_most past student year legal p =
    six-most (λ q. net past (in_year student year q)) 100000000000000 (λ q. omega (arith, paid-most past legal (in_year student year q))) p

pub main_most : (past : List Filing) (student year : ℕ) → IsLegal past → pell_main past student year ≤ 100000000000000
main_most past student year legal = omega (arith, paid-most past legal (in_main_terms past student year 3))

pub entry_sums : (past : List Filing) (f : Filing) (school student year term : ℕ) (e : Account) → IsLegal (f ∷ past) →
    IsEntry past f.key f.what school student year term e → AreSums e.paid
entry_sums past f school student year term e legal entry = (entry-sums past f school student year term e legal entry).paid
