-- In a legal history the net Pell of a year's main terms stays within the Scheduled Award.
use Rattle.std.proofs.Common.{◌≡◌, ℕ, ◌+◌, ◌-◌, ◌*◌, ◌≤◌, refl, arith, subst, cond, Bool, true, false, not, ◌&&◌, List, [], ◌∷◌, Option, Some, None, eqb-true, zero-le, ◌⊎◌, inl, inr}
use Rattle.std.specs.Prelude.{◌==◌}
use Rattle.std.proofs.lemmas.Bool.{and_parts}
use Rattle.aid_types.specs.declared.number.Key.{Key}
use Rattle.aid_types.specs.declared.term.Term.{Term}
use Rattle.aid_filings.specs.declared.filing.Amount.{Amount}
use Rattle.aid_books.specs.declared.book.Book.{Book}
use Rattle.law_rules.specs.declared.facts.Facts.{Facts}
use Rattle.aid_types.specs.declared.application.Application.{Application}
use Rattle.aid_filings.specs.declared.filing.CalendarFacts.{CalendarFacts}
use Rattle.aid_filings.specs.declared.filing.Filing.{Filing}
use Rattle.aid_filings.specs.declared.filing.What.{What}
use Rattle.aid_filings.specs.declared.filing.What.TheVariants.{Book as BookFiled, School, Calendar, Prior, Apply, Enroll, Originate, Pay, Withdraw, Repay, Adjust, Cost, Sent, Amend}
use Rattle.aid_types.specs.Programs.{rank}
use Rattle.office_history.specs.Past.{the_term, is_extra, earlier, at_school, term_in, the_book}
use Rattle.office_history.specs.Award.{award_under, scheduled}
use Rattle.office_history.specs.Net.{Cell, Move, cell_of, moved, paid, taken, net, net_at, in_year, in_main_terms, payments_in, takings_in, pell_year, pell_main}
use Rattle.law_terms.specs.Terms.{intensity_of}
use Rattle.law_rules.specs.Rules.{is_half_time_extra}
use Rattle.law_rules.specs.Lines.{year_limit}
use Rattle.office_history.specs.FactsOf.{facts_of}
use Rattle.office_history.specs.Answer.{breaks, IsLegal}
use Rattle.office_history.proofs.Cells.{onto_is}
use Rattle.office_history.proofs.PayRules.{affords, term_filed}
use Rattle.office_history.proofs.Steps.{net_unpaid, net_paid}
use Rattle.office_history.proofs.Awards.{award_by_book, award_by_application, correction}
use Rattle.office_history.proofs.Filed.{is_filed, at_filed, still}
use Rattle.office_history.proofs.Apart.{not_there}
use Rattle.office_history.proofs.AnyNets.{any_net_stands}

-- the cells that pass and are of a sort, and those that are not
abbrev pub of_sort : (Cell → Bool) → (Cell → Bool) → Cell → Bool
of_sort sel t c = sel c && t c

abbrev pub not_of_sort : (Cell → Bool) → (Cell → Bool) → Cell → Bool
not_of_sort sel t c = sel c && not (t c)

moved_parts : (sel t : Cell → Bool) (ms : List Move) → moved sel ms ≡ moved (of_sort sel t) ms + moved (not_of_sort sel t) ms
moved_parts sel t [] = omega arith
moved_parts sel t (m ∷ ms) = go (sel m.at) (t m.at) (moved_parts sel t ms)
  where
    go : (a b : Bool) → moved sel ms ≡ moved (of_sort sel t) ms + moved (not_of_sort sel t) ms →
        cond a m.cents 0 + moved sel ms ≡ (cond (a && b) m.cents 0 + moved (of_sort sel t) ms) + (cond (a && not b) m.cents 0 + moved (not_of_sort sel t) ms)
    go true true h = omega arith
    go true false h = omega arith
    go false b h = omega arith

pub paid_parts : (past : List Filing) (sel t : Cell → Bool) → paid past sel ≡ paid past (of_sort sel t) + paid past (not_of_sort sel t)
paid_parts [] sel t = omega arith
paid_parts (f ∷ past) sel t =
    let a = moved_parts sel t (payments_in f.key f.what) in
    let b = paid_parts past sel t in
    rw (
      onto_is sel (payments_in f.key f.what) (paid past sel),
      onto_is (of_sort sel t) (payments_in f.key f.what) (paid past (of_sort sel t)),
      onto_is (not_of_sort sel t) (payments_in f.key f.what) (paid past (not_of_sort sel t)),
    ) (omega arith)

pub taken_parts : (past : List Filing) (sel t : Cell → Bool) → taken past sel ≡ taken past (of_sort sel t) + taken past (not_of_sort sel t)
taken_parts [] sel t = omega arith
taken_parts (f ∷ past) sel t =
    let a = moved_parts sel t (takings_in past (net_at past) f.key f.what) in
    let b = taken_parts past sel t in
    rw (
      onto_is sel (takings_in past (net_at past) f.key f.what) (taken past sel),
      onto_is (of_sort sel t) (takings_in past (net_at past) f.key f.what) (taken past (of_sort sel t)),
      onto_is (not_of_sort sel t) (takings_in past (net_at past) f.key f.what) (taken past (not_of_sort sel t)),
    ) (omega arith)

-- a part's net is at most the whole's, since the other part's isn't below 0
pub net_part : (past : List Filing) → IsLegal past → (sel t : Cell → Bool) → net past (not_of_sort sel t) ≤ net past sel
net_part past h sel t =
    let a = paid_parts past sel t in
    let b = taken_parts past sel t in
    let c = any_net_stands past h (of_sort sel t) in
    omega arith

-- sums over the same cells
moved_same : (s s' : Cell → Bool) (ms : List Move) → ((c : Cell) → s c ≡ s' c) → moved s ms ≡ moved s' ms
moved_same s s' [] same = refl
moved_same s s' (m ∷ ms) same = let k = moved_same s s' ms same in rw (same m.at) (omega arith)

pub paid_same : (past : List Filing) (s s' : Cell → Bool) → ((c : Cell) → s c ≡ s' c) → paid past s ≡ paid past s'
paid_same [] s s' same = refl
paid_same (f ∷ past) s s' same =
    let a = moved_same s s' (payments_in f.key f.what) same in
    let b = paid_same past s s' same in
    rw (onto_is s (payments_in f.key f.what) (paid past s), onto_is s' (payments_in f.key f.what) (paid past s')) (omega arith)

pub taken_same : (past : List Filing) (s s' : Cell → Bool) → ((c : Cell) → s c ≡ s' c) → taken past s ≡ taken past s'
taken_same [] s s' same = refl
taken_same (f ∷ past) s s' same =
    let a = moved_same s s' (takings_in past (net_at past) f.key f.what) same in
    let b = taken_same past s s' same in
    rw (onto_is s (takings_in past (net_at past) f.key f.what) (taken past s), onto_is s' (takings_in past (net_at past) f.key f.what) (taken past s')) (omega arith)

-- nothing is paid at cells of terms that aren't on file
pub paid_unfiled : (past : List Filing) → IsLegal past → (t : Cell → Bool) → ((c : Cell) → t c ≡ true → is_filed past c.school c.year c.term ≡ false) → paid past t ≡ 0
paid_unfiled [] h t off = refl
paid_unfiled (f ∷ past) h t off = go f.key f.what h.2 off (paid_unfiled past h.0 t)
  where
    go : (key : Key) (what : What) → breaks past (record { key = key; what = what }) ≡ None →
        ((c : Cell) → t c ≡ true → is_filed (record { key = key; what = what } ∷ past) c.school c.year c.term ≡ false) →
        (((c : Cell) → t c ≡ true → is_filed past c.school c.year c.term ≡ false) → paid past t ≡ 0) →
        paid (record { key = key; what = what } ∷ past) t ≡ 0
    go key (Pay a) rule off ih = pick (t (cell_of key a)) refl
      where
        pick : (b : Bool) → t (cell_of key a) ≡ b → cond b a.cents 0 + paid past t ≡ 0
        pick false e = let k = ih off in omega arith
        pick true e =
            let n : is_filed past key.school a.year a.term ≡ false = off (cell_of key a) e in
            let y : is_filed past key.school a.year a.term ≡ true = at_filed past key.school a.year a.term (term_filed (facts_of past key (Pay a)) key a rule) in
            cc
    go key (Calendar b) rule off ih = ih (λ c e. before c.school c.year c.term (off c e))
      where
        before : (school year number : ℕ) → is_filed (record { key = key; what = Calendar b } ∷ past) school year number ≡ false → is_filed past school year number ≡ false
        before school year number e = pick (is_filed past school year number) refl
          where
            pick : (x : Bool) → is_filed past school year number ≡ x → x ≡ false
            pick false k = refl
            pick true k = let s = still past (record { key = key; what = Calendar b }) school year number k in cc
    go key (BookFiled b) rule off ih = ih off
    go key (School b) rule off ih = ih off
    go key (Prior b) rule off ih = ih off
    go key (Apply b) rule off ih = ih off
    go key (Enroll b) rule off ih = ih off
    go key (Originate b) rule off ih = ih off
    go key (Withdraw b) rule off ih = ih off
    go key (Repay b) rule off ih = ih off
    go key (Adjust b) rule off ih = ih off
    go key (Cost b) rule off ih = ih off
    go key (Sent b) rule off ih = ih off
    go key (Amend b) rule off ih = ih off

-- whether a cell's term is on file
abbrev filed_cell : List Filing → Cell → Bool
filed_cell past c = is_filed past c.school c.year c.term

-- a net is that of the cells on file
on_file_alone : (past : List Filing) → IsLegal past → (sel : Cell → Bool) →
    (paid past sel ≡ paid past (of_sort sel (filed_cell past))) × (taken past sel ≡ taken past (of_sort sel (filed_cell past)))
on_file_alone past h sel =
    let a = paid_parts past sel (filed_cell past) in
    let b = taken_parts past sel (filed_cell past) in
    let z : paid past (not_of_sort sel (filed_cell past)) ≡ 0 = paid_unfiled past h (not_of_sort sel (filed_cell past)) (λ c e. unfiled (sel c) (filed_cell past c) e) in
    let w = any_net_stands past h (not_of_sort sel (filed_cell past)) in
    (omega arith, omega arith)
  where
    unfiled : (a b : Bool) → (a && not b) ≡ true → b ≡ false
    unfiled true true e = cc
    unfiled true false e = refl
    unfiled false b e = cc

-- selectors that agree where terms are on file have one net
net_agrees : (past : List Filing) → IsLegal past → (s s' : Cell → Bool) → ((c : Cell) → filed_cell past c ≡ true → s c ≡ s' c) → net past s ≡ net past s'
net_agrees past h s s' agree =
    let a = on_file_alone past h s in
    let b = on_file_alone past h s' in
    let same = λ (c : Cell). both (s c) (s' c) (filed_cell past c) (agree c) in
    let p = paid_same past (of_sort s (filed_cell past)) (of_sort s' (filed_cell past)) same in
    let t = taken_same past (of_sort s (filed_cell past)) (of_sort s' (filed_cell past)) same in
    omega arith
  where
    both : (a b f : Bool) → (f ≡ true → a ≡ b) → (a && f) ≡ (b && f)
    both a b true e = rw (e refl) refl
    both true true false e = refl
    both true false false e = refl
    both false true false e = refl
    both false false false e = refl

abbrev pub MainHolds : List Filing → Type 0
MainHolds past = (student year : ℕ) → pell_main past student year ≤ 100 * scheduled past student year

-- a new calendar changes no sort of a term that is on file
main_calendar : (past : List Filing) (key : Key) (c : CalendarFacts) → IsLegal past → MainHolds past → MainHolds (record { key = key; what = Calendar c } ∷ past)
main_calendar past key c h ih student year =
    let same = net_agrees past h (in_main_terms (record { key = key; what = Calendar c } ∷ past) student year 3) (in_main_terms past student year 3)
    (λ d filed. keeps (in_year student year 3 d) d.school d.year d.term (at_school d.school (term_in d.year d.term) (record { key = key; what = Calendar c })) filed) in
    let old = ih student year in
    omega arith
  where
    keeps : (b : Bool) (school y number : ℕ) (new : Option Term) → is_filed past school y number ≡ true →
        (b && not (is_extra (earlier new (the_term past school y number)))) ≡ (b && not (is_extra (the_term past school y number)))
    keeps b school y number new filed = pick (the_term past school y number) refl
      where
        pick : (o : Option Term) → the_term past school y number ≡ o → (b && not (is_extra (earlier new o))) ≡ (b && not (is_extra o))
        pick None e = let k = not_there past school y number e in cc
        pick (Some t) e = same new
          where
            same : (n : Option Term) → (b && not (is_extra (earlier n (Some t)))) ≡ (b && not (is_extra (Some t)))
            same None = refl
            same (Some x) = refl

-- the year's limit of a main term
main_limit : (f : Facts) → is_extra f.term ≡ false → year_limit f ≡ 100 * f.scheduled
main_limit f e =
    let k : is_half_time_extra f.term (intensity_of f.credits f.full) ≡ false = go f.term e in
    rw k refl
  where
    go : (o : Option Term) → is_extra o ≡ false → is_half_time_extra o (intensity_of f.credits f.full) ≡ false
    go None e = refl
    go (Some t) e = rw e refl

within_main : (g : ℕ → ℕ → ℕ) (student year : ℕ) (d : Cell) (n : ℕ) (e : Bool) → (e ≡ true → d.program ≡ 3 → n ≤ g d.student d.year) →
    cond (in_year student year 3 d && e) n 0 ≤ g student year
within_main g student year d n e h = go (in_year student year 3 d) e refl refl
  where
    go : (b x : Bool) → in_year student year 3 d ≡ b → e ≡ x → cond (b && x) n 0 ≤ g student year
    go false x p q = zero-le
    go true false p q = zero-le
    go true true p q =
        let a = and_parts (d.student == student) _ p in
        let b = and_parts (d.year == year) (d.program == 3) a.1 in
        subst (λ y. n ≤ g student y) (eqb-true d.year year b.0)
        (subst (λ s. n ≤ g s d.year) (eqb-true d.student student a.0) (h q (eqb-true d.program 3 b.1)))

main_paid : (past : List Filing) (key : Key) (a : Amount) → IsLegal past → MainHolds past → breaks past (record { key = key; what = Pay a }) ≡ None →
    MainHolds (record { key = key; what = Pay a } ∷ past)
main_paid past key a legal ih h student year =
    let f = facts_of past key (Pay a) in
    let own : not (is_extra (the_term past key.school a.year a.term)) ≡ true → rank a.program ≡ 3 →
    a.cents ≤ 100 * scheduled past a.student a.year - pell_main past a.student a.year =
    λ main pell.
    let r : pell_year past a.student a.year + a.cents ≤ year_limit f = (affords f key a h).year pell in
    let l : year_limit f ≡ 100 * scheduled past a.student a.year = main_limit f (flip (is_extra (the_term past key.school a.year a.term)) main) in
    let p : pell_main past a.student a.year ≤ pell_year past a.student a.year =
    net_part past legal (in_year a.student a.year 3) (λ c. is_extra (the_term past c.school c.year c.term)) in
    omega arith in
    let x : cond (in_main_terms past student year 3 (cell_of key a)) a.cents 0 ≤ 100 * scheduled past student year - pell_main past student year =
    within_main (λ s y. 100 * scheduled past s y - pell_main past s y) student year (cell_of key a) a.cents
    (not (is_extra (the_term past key.school a.year a.term))) own in
    let n = net_paid past key a (in_main_terms past student year 3) in
    let old = ih student year in
    omega arith
  where
    flip : (b : Bool) → not b ≡ true → b ≡ false
    flip true e = cc
    flip false e = refl

main_kept : (past : List Filing) (key : Key) (what : What) → MainHolds past → payments_in key what ≡ [] →
    ((student year : ℕ) → net (record { key = key; what = what } ∷ past) (in_main_terms past student year 3) ≡ pell_main (record { key = key; what = what } ∷ past) student year) →
    ((student year : ℕ) → scheduled past student year ≤ scheduled (record { key = key; what = what } ∷ past) student year) →
    MainHolds (record { key = key; what = what } ∷ past)
main_kept past key what ih none same up student year =
    let n = net_unpaid past key what (in_main_terms past student year 3) none in
    let s = same student year in
    let old = ih student year in
    let u = up student year in
    omega arith

main_book : (past : List Filing) (key : Key) (b : Book) → MainHolds past → breaks past (record { key = key; what = BookFiled b }) ≡ None →
    MainHolds (record { key = key; what = BookFiled b } ∷ past)
main_book past key b ih h student year = go (award_by_book past key b student year h)
  where
    go : (scheduled past student year ≡ 0) ⊎ (scheduled (record { key = key; what = BookFiled b } ∷ past) student year ≡ scheduled past student year) →
        pell_main past student year ≤ 100 * scheduled (record { key = key; what = BookFiled b } ∷ past) student year
    go (inl z) = let old = ih student year in omega arith
    go (inr e) = let old = ih student year in omega arith

main_applied : (past : List Filing) (key : Key) (a : Application) → MainHolds past → breaks past (record { key = key; what = Apply a }) ≡ None →
    MainHolds (record { key = key; what = Apply a } ∷ past)
main_applied past key a ih h student year = go (award_by_application past key a student year h)
  where
    go : ((a.student ≡ student) × (a.year ≡ year)
        × (scheduled (record { key = key; what = Apply a } ∷ past) student year ≡ award_under (the_book past a.year) (Some a)))
        ⊎ (((a.student == student && a.year == year) ≡ false)
        × (scheduled (record { key = key; what = Apply a } ∷ past) student year ≡ scheduled past student year)) →
        pell_main past student year ≤ 100 * scheduled (record { key = key; what = Apply a } ∷ past) student year
    go (inl w) =
        let y : pell_main past student year ≤ 100 * award_under (the_book past a.year) (Some a) =
        subst (λ z. pell_main past student z ≤ 100 * award_under (the_book past a.year) (Some a)) w.1
        (subst (λ z. pell_main past z a.year ≤ 100 * award_under (the_book past a.year) (Some a)) w.0 (correction past key a h).main) in
        let e = w.2 in
        omega arith
    go (inr w) = let old = ih student year in let e = w.1 in omega arith

main_step : (past : List Filing) (key : Key) (what : What) → IsLegal past → MainHolds past → breaks past (record { key = key; what = what }) ≡ None →
    MainHolds (record { key = key; what = what } ∷ past)
main_step past key (Pay a) legal ih h = main_paid past key a legal ih h
main_step past key (Calendar c) legal ih h = main_calendar past key c legal ih
main_step past key (BookFiled b) legal ih h = main_book past key b ih h
main_step past key (Apply a) legal ih h = main_applied past key a ih h
main_step past key (School b) legal ih h = ih
main_step past key (Prior b) legal ih h = ih
main_step past key (Enroll b) legal ih h = ih
main_step past key (Originate b) legal ih h = ih
main_step past key (Withdraw b) legal ih h = main_kept past key (Withdraw b) ih refl (λ student year. refl) (λ student year. omega arith)
main_step past key (Repay b) legal ih h = main_kept past key (Repay b) ih refl (λ student year. refl) (λ student year. omega arith)
main_step past key (Adjust b) legal ih h = main_kept past key (Adjust b) ih refl (λ student year. refl) (λ student year. omega arith)
main_step past key (Cost b) legal ih h = ih
main_step past key (Sent b) legal ih h = ih
main_step past key (Amend b) legal ih h = ih

pub main_holds : (past : List Filing) → IsLegal past → MainHolds past
main_holds [] h = λ student year. zero-le
main_holds (f ∷ past) h = main_step past f.key f.what h.0 (main_holds past h.0) h.2
