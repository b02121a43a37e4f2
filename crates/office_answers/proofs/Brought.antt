-- What a filing brings, on the filings before it alone.
use Rattle.std.proofs.Common.{◌≡◌, ◌≢◌, ℕ, zero, suc, ◌+◌, ◌*◌, ◌≤◌, ◌<◌, refl, sym, ap, ◌∙◌, subst, arith, cond, Bool, true, false, ◌&&◌, List, [], ◌∷◌, None, eqb-true, eq-eqb, ne_eqb}
use Rattle.std.specs.Prelude.{◌==◌}
use Rattle.std.specs.List.{range_with_len}
use Rattle.aid_types.specs.Programs.{rank}
use Rattle.aid_types.specs.Ranges.{IsBetween}
use Rattle.aid_types.specs.declared.number.Key.{Key}
use Rattle.aid_filings.specs.declared.filing.Amount.{Amount}
use Rattle.aid_filings.specs.declared.filing.Filing.{Filing}
use Rattle.aid_filings.specs.declared.filing.What.TheVariants.{Pay}
use Rattle.aid_filings.specs.declared.reply.Outcome.TheVariants.{Paid}
use Rattle.law_terms.specs.Used.{use_of}
use Rattle.law_rules.specs.Lines.{year_limit}
use Rattle.office_history.specs.Past.{prior_units}
use Rattle.office_history.specs.Award.{scheduled}
use Rattle.office_history.specs.Net.{Cell, all_years, cell_of, in_year, net, pell_year, sum_over, use_in, used, used_else}
use Rattle.office_history.specs.FactsOf.{facts_of}
use Rattle.office_history.specs.Answer.{IsLegal, breaks, outcome_in}
use Rattle.office_history.proofs.AnyNets.{any_net_stands}
use Rattle.office_history.proofs.Lifetime.{but}
use Rattle.office_history.proofs.PayRules.{affords}
use Rattle.office_answers.specs.Brought.{IsWithPayment, net_with, paid_with, used_with}

-- a payment's own cell is among those of its student, year and program
own_cell : (key : Key) (a : Amount) → in_year a.student a.year (rank a.program) (cell_of key a) ≡ true
own_cell key a = rw (eq-eqb a.student a.student refl, eq-eqb a.year a.year refl, eq-eqb (rank a.program) (rank a.program) refl) refl

-- a payment raises a net by its cents at the cells that pass, and no other
net_raised : (past : List Filing) (key : Key) (a : Amount) (sel : Cell → Bool) → IsLegal past →
    net (record { key = key; what = Pay a } ∷ past) sel ≡ net past sel + cond (sel (cell_of key a)) a.cents 0
net_raised past key a sel legal = let stands = any_net_stands past legal sel in omega arith

net_after : (past : List Filing) (key : Key) (a : Amount) → IsLegal past →
    net (record { key = key; what = Pay a } ∷ past) (in_year a.student a.year (rank a.program)) ≡ net_with past a
net_after past key a legal =
    net_raised past key a (in_year a.student a.year (rank a.program)) legal
    ∙ ap (λ (b : Bool). net past (in_year a.student a.year (rank a.program)) + cond b a.cents 0) (own_cell key a)

-- ---- sums over years, of which one changes
sum_same : (g g' : ℕ → ℕ) (ys : List ℕ) → ((y : ℕ) → g' y ≡ g y) → sum_over g' ys ≡ sum_over g ys
sum_same g g' [] same = refl
sum_same g g' (y ∷ ys) same = let k = same y in let r = sum_same g g' ys same in omega arith

-- past the year the sum without it is the whole one
sum_past : (g g' : ℕ → ℕ) (year a n : ℕ) → year < a → ((y : ℕ) → y ≢ year → g' y ≡ g y) →
    sum_over g' (range_with_len a n) ≡ sum_over (but year g) (range_with_len a n)
sum_past g g' year a zero h same = refl
sum_past g g' year a (suc n) h same =
    let r = sum_past g g' year (a + 1) n (omega arith) same in
    let k = same a (λ e. omega arith) in
    let b : but year g a ≡ g a = rw (ne_eqb a year (λ e. omega arith)) refl in
    omega arith

sum_of_others : (g g' : ℕ → ℕ) (year a n : ℕ) → a ≤ year → year < a + n → ((y : ℕ) → y ≢ year → g' y ≡ g y) →
    sum_over g' (range_with_len a n) ≡ sum_over (but year g) (range_with_len a n) + g' year
sum_of_others g g' year a zero low high same = absurd (omega arith)
sum_of_others g g' year a (suc n) low high same = go (sum_of_others g g' year (a + 1) n) (a == year) refl
  where
    go : (a + 1 ≤ year → year < a + 1 + n → ((y : ℕ) → y ≢ year → g' y ≡ g y) →
        sum_over g' (range_with_len (a + 1) n) ≡ sum_over (but year g) (range_with_len (a + 1) n) + g' year) →
        (b : Bool) → (a == year) ≡ b →
        g' a + sum_over g' (range_with_len (a + 1) n) ≡ cond b 0 (g a) + sum_over (but year g) (range_with_len (a + 1) n) + g' year
    go r false e =
        let differ : a ≢ year = λ q. let t : (a == year) ≡ true = eq-eqb a year q in let bad : ⊥ = cc in bad in
        let k = same a differ in
        let rest = r (omega arith) (omega arith) same in
        omega arith
    go r true e =
        let q : a ≡ year = eqb-true a year e in
        let k = sum_past g g' year (a + 1) n (omega arith) same in
        let s : g' a ≡ g' year = ap g' q in
        omega arith

all_but_one : (g g' : ℕ → ℕ) (year : ℕ) → IsBetween 2000 2099 year → ((y : ℕ) → y ≢ year → g' y ≡ g y) → sum_over g' all_years ≡ sum_over (but year g) all_years + g' year
unfolding all_years
all_but_one g g' year between same = sum_of_others g g' year 2000 100 between.0 (omega arith) same

-- the use of all years is that of all but one, and of this one
pub used_apart : (past : List Filing) (student year : ℕ) → IsBetween 2000 2099 year → used past student ≡ used_else past student year + use_in past student year
used_apart past student year between =
    let all = all_but_one (use_in past student) (use_in past student) year between (λ y differ. refl) in
    omega arith

-- ---- lifetime use with a payment
-- the use of a year stays where a payment's cell isn't of Pell in it
use_stays : (past : List Filing) (key : Key) (a : Amount) → IsLegal past → (y : ℕ) → in_year a.student y 3 (cell_of key a) ≡ false →
    use_in (record { key = key; what = Pay a } ∷ past) a.student y ≡ use_in past a.student y
use_stays past key a legal y off =
    let same : pell_year (record { key = key; what = Pay a } ∷ past) a.student y ≡ pell_year past a.student y =
    let k = net_raised past key a (in_year a.student y 3) legal in
    let z : cond (in_year a.student y 3 (cell_of key a)) a.cents 0 ≡ 0 = ap (λ (b : Bool). cond b a.cents 0) off in
    omega arith in
    ap (λ (n : ℕ). use_of n (scheduled past a.student y)) same

of_other_year : (key : Key) (a : Amount) (y : ℕ) → y ≢ a.year → in_year a.student y 3 (cell_of key a) ≡ false
of_other_year key a y differ = rw (eq-eqb a.student a.student refl, ne_eqb a.year y (λ e. differ (sym e))) refl

of_other_program : (key : Key) (a : Amount) (y : ℕ) → (rank a.program == 3) ≡ false → in_year a.student y 3 (cell_of key a) ≡ false
of_other_program key a y e = all_false (a.student == a.student) (a.year == y)
  where
    all_false : (b c : Bool) → (b && (c && (rank a.program == 3))) ≡ false
    all_false false c = refl
    all_false true false = refl
    all_false true true = e

used_after : (past : List Filing) (key : Key) (a : Amount) → IsLegal past → IsBetween 2000 2099 a.year →
    used (record { key = key; what = Pay a } ∷ past) a.student ≡ used_with past a
used_after past key a legal between = go (rank a.program == 3) refl
  where
    go : (b : Bool) → (rank a.program == 3) ≡ b →
        used (record { key = key; what = Pay a } ∷ past) a.student
        ≡ cond b (used_else past a.student a.year + use_of (net_with past a) (scheduled past a.student a.year)) (used past a.student)
    go false e =
        ap (λ (n : ℕ). prior_units past a.student + n)
        (sum_same (use_in past a.student) (use_in (record { key = key; what = Pay a } ∷ past) a.student) all_years (λ y. use_stays past key a legal y (of_other_program key a y e)))
    go true e =
        let program : rank a.program ≡ 3 = eqb-true (rank a.program) 3 e in
        let here : use_in (record { key = key; what = Pay a } ∷ past) a.student a.year ≡ use_of (net_with past a) (scheduled past a.student a.year) =
        ap (λ (n : ℕ). use_of n (scheduled past a.student a.year))
        (subst (λ (p : ℕ). net (record { key = key; what = Pay a } ∷ past) (in_year a.student a.year p) ≡ net_with past a) program (net_after past key a legal)) in
        let all = all_but_one (use_in past a.student) (use_in (record { key = key; what = Pay a } ∷ past) a.student) a.year between
        (λ y differ. use_stays past key a legal y (of_other_year key a y differ)) in
        omega arith

pub outcome_of_pay : (past : List Filing) (f : Filing) (a : Amount) → f.what ≡ Pay a → IsLegal past → IsBetween 2000 2099 a.year → outcome_in past f (Pay a) ≡ paid_with past a
outcome_of_pay past f a is legal between =
    let whole : f ≡ record { key = f.key; what = Pay a } = λ i. record { key = f.key; what = is i } in
    subst (λ (g : Filing). outcome_in past g (Pay a) ≡ paid_with past a) (sym whole)
    (λ i. Paid (net_after past f.key a legal i) (used_after past f.key a legal between i))

-- a payment that breaks no rule leaves the year's Pell within one and a half Scheduled Awards
pub pay_is_within : (past : List Filing) (f : Filing) (a : Amount) → f.what ≡ Pay a → breaks past f ≡ None → IsWithPayment past a
pay_is_within past f a is none =
    let whole : f ≡ record { key = f.key; what = Pay a } = λ i. record { key = f.key; what = is i } in
    go (subst (λ (g : Filing). breaks past g ≡ None) whole none)
  where
    most : (half : Bool) (award : ℕ) → cond half 150 100 * award ≤ 150 * award
    most true award = omega arith
    most false award = omega arith

    go : breaks past (record { key = f.key; what = Pay a }) ≡ None → IsWithPayment past a
    go none = λ program.
        let facts = facts_of past f.key (Pay a) in
        let within = (affords facts f.key a none).year program in
        let limit : year_limit facts ≤ 150 * scheduled past a.student a.year = most _ _ in
        let same : net_with past a ≡ pell_year past a.student a.year + a.cents = ap (λ (p : ℕ). net past (in_year a.student a.year p) + a.cents) program in
        omega arith
