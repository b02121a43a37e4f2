-- Single facts of a history: what a line of the rules reads, and what a plain test reads.
use Rattle.std.proofs.Common.{◌≡◌, ℕ, zero, suc, ◌+◌, ◌<◌, Bool, true, false, not, ◌&&◌, ◌||◌, List, [], ◌∷◌, All, Option, Some, None, refl, arith, ap, sym, ◌∙◌, cond}
use Rattle.std.specs.Prelude.{◌==◌, nat_lt, nat_le, is_some, is_none}
use Rattle.std.specs.List.{filter, list_any, list_all}
use Rattle.std.proofs.lemmas.List.Elements.{All-head, All-tail}
use Rattle.std.proofs.lemmas.Bool.Decides.{nat_tests}
use Rattle.aid_types.specs.declared.term.Term.{Term}
use Rattle.aid_types.specs.declared.application.Application.{Application}
use Rattle.aid_books.specs.declared.book.Book.{Book}
use Rattle.aid_types.specs.declared.award.Refusal.{Refusal}
use Rattle.aid_filings.specs.declared.filing.Filing.{Filing}
use Rattle.law_terms.specs.Terms.{shares_day}
use Rattle.law_rules.specs.Rules.{breaks_in_order, breaks_inside, rule_21, rule_23, rule_62, first_break_in_order}
use Rattle.law_sai.specs.Fits.{is_size, size_for}
use Rattle.law_sai.specs.Formulas.{formula}
use Rattle.office_history.specs.Award.{unfit_under}
use Rattle.office_history.specs.Least.{NonePasses}
use Rattle.office_history.specs.Past.{FiledTerm, earliest, first_at, is_higher, terms_on_file}
use Rattle.office_history.specs.Positions.{is_over, least_code, least_term, overlap_at, term_over, told_over, transaction_of}
use Rattle.office_history.proofs.Among.{none_any}
use Rattle.office_history.proofs.Asked.{none_told, some_told}
use Rattle.office_history.proofs.FirstFilings.{skipped, none_first}
use Rattle.office_history.proofs.LeastNumbers.{Tells, code_tells, position_tells, told_none}
use Rattle.office_history.proofs.LeastTerms.{none_found, nothing_found}
use Rattle.office_history.proofs.TermsOnFile.{positions_fall}
use Rattle.run_claims.specs.Rules.{fits_book, has_order, in_order, is_in_days}
use Rattle.run_claims.proofs.Tests.{and_both, and_last, below, within, none_where_zero}
use Rattle.run_claims.proofs.Lines.{all_keep}

-- a question has a position where it has an answer, and none where it has none
pub answered : {A : Type 0} (operation : Filing → Option A) (past : List Filing) → is_some (earliest operation past) ≡ not (first_at (λ f. is_some (operation f)) past == 0)
answered {A} operation past = go (first_at (λ f. is_some (operation f)) past) refl
  where
    more : (n : ℕ) → true ≡ not (suc n == 0)
    more n = grind (arith, nat_tests)

    go : (n : ℕ) → first_at (λ f. is_some (operation f)) past ≡ n → is_some (earliest operation past) ≡ not (n == 0)
    go zero e = ap (λ (o : Option A). is_some o) (none_told operation past e)
    go (suc n) e = some_told operation past (omega arith) ∙ more n

pub unanswered : {A : Type 0} (operation : Filing → Option A) (past : List Filing) → is_none (earliest operation past) ≡ not (nat_lt 0 (first_at (λ f. is_some (operation f)) past))
unanswered {A} operation past = ap (λ (b : Bool). not b) (answered operation past) ∙ turn (first_at (λ f. is_some (operation f)) past)
  where
    turn : (n : ℕ) → not (not (n == 0)) ≡ not (nat_lt 0 n)
    turn n = grind (arith, nat_tests)

-- no test of a list is true where each is false
any_none : {X : Type 0} (p : X → Bool) (xs : List X) → NonePasses p xs → list_any p xs ≡ false
any_none {X} p [] h = refl
any_none {X} p (x ∷ xs) h =
    let e : p x ≡ false = All-head (λ x. p x ≡ false) x xs h in
    rw e (any_none p xs (All-tail (λ x. p x ≡ false) x xs h))

-- no filing passes exactly where the first has no position
pub none_passes : (p : Filing → Bool) (past : List Filing) → not (list_any p past) ≡ not (nat_lt 0 (first_at p past))
none_passes p past =
    none_where_zero (list_any p past) (first_at p past) (λ e. none_first p past (none_any p past e)) (λ e. any_none p past (skipped p past e))

-- a number of terms that tells them is 0 where none passes
none_tells : (number : FiledTerm → ℕ) (p : FiledTerm → Bool) (ts : List FiledTerm) (n : ℕ) → Tells number p ts n → not (list_any p ts) ≡ not (nat_lt 0 n)
none_tells number p ts n h =
    let k = told_none number p ts n h in
    none_where_zero (list_any p ts) n (λ e. k.1 (none_any p ts e)) (λ e. any_none p ts (k.0 e))

-- no term of the school shares a day, and no term passes
pub no_overlap : (past : List Filing) (school : ℕ) (this : Term) →
    not (list_any (λ t. t.school == school && shares_day this t.term) (terms_on_file past)) ≡ not (nat_lt 0 (overlap_at past school this))
no_overlap past school this =
    none_tells (λ t. t.position) (λ t. t.school == school && shares_day this t.term) (terms_on_file past) (overlap_at past school this)
    (position_tells (λ t. t.school == school && shares_day this t.term) (terms_on_file past) (positions_fall past))

pub no_code : (p : FiledTerm → Bool) (ts : List FiledTerm) → All (λ t. 0 < t.school) ts → not (list_any p ts) ≡ not (nat_lt 0 (least_code p ts))
no_code p ts coded = none_tells (λ t. t.school) p ts (least_code p ts) (code_tells p ts coded)

-- no term is over an award exactly where the least of those that are is none
pub none_over : (past : List Filing) (award student year : ℕ) →
    not (list_any (is_over past award student year) (terms_on_file past)) ≡ is_none (term_over past award student year)
none_over past award student year = least (least_term (filter (is_over past award student year) (terms_on_file past))) refl
  where
    least : (o : Option FiledTerm) → least_term (filter (is_over past award student year) (terms_on_file past)) ≡ o →
        not (list_any (is_over past award student year) (terms_on_file past)) ≡ is_none (told_over past award student year o)
    least None e = ap (λ (b : Bool). not b) (any_none (is_over past award student year) (terms_on_file past) (none_found (is_over past award student year) (terms_on_file past) e))
    least (Some t) e = go (list_any (is_over past award student year) (terms_on_file past)) refl
      where
        go : (b : Bool) → list_any (is_over past award student year) (terms_on_file past) ≡ b → not b ≡ false
        go true d = refl
        go false d =
            let none = nothing_found (is_over past award student year) (terms_on_file past) (none_any (is_over past award student year) (terms_on_file past) d) in
            absurd (let bad : ⊥ = cc in bad)

-- an application's transaction is above 0
pub applied : (o : Option Application) → is_some o ≡ not (transaction_of o == 0)
applied None = refl
applied (Some a) = let above : 0 < a.transaction = omega (arith, a.in_range.0.0) in grind (arith, nat_tests)

pub above : (a : Application) (o : Option Application) → is_higher (Some a) o ≡ not (nat_le a.transaction (transaction_of o))
above a None = let above : 0 < a.transaction = omega (arith, a.in_range.0.0) in grind (arith, nat_tests)
above a (Some b) = grind (arith, nat_tests)

-- there is a book that the application is fit for
pub fits : (o : Option Book) (a : Application) → fits_book o a ≡ (is_some o && is_none (unfit_under o a))
fits None a = refl
fits (Some b) a =
    and_both (within a.birth_year b.year) refl
    ∙ go (nat_lt b.year a.birth_year) (is_size (formula b a) (size_for (formula b a) a.married) a.family)
    (record { rule = 92; kept = a.birth_year; bound = b.year })
    (record { rule = 92; kept = a.family; bound = size_for (formula b a) a.married })
  where
    go : (x y : Bool) (r s : Refusal) → (not x && y) ≡ is_none (cond x (Some r) (cond y None (Some s)))
    go true y r s = refl
    go false true r s = refl
    go false false r s = refl

-- a day lies in a term that is on file
pub in_days : (day : ℕ) (o : Option Term) → is_some o ≡ true → is_in_days day o ≡ all_keep (rule_62 day o)
in_days day None h = absurd (let bad : ⊥ = cc in bad)
in_days day (Some t) h = and_both (within t.first day) (and_last (within day t.last))

-- a test after which one fails
never : (b : Bool) → (b && false) ≡ false
never true = refl
never false = refl

-- the breaks of a term after a day that isn't before its first
breaks_kept : (t : Term) (before n : ℕ) (bs : List (ℕ × ℕ)) → nat_le t.first before ≡ true →
    (in_order before bs && list_all (λ b. nat_lt b.1 t.last) bs) ≡ (all_keep (breaks_in_order before bs) && all_keep (breaks_inside t n bs))
breaks_kept t before n [] h = refl
breaks_kept t before n (b ∷ bs) h =
    rw (below before b.0, within b.0 b.1, below b.1 t.last)
    (go (not (nat_le b.0 before)) (not (nat_lt b.1 b.0)) (nat_le b.0 t.first) (nat_le t.last b.1) (in_order b.1 bs)
    (list_all (λ b. nat_lt b.1 t.last) bs) (all_keep (breaks_in_order b.1 bs)) (all_keep (breaks_inside t (n + 1) bs))
    (λ e. grind (arith, nat_tests)) (λ e d. breaks_kept t b.1 (n + 1) bs (grind (arith, nat_tests))))
  where
    go : (x y v u i l o k : Bool) → (x ≡ true → v ≡ false) → (x ≡ true → y ≡ true → (i && l) ≡ (o && k)) →
        (x && y && i && (not u && l)) ≡ (x && (y && o) && (not (v || u) && k))
    go false y v u i l o k p q = refl
    go true false v u i l o k p q = refl
    go true true true u i l o k p q = let bad : true ≡ false = p refl in absurd (let worse : ⊥ = cc in worse)
    go true true false false i l o k p q = q refl refl
    go true true false true i l o k p q = never i ∙ sym (never o)

-- the days of a term and of its breaks
pub days_in_order : (t : Term) → has_order t ≡ (all_keep (rule_21 t) && all_keep (rule_23 t))
days_in_order t = first t.breaks
  where
    first : (bs : List (ℕ × ℕ)) →
        (nat_le t.first t.last && in_order t.first bs && list_all (λ b. nat_lt b.1 t.last) bs)
        ≡ (not (nat_lt t.last t.first) && all_keep (first_break_in_order bs) && all_keep (breaks_inside t 1 bs))
    first [] = and_both (and_both (within t.first t.last) refl) refl
    first (b ∷ bs) =
        rw (within t.first t.last, below t.first b.0, within b.0 b.1, below b.1 t.last)
        (go (not (nat_lt t.last t.first)) (not (nat_lt b.1 b.0)) (nat_le b.0 t.first) (nat_le t.last b.1) (in_order b.1 bs)
        (list_all (λ b. nat_lt b.1 t.last) bs) (all_keep (breaks_in_order b.1 bs)) (all_keep (breaks_inside t 2 bs))
        (λ e d. breaks_kept t b.1 2 bs (grind (arith, nat_tests))))
      where
        go : (a y v u i l o k : Bool) → (v ≡ false → y ≡ true → (i && l) ≡ (o && k)) →
            (a && (not v && y && i) && (not u && l)) ≡ (a && (y && o) && (not (v || u) && k))
        go false y v u i l o k q = refl
        go true y true u i l o k q = sym (never (y && o))
        go true false false u i l o k q = refl
        go true true false false i l o k q = q refl refl
        go true true false true i l o k q = never i ∙ sym (never o)
