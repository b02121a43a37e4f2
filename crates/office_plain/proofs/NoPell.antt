-- Where a student has no Pell payment.
use Rattle.std.proofs.Common.{◌≡◌, ◌≢◌, ℕ, zero, suc, ◌+◌, ◌-◌, ◌*◌, ◌%◌, refl, sym, ap, ◌∙◌, arith, Bool, true, false, List, [], ◌∷◌, get_or, set, eq-eqb, eqb-true}
use Rattle.std.specs.Prelude.{◌==◌}
use Rattle.std.proofs.lemmas.Bool.{and_parts}
use Rattle.std.proofs.lemmas.List.{get_or-set_other}
use Rattle.aid_types.specs.Programs.{rank}
use Rattle.aid_filings.specs.declared.filing.Amount.{Amount}
use Rattle.aid_filings.specs.declared.filing.Filing.{Filing}
use Rattle.aid_filings.specs.declared.filing.What.{What}
use Rattle.aid_filings.specs.declared.filing.What.TheVariants.{Pay}
use Rattle.law_terms.specs.Used.{use_of}
use Rattle.office_history.specs.Award.{scheduled}
use Rattle.office_history.specs.Net.{Cell, cell_at, cell_of, in_year, is_cell, onto, paid, payments_in, pell_year, use_in}
use Rattle.office_history.specs.Past.{pell_payment_in}
use Rattle.office_history.proofs.Cells.{same_cell}
use Rattle.office_history.proofs.Numbers.{use_none}
use Rattle.office_history.proofs.Steps.{by_payment}

-- each year and each term whose mark isn't set has no Pell payment of the student
abbrev pub MarksYears : List Filing → ℕ → List Bool → Type 0
MarksYears past student years = (year : ℕ) → get_or years (year - 2000) true ≡ false → paid past (in_year student year 3) ≡ 0

abbrev pub MarksTerms : List Filing → ℕ → List Bool → Type 0
MarksTerms past student terms = (school year term : ℕ) → get_or terms ((9 * school + term) % 1024) true ≡ false → paid past (is_cell (cell_at school student year term 3)) ≡ 0

-- a mark that is set is found
marked : (marks : List Bool) (i : ℕ) → get_or (set marks i true) i true ≡ true
marked [] i = refl
marked (m ∷ marks) zero = refl
marked (m ∷ marks) (suc i) = marked marks i

-- cells of the student's Pell
abbrev ArePell : (Cell → Bool) → ℕ → Type 0
ArePell sel student = (c : Cell) → sel c ≡ true → (c.student ≡ student) × (c.program ≡ 3)

-- a filing that pays the student no Pell pays nothing there
unpaid : (sel : Cell → Bool) (student : ℕ) → ArePell sel student → (past : List Filing) (f : Filing) → pell_payment_in student f.what ≡ false → paid past sel ≡ 0 → paid (f ∷ past) sel ≡ 0
unpaid sel student pell past f off none = by_payment (λ w. pell_payment_in student w ≡ false → onto sel (payments_in f.key w) (paid past sel) ≡ 0) f.key pays not f.what off
  where
    pays : (a : Amount) → pell_payment_in student (Pay a) ≡ false → onto sel (payments_in f.key (Pay a)) (paid past sel) ≡ 0
    pays a e = go (sel (cell_of f.key a)) refl
      where
        go : (b : Bool) → sel (cell_of f.key a) ≡ b → onto sel (payments_in f.key (Pay a)) (paid past sel) ≡ 0
        go false k = rw k (omega (arith, none))
        go true k =
            let here = pell (cell_of f.key a) k in
            let yes : pell_payment_in student (Pay a) ≡ true = rw (eq-eqb a.student student here.0, eq-eqb (rank a.program) 3 here.1) refl in
            absurd (cc (yes, e))

    not : (w : What) → payments_in f.key w ≡ [] → pell_payment_in student w ≡ false → onto sel (payments_in f.key w) (paid past sel) ≡ 0
    not w empty e = ap (λ ms. onto sel ms (paid past sel)) empty ∙ none

-- nor does a payment with another mark
other_mark : (sel : Cell → Bool) (mark_of : Cell → ℕ) (here : ℕ) → ((c : Cell) → sel c ≡ true → mark_of c ≡ here) → (past : List Filing) (f : Filing) (a : Amount) (mark : ℕ) (marks : List Bool) →
    f.what ≡ Pay a → mark ≡ mark_of (cell_of f.key a) → (get_or marks here true ≡ false → paid past sel ≡ 0) → get_or (set marks mark true) here true ≡ false → paid (f ∷ past) sel ≡ 0
other_mark sel mark_of here same past f a mark marks is at before e =
    ap (λ (what : What). onto sel (payments_in f.key what) (paid past sel)) is ∙ go (sel (cell_of f.key a)) refl
  where
    apart : here ≢ mark
    apart k = absurd (cc (e, ap (λ n. get_or (set marks mark true) n true) k, marked marks mark))

    none : paid past sel ≡ 0
    none = before (sym (get_or-set_other marks mark here true true apart) ∙ e)

    go : (b : Bool) → sel (cell_of f.key a) ≡ b → onto sel (payments_in f.key (Pay a)) (paid past sel) ≡ 0
    go false k = rw k (omega (arith, none))
    go true k = absurd (apart (sym (same (cell_of f.key a) k) ∙ sym at))

-- the cells of a year
pell_of_year : (student year : ℕ) (c : Cell) → in_year student year 3 c ≡ true → (c.student ≡ student) × (c.year ≡ year) × (c.program ≡ 3)
pell_of_year student year c h =
    let a = and_parts (c.student == student) _ h in
    let b = and_parts (c.year == year) (c.program == 3) a.1 in
    (eqb-true c.student student a.0, eqb-true c.year year b.0, eqb-true c.program 3 b.1)

pub years_stay : (past : List Filing) (f : Filing) (student : ℕ) (years : List Bool) → MarksYears past student years → pell_payment_in student f.what ≡ false → MarksYears (f ∷ past) student years
years_stay past f student years marks off year e =
    unpaid (in_year student year 3) student (λ c h. let k = pell_of_year student year c h in (k.0, k.2)) past f off (marks year e)

pub years_more : (past : List Filing) (f : Filing) (a : Amount) (student mark : ℕ) (years : List Bool) → MarksYears past student years → f.what ≡ Pay a →
    mark ≡ a.year - 2000 → MarksYears (f ∷ past) student (set years mark true)
years_more past f a student mark years marks is at year e =
    other_mark (in_year student year 3) (λ c. c.year - 2000) (year - 2000) (λ c h. ap (λ n. n - 2000) (pell_of_year student year c h).1) past f a mark years is at (marks year) e

-- the cell of a term
pub terms_stay : (past : List Filing) (f : Filing) (student : ℕ) (terms : List Bool) → MarksTerms past student terms → pell_payment_in student f.what ≡ false → MarksTerms (f ∷ past) student terms
terms_stay past f student terms marks off school year term e =
    let c = cell_at school student year term 3 in
    unpaid (is_cell c) student (λ d h. let k = same_cell c d h in (ap (λ (x : Cell). x.student) k, ap (λ (x : Cell). x.program) k)) past f off (marks school year term e)

pub terms_more : (past : List Filing) (f : Filing) (a : Amount) (student mark : ℕ) (terms : List Bool) → MarksTerms past student terms → f.what ≡ Pay a →
    mark ≡ (9 * f.key.school + a.term) % 1024 → MarksTerms (f ∷ past) student (set terms mark true)
terms_more past f a student mark terms marks is at school year term e =
    let c = cell_at school student year term 3 in
    other_mark (is_cell c) (λ d. (9 * d.school + d.term) % 1024) ((9 * school + term) % 1024)
    (λ d h. ap (λ (x : Cell). (9 * x.school + x.term) % 1024) (same_cell c d h)) past f a mark terms is at (marks school year term) e

-- a year in which none was paid uses nothing
pub nothing_used : (past : List Filing) (student year : ℕ) → paid past (in_year student year 3) ≡ 0 → use_in past student year ≡ 0
nothing_used past student year none =
    let net : pell_year past student year ≡ 0 = omega arith in
    ap (λ (n : ℕ). use_of n (scheduled past student year)) net ∙ use_none (scheduled past student year)
