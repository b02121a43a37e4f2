-- In a list that breaks no rule, no more was cancelled than lent, at any students, years and programs.
use Rattle.std.proofs.Common.{◌≡◌, ℕ, ◌+◌, ◌-◌, ◌≤◌, refl, sym, arith, subst, Bool, true, false, not, ◌&&◌, List, [], ◌∷◌, None, eqb-true, zero-le, IsTrue}
use Rattle.std.specs.Prelude.{◌==◌}
use Rattle.std.proofs.lemmas.Bool.{and_parts}
use Rattle.aid_types.specs.declared.number.Key.{Key}
use Rattle.aid_types.specs.declared.number.Program.{Program}
use Rattle.aid_types.specs.declared.number.Program.TheVariants.{Unsub, Sub, Plus, Pell, Fseog, Teach}
use Rattle.law_loans.specs.Ranges.{is_loan}
use Rattle.law_loans.specs.declared.filing.LoanAmount.{LoanAmount}
use Rattle.law_loans.specs.declared.filing.LoanFiling.{LoanFiling}
use Rattle.law_loans.specs.declared.filing.LoanWhat.{LoanWhat}
use Rattle.law_loans.specs.declared.filing.LoanWhat.TheVariants.{Limits, Borrower, Before, Lend, Cancel}
use Rattle.law_loans.specs.Loans.{cancelled, cancelled_in, if_passes, is_sub, lent, lent_in, net, of_cells, same_program}
use Rattle.law_loans.specs.Rules.{AreAllowed, breaks}
use Rattle.law_loans.proofs.Holding.{cancel_holds}
use Rattle.law_loans.proofs.NetSteps.{after}

-- the amounts that pass but for some of them
abbrev but : (LoanAmount → Bool) → (LoanAmount → Bool) → LoanAmount → Bool
but test own a = test a && not (own a)

-- a sum of what passes is that of a part and that of the rest
abbrev IsPart : (LoanAmount → Bool) → (LoanAmount → Bool) → Type 0
IsPart own test = (a : LoanAmount) → own a ≡ true → test a ≡ true

passes_split : (t o : Bool) (n : ℕ) → (o ≡ true → t ≡ true) → if_passes t n ≡ if_passes (t && not o) n + if_passes o n
passes_split true true n h = omega arith
passes_split true false n h = omega arith
passes_split false true n h = let e : false ≡ true = h refl in cc
passes_split false false n h = refl

lent_in_split : (what : LoanWhat) (test own : LoanAmount → Bool) → IsPart own test → lent_in test what ≡ lent_in (but test own) what + lent_in own what
lent_in_split (Lend a) test own h = passes_split (test a) (own a) a.cents (h a)
lent_in_split (Limits l) test own h = refl
lent_in_split (Borrower r) test own h = refl
lent_in_split (Before b) test own h = refl
lent_in_split (Cancel a) test own h = refl

cancelled_in_split : (what : LoanWhat) (test own : LoanAmount → Bool) → IsPart own test →
    cancelled_in test what ≡ cancelled_in (but test own) what + cancelled_in own what
cancelled_in_split (Cancel a) test own h = passes_split (test a) (own a) a.cents (h a)
cancelled_in_split (Limits l) test own h = refl
cancelled_in_split (Borrower r) test own h = refl
cancelled_in_split (Before b) test own h = refl
cancelled_in_split (Lend a) test own h = refl

added : (a a1 a2 b b1 b2 : ℕ) → a ≡ a1 + a2 → b ≡ b1 + b2 → a + b ≡ (a1 + b1) + (a2 + b2)
added a a1 a2 b b1 b2 d e = omega arith

lent_split : (past : List LoanFiling) (test own : LoanAmount → Bool) → IsPart own test → lent past test ≡ lent past (but test own) + lent past own
lent_split [] test own h = refl
lent_split (f ∷ past) test own h =
    added (lent_in test f.what) (lent_in (but test own) f.what) (lent_in own f.what) (lent past test) (lent past (but test own)) (lent past own)
    (lent_in_split f.what test own h) (lent_split past test own h)

cancelled_split : (past : List LoanFiling) (test own : LoanAmount → Bool) → IsPart own test → cancelled past test ≡ cancelled past (but test own) + cancelled past own
cancelled_split [] test own h = refl
cancelled_split (f ∷ past) test own h =
    added (cancelled_in test f.what) (cancelled_in (but test own) f.what) (cancelled_in own f.what) (cancelled past test) (cancelled past (but test own)) (cancelled past own)
    (cancelled_in_split f.what test own h) (cancelled_split past test own h)

-- amounts of loans that agree in whether they are subsidized are of one program
one_program : (p q : Program) → IsTrue (is_loan p) → IsTrue (is_loan q) → same_program (is_sub p) q ≡ true → q ≡ p
one_program Unsub Unsub hp hq e = refl
one_program Unsub Sub hp hq e = cc
one_program Sub Unsub hp hq e = cc
one_program Sub Sub hp hq e = refl
one_program Unsub Plus hp hq e = cc
one_program Unsub Pell hp hq e = cc
one_program Unsub Fseog hp hq e = cc
one_program Unsub Teach hp hq e = cc
one_program Sub Plus hp hq e = cc
one_program Sub Pell hp hq e = cc
one_program Sub Fseog hp hq e = cc
one_program Sub Teach hp hq e = cc
one_program Plus q hp hq e = cc
one_program Pell q hp hq e = cc
one_program Fseog q hp hq e = cc
one_program Teach q hp hq e = cc

-- the cell of an amount
abbrev own_cell : LoanAmount → ℕ → ℕ → Program → Bool
own_cell a student year program = (student == a.student) && ((year == a.year) && same_program (is_sub a.program) program)

-- what passes at an amount's cell passes at each amount of that cell
own_is_part : (cells : ℕ → ℕ → Program → Bool) (a : LoanAmount) → of_cells cells a ≡ true → IsPart (of_cells (own_cell a)) (of_cells cells)
own_is_part cells a pass b own =
    let p = and_parts (b.student == a.student) ((b.year == a.year) && same_program (is_sub a.program) b.program) own in
    let q = and_parts (b.year == a.year) (same_program (is_sub a.program) b.program) p.1 in
    let program : b.program ≡ a.program = one_program a.program b.program a.in_range.0 b.in_range.0 q.1 in
    let year : b.year ≡ a.year = eqb-true b.year a.year q.0 in
    let student : b.student ≡ a.student = eqb-true b.student a.student p.0 in
    subst (λ s. cells s b.year b.program ≡ true) (sym student)
    (subst (λ y. cells a.student y b.program ≡ true) (sym year) (subst (λ m. cells a.student a.year m ≡ true) (sym program) pass))

abbrev pub Covered : List LoanFiling → Type 0
Covered past = (cells : ℕ → ℕ → Program → Bool) → cancelled past (of_cells cells) ≤ lent past (of_cells cells)

still : (c l : ℕ) → c ≤ l → 0 + c ≤ 0 + l
still c l h = omega arith

more : (c l x : ℕ) → c ≤ l → 0 + c ≤ x + l
more c l x h = omega arith

-- with a cancellation within its cell
cut : (n c c1 c2 l l1 l2 : ℕ) → c ≡ c1 + c2 → l ≡ l1 + l2 → c1 ≤ l1 → c2 ≤ l2 → n ≤ l2 - c2 → n + c ≤ 0 + l
cut n c c1 c2 l l1 l2 d e h k m = omega arith

cancels : (past : List LoanFiling) (key : Key) (a : LoanAmount) → Covered past → breaks past (record { key = key; what = Cancel a }) ≡ None →
    Covered (after past key (Cancel a))
cancels past key a ih h cells = go (of_cells cells a) refl
  where
    go : (b : Bool) → of_cells cells a ≡ b → cancelled (after past key (Cancel a)) (of_cells cells) ≤ lent (after past key (Cancel a)) (of_cells cells)
    go false e =
        let k : 0 + cancelled past (of_cells cells) ≤ 0 + lent past (of_cells cells) = still (cancelled past (of_cells cells)) (lent past (of_cells cells)) (ih cells) in
        subst (λ b. if_passes b a.cents + cancelled past (of_cells cells) ≤ 0 + lent past (of_cells cells)) (sym e) k
    go true e =
        let part = own_is_part cells a e in
        let rule : a.cents ≤ net past (of_cells (own_cell a)) = cancel_holds past key a h in
        let c : cancelled past (of_cells cells) ≡ cancelled past (but (of_cells cells) (of_cells (own_cell a))) + cancelled past (of_cells (own_cell a)) =
        cancelled_split past (of_cells cells) (of_cells (own_cell a)) part in
        let l : lent past (of_cells cells) ≡ lent past (but (of_cells cells) (of_cells (own_cell a))) + lent past (of_cells (own_cell a)) =
        lent_split past (of_cells cells) (of_cells (own_cell a)) part in
        let rest : cancelled past (but (of_cells cells) (of_cells (own_cell a))) ≤ lent past (but (of_cells cells) (of_cells (own_cell a))) =
        ih (λ s y p. cells s y p && not (own_cell a s y p)) in
        let k : a.cents + cancelled past (of_cells cells) ≤ 0 + lent past (of_cells cells) =
        cut a.cents (cancelled past (of_cells cells)) (cancelled past (but (of_cells cells) (of_cells (own_cell a)))) (cancelled past (of_cells (own_cell a)))
        (lent past (of_cells cells)) (lent past (but (of_cells cells) (of_cells (own_cell a)))) (lent past (of_cells (own_cell a)))
        c l rest (ih (own_cell a)) rule in
        subst (λ b. if_passes b a.cents + cancelled past (of_cells cells) ≤ 0 + lent past (of_cells cells)) (sym e) k

step : (past : List LoanFiling) (key : Key) (what : LoanWhat) → Covered past → breaks past (record { key = key; what = what }) ≡ None →
    Covered (after past key what)
step past key (Cancel a) ih h = cancels past key a ih h
step past key (Lend a) ih h = λ cells. more (cancelled past (of_cells cells)) (lent past (of_cells cells)) (if_passes (of_cells cells a) a.cents) (ih cells)
step past key (Limits l) ih h = λ cells. still (cancelled past (of_cells cells)) (lent past (of_cells cells)) (ih cells)
step past key (Borrower r) ih h = λ cells. still (cancelled past (of_cells cells)) (lent past (of_cells cells)) (ih cells)
step past key (Before b) ih h = λ cells. still (cancelled past (of_cells cells)) (lent past (of_cells cells)) (ih cells)

pub covered : (past : List LoanFiling) → AreAllowed past → Covered past
covered [] h = λ cells. zero-le
covered (f ∷ past) h = step past f.key f.what (covered past h.0) h.1
