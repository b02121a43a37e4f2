-- A cell that holds money is one of a term on file.
use Rattle.std.proofs.Common.{◌≡◌, ℕ, ◌+◌, ◌<◌, refl, arith, subst, cond, Bool, true, false, ◌&&◌, ◌||◌, List, [], ◌∷◌, length, None}
use Rattle.std.specs.Prelude.{◌==◌, is_some}
use Rattle.std.specs.List.{list_any}
use Rattle.aid_filings.specs.Calendars.{term_of}
use Rattle.aid_types.specs.declared.number.Key.{Key}
use Rattle.aid_filings.specs.declared.filing.Amount.{Amount}
use Rattle.aid_filings.specs.declared.filing.CalendarFacts.{CalendarFacts}
use Rattle.aid_filings.specs.declared.filing.Filing.{Filing}
use Rattle.aid_filings.specs.declared.filing.What.{What}
use Rattle.aid_filings.specs.declared.filing.What.TheVariants.{Book as BookFiled, School, Calendar, Prior, Apply, Enroll, Originate, Pay, Withdraw, Repay, Adjust, Cost, Sent, Amend}
use Rattle.office_history.specs.Past.{first_of_two, at_school, if_here, given, term_in, FiledTerm, terms_on_file}
use Rattle.office_history.specs.Net.{Cell, is_cell, cell_of, paid}
use Rattle.office_history.specs.FactsOf.{facts_of}
use Rattle.office_history.specs.Positions.{term_at}
use Rattle.office_history.specs.Answer.{breaks, IsLegal}
use Rattle.office_history.proofs.Cells.{same_cell}
use Rattle.office_history.proofs.PayRules.{term_filed}

-- the term on file is this one
abbrev pub is_term : ℕ → ℕ → ℕ → FiledTerm → Bool
is_term school year number o = o.school == school && (o.year == year && o.term.number == number)

abbrev pub is_filed : List Filing → ℕ → ℕ → ℕ → Bool
is_filed past school year number = list_any (is_term school year number) (terms_on_file past)

-- a term that has a position is on file
asked_is_term : (school year number here : ℕ) (key : Key) (c : CalendarFacts) →
    is_some (at_school school (term_in year number) (record { key = key; what = Calendar c })) ≡
    is_term school year number (record { school = key.school; year = c.year; position = here; term = term_of c })
asked_is_term school year number here key c = go (key.school == school) (c.year == year) (c.term == number)
  where
    go : (a b d : Bool) → is_some (if_here a (given (b && d) (term_of c))) ≡ (a && (b && d))
    go true true true = refl
    go true true false = refl
    go true false d = refl
    go false true true = refl
    go false true false = refl
    go false false d = refl

pub at_filed : (past : List Filing) (school year number : ℕ) → 0 < term_at past school year number → is_filed past school year number ≡ true
at_filed [] school year number h = absurd (omega arith)
at_filed (f ∷ past) school year number h = go f.key f.what h (at_filed past school year number)
  where
    or_true : (a b : Bool) (k n : ℕ) → 0 < first_of_two a k (n + 1) → (0 < k → b ≡ true) → (a || b) ≡ true
    or_true true b k n h ih = refl
    or_true false b k n h ih = ih h

    go : (key : Key) (what : What) → 0 < term_at (record { key = key; what = what } ∷ past) school year number →
        (0 < term_at past school year number → is_filed past school year number ≡ true) →
        is_filed (record { key = key; what = what } ∷ past) school year number ≡ true
    go key (Calendar c) h ih =
        or_true (is_term school year number (record { school = key.school; year = c.year; position = length past + 1; term = term_of c }))
        (is_filed past school year number) (term_at past school year number) (length past)
        (subst (λ (b : Bool). 0 < first_of_two b (term_at past school year number) (length past + 1)) (asked_is_term school year number (length past + 1) key c) h) ih
    go key (BookFiled b) h ih = ih h
    go key (School b) h ih = ih h
    go key (Prior b) h ih = ih h
    go key (Apply b) h ih = ih h
    go key (Enroll b) h ih = ih h
    go key (Originate b) h ih = ih h
    go key (Pay b) h ih = ih h
    go key (Withdraw b) h ih = ih h
    go key (Repay b) h ih = ih h
    go key (Adjust b) h ih = ih h
    go key (Cost b) h ih = ih h
    go key (Sent b) h ih = ih h
    go key (Amend b) h ih = ih h

-- a filing leaves the terms on file
abbrev pub FiledHolds : List Filing → Type 0
FiledHolds past = (c : Cell) → 0 < paid past (is_cell c) → is_filed past c.school c.year c.term ≡ true

pub still : (past : List Filing) (f : Filing) (school year number : ℕ) → is_filed past school year number ≡ true → is_filed (f ∷ past) school year number ≡ true
still past f school year number h = go f.key f.what
  where
    or_right : (a b : Bool) → b ≡ true → (a || b) ≡ true
    or_right true b h = refl
    or_right false b h = h

    go : (key : Key) (what : What) → is_filed (record { key = key; what = what } ∷ past) school year number ≡ true
    go key (Calendar c) = or_right _ (is_filed past school year number) h
    go key (BookFiled b) = h
    go key (School b) = h
    go key (Prior b) = h
    go key (Apply b) = h
    go key (Enroll b) = h
    go key (Originate b) = h
    go key (Pay b) = h
    go key (Withdraw b) = h
    go key (Repay b) = h
    go key (Adjust b) = h
    go key (Cost b) = h
    go key (Sent b) = h
    go key (Amend b) = h

filed_paid : (past : List Filing) (key : Key) (a : Amount) → FiledHolds past → breaks past (record { key = key; what = Pay a }) ≡ None →
    FiledHolds (record { key = key; what = Pay a } ∷ past)
filed_paid past key a ih h c pos = go (is_cell c (cell_of key a)) refl
  where
    go : (b : Bool) → is_cell c (cell_of key a) ≡ b → is_filed past c.school c.year c.term ≡ true
    go false e =
        let old : 0 < cond false a.cents 0 + paid past (is_cell c) =
        subst (λ (b : Bool). 0 < cond b a.cents 0 + paid past (is_cell c)) e pos in
        ih c (omega arith)
    go true e =
        subst (λ (d : Cell). is_filed past d.school d.year d.term ≡ true) (same_cell c (cell_of key a) e)
        (at_filed past key.school a.year a.term (term_filed (facts_of past key (Pay a)) key a h))

filed_step : (past : List Filing) (key : Key) (what : What) → FiledHolds past → breaks past (record { key = key; what = what }) ≡ None →
    FiledHolds (record { key = key; what = what } ∷ past)
filed_step past key (Pay a) ih h = filed_paid past key a ih h
filed_step past key (Calendar b) ih h = λ c pos. still past (record { key = key; what = Calendar b }) c.school c.year c.term (ih c pos)
filed_step past key (BookFiled b) ih h = ih
filed_step past key (School b) ih h = ih
filed_step past key (Prior b) ih h = ih
filed_step past key (Apply b) ih h = ih
filed_step past key (Enroll b) ih h = ih
filed_step past key (Originate b) ih h = ih
filed_step past key (Withdraw b) ih h = ih
filed_step past key (Repay b) ih h = ih
filed_step past key (Adjust b) ih h = ih
filed_step past key (Cost b) ih h = ih
filed_step past key (Sent b) ih h = ih
filed_step past key (Amend b) ih h = ih

pub filed_holds : (past : List Filing) → IsLegal past → FiledHolds past
filed_holds [] h = λ c pos. absurd (omega arith)
filed_holds (f ∷ past) h = filed_step past f.key f.what (filed_holds past h.0) h.2
