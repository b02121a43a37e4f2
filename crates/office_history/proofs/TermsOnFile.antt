-- The terms on file: their positions, their codes, and that no two of a year are of one school and number.
use Rattle.std.proofs.Common.{◌≡◌, ℕ, ◌+◌, ◌<◌, refl, sym, ap, ◌∙◌, subst, arith, true, false, ◌||◌, ◌&&◌, ◌⊎◌, inl, inr, List, [], ◌∷◌, length, Option, Some, None, eqb-true, eq-eqb, ◌++◌, reverse, zero, suc}
use Rattle.std.specs.Prelude.{slice_get, ◌==◌, nat_lt}
use Rattle.std.specs.List.{All, Contains, filter}
use Rattle.std.proofs.lemmas.List.{reverse-append, length-reverse}
use Rattle.std.proofs.lemmas.Bool.Decides.{nat_tests}
use Rattle.std.proofs.lemmas.List.Elements.{All-nil, All-cons, All-weaker, All-contains}
use Rattle.aid_filings.specs.Calendars.{term_of}
use Rattle.aid_types.specs.declared.number.Key.{Key}
use Rattle.aid_filings.specs.declared.filing.CalendarFacts.{CalendarFacts}
use Rattle.aid_filings.specs.declared.filing.Filing.{Filing}
use Rattle.aid_filings.specs.declared.filing.What.{What}
use Rattle.aid_filings.specs.declared.filing.What.TheVariants.{Book as BookFiled, School, Calendar, Prior, Apply, Enroll, Originate, Pay, Withdraw, Repay, Adjust, Cost, Sent, Amend}
use Rattle.office_history.specs.Past.{FiledTerm, on_file, at_school, term_in, terms_on_file}
use Rattle.office_history.specs.Rules.{rules_of}
use Rattle.office_history.specs.Positions.{school_at, term_at, is_over, least_term}
use Rattle.office_history.specs.Answer.{breaks, IsLegal}
use Rattle.office_history.specs.Least.{NonePasses, IsFiledTerm, IsLeastBy, AreOrdered, is_before}
use Rattle.aid_types.proofs.Holds.{all_hold, lacks_holds, stands_holds}
use Rattle.office_history.proofs.Asked.{none_told}
use Rattle.office_history.proofs.Filed.{is_term}
use Rattle.office_history.proofs.Apart.{known_code, not_there}
use Rattle.office_history.proofs.Among.{among_cases, none_any}
use Rattle.std.proofs.lemmas.Bool.{and_parts}
use Rattle.office_history.proofs.LeastTerms.{least_found, none_found}
use Rattle.office_history.proofs.LeastNumbers.{Falls}

-- the term that a calendar puts on file after the filings past
abbrev pub put_on_file : List Filing → Key → CalendarFacts → FiledTerm
put_on_file past key c = record { school = key.school; year = c.year; position = length past + 1; term = term_of c }

-- a filing is a calendar, or leaves the terms on file as they are
by_calendar : (P : List FiledTerm → Type 0) (past : List Filing) (f : Filing) →
    ((c : CalendarFacts) → f.what ≡ Calendar c → P (put_on_file past f.key c ∷ terms_on_file past)) → P (terms_on_file past) → P (terms_on_file (f ∷ past))
by_calendar P past f new same = go f.what refl
  where
    go : (what : What) → f.what ≡ what → P (terms_on_file (record { key = f.key; what = what } ∷ past))
    go (Calendar c) e = new c e
    go (BookFiled b) e = same
    go (School b) e = same
    go (Prior b) e = same
    go (Apply b) e = same
    go (Enroll b) e = same
    go (Originate b) e = same
    go (Pay b) e = same
    go (Withdraw b) e = same
    go (Repay b) e = same
    go (Adjust b) e = same
    go (Cost b) e = same
    go (Sent b) e = same
    go (Amend b) e = same

-- positions are at most the length of the history
within : (past : List Filing) → All (λ t. t.position < length past + 1) (terms_on_file past)
within [] = All-nil (λ t. t.position < 0 + 1)
within (f ∷ past) =
    let rest : All (λ t. t.position < length (f ∷ past) + 1) (terms_on_file past) =
    All-weaker (λ t. t.position < length past + 1) (λ t. t.position < length (f ∷ past) + 1) (λ t h. omega arith) (terms_on_file past) (within past) in
    by_calendar (λ ts. All (λ t. t.position < length (f ∷ past) + 1) ts) past f
    (λ c e. All-cons (λ t. t.position < length (f ∷ past) + 1) (put_on_file past f.key c) (terms_on_file past) (omega arith) rest) rest

pub positions_fall : (past : List Filing) → Falls (terms_on_file past)
positions_fall [] = tt
positions_fall (f ∷ past) = by_calendar Falls past f (λ c e. (omega arith, within past, positions_fall past)) (positions_fall past)

-- what a list has at an index it has there with more behind it
behind : (xs ys : List Filing) (i : ℕ) (g : Filing) → slice_get xs i ≡ Some g → slice_get (xs ++ ys) i ≡ Some g
behind [] ys i g h = absurd (cc)
behind (x ∷ xs) ys zero g h = h
behind (x ∷ xs) ys (suc i) g h = behind xs ys i g h

at_end : (xs : List Filing) (f : Filing) (i : ℕ) → i ≡ length xs → slice_get (xs ++ f ∷ []) i ≡ Some f
at_end [] f zero e = refl
at_end [] f (suc i) e = absurd (omega arith)
at_end (x ∷ xs) f zero e = absurd (omega arith)
at_end (x ∷ xs) f (suc i) e = at_end xs f i (omega arith)

-- the filing at a term's position is its calendar
still_filed : (past : List Filing) (f : Filing) (t : FiledTerm) → IsFiledTerm (reverse past) t → IsFiledTerm (reverse (f ∷ past)) t
still_filed past f t k = record {
  index = k.index;
  filing = k.filing;
  place = k.place;
  here = ap (λ (l : List Filing). slice_get l k.index) (reverse-append (f ∷ []) past) ∙ behind (reverse past) (f ∷ []) k.index k.filing k.here;
  calendar = k.calendar;
}

newly_filed : (past : List Filing) (f : Filing) (c : CalendarFacts) → f.what ≡ Calendar c → IsFiledTerm (reverse (f ∷ past)) (put_on_file past f.key c)
newly_filed past f c e = record {
  index = length past;
  filing = f;
  place = refl;
  here = ap (λ (l : List Filing). slice_get l (length past)) (reverse-append (f ∷ []) past)
      ∙ at_end (reverse past) f (length past) (omega (arith, length-reverse past));
  calendar = ap (on_file f.key.school (length past + 1)) e;
}

pub terms_filed : (past : List Filing) → All (IsFiledTerm (reverse past)) (terms_on_file past)
terms_filed [] = All-nil (IsFiledTerm (reverse []))
terms_filed (f ∷ past) =
    let rest : All (IsFiledTerm (reverse (f ∷ past))) (terms_on_file past) =
    All-weaker (IsFiledTerm (reverse past)) (IsFiledTerm (reverse (f ∷ past))) (still_filed past f) (terms_on_file past) (terms_filed past) in
    by_calendar (λ ts. All (IsFiledTerm (reverse (f ∷ past))) ts) past f
    (λ c e. All-cons (IsFiledTerm (reverse (f ∷ past))) (put_on_file past f.key c) (terms_on_file past) (newly_filed past f c e) rest) rest

-- a legal history's terms are of schools with a code above 0
calendar_rules : (past : List Filing) (key : Key) (c : CalendarFacts) → breaks past (record { key = key; what = Calendar c }) ≡ None →
    (0 < key.school) × (term_at past key.school c.year c.term ≡ 0)
calendar_rules past key c h =
    let k = all_hold (rules_of past key (Calendar c)) h in (
      known_code past key.school (lacks_holds 12 (school_at past key.school) key.school 0 k.1.0),
      stands_holds 20 (term_at past key.school c.year c.term) c.term k.1.1.0,
    )

term_rules : (past : List Filing) (f : Filing) (c : CalendarFacts) → breaks past f ≡ None → f.what ≡ Calendar c →
    (0 < f.key.school) × (term_at past f.key.school c.year c.term ≡ 0)
term_rules past f c h e = calendar_rules past f.key c (subst (λ (what : What). breaks past (record { key = f.key; what = what }) ≡ None) e h)

pub coded_terms : (past : List Filing) → IsLegal past → All (λ t. 0 < t.school) (terms_on_file past)
coded_terms [] h = All-nil (λ t. 0 < t.school)
coded_terms (f ∷ past) h =
    by_calendar (λ ts. All (λ t. 0 < t.school) ts) past f
    (λ c e. All-cons (λ t. 0 < t.school) (put_on_file past f.key c) (terms_on_file past) (term_rules past f c h.2 e).0 (coded_terms past h.0))
    (coded_terms past h.0)

-- a term that isn't there is none of those on file
none_there : (past : List Filing) (school year number : ℕ) → term_at past school year number ≡ 0 →
    NonePasses (is_term school year number) (terms_on_file past)
none_there past school year number h =
    none_any (is_term school year number) (terms_on_file past)
    (not_there past school year number (none_told (at_school school (term_in year number)) past h))

-- two terms neither of which comes before the other are of one school and number
same_place : (t u : FiledTerm) → is_before t u ≡ false → is_before u t ≡ false → (u.school ≡ t.school) × (u.term.number ≡ t.term.number)
same_place t u h k = go t.school t.term.number u.school u.term.number h k
  where
    go : (s m r n : ℕ) → (nat_lt s r || (s == r && nat_lt m n)) ≡ false → (nat_lt r s || (r == s && nat_lt n m)) ≡ false → (r ≡ s) × (n ≡ m)
    go s m r n h k = (grind (arith, nat_tests), grind (arith, nat_tests))

-- a new term is none of those on file, so it comes before each of its year, or after it
new_term : (past : List Filing) (key : Key) (c : CalendarFacts) (year : ℕ) (u : FiledTerm) → term_at past key.school c.year c.term ≡ 0 →
    Contains (terms_on_file past) u → (c.year == year) ≡ true → (u.year == year) ≡ true →
    is_before (put_on_file past key c) u ≡ false → is_before u (put_on_file past key c) ≡ false → ⊥
new_term past key c year u none there e d h k =
    let same = same_place (put_on_file past key c) u h k in
    let y : u.year ≡ c.year = eqb-true u.year year d ∙ sym (eqb-true c.year year e) in
    let found : is_term key.school c.year c.term u ≡ true =
    rw (eq-eqb u.school key.school same.0, eq-eqb u.year c.year y, eq-eqb u.term.number c.term same.1) refl in
    let not_found : is_term key.school c.year c.term u ≡ false =
    All-contains (λ t. is_term key.school c.year c.term t ≡ false) (terms_on_file past) u (none_there past key.school c.year c.term none) there in
    cc

-- of two terms on file of one year, in a legal history, one comes before the other
pub year_ordered : (past : List Filing) → IsLegal past → (year : ℕ) → AreOrdered is_before (λ t. t.year == year) (terms_on_file past)
year_ordered [] h year = λ x y hx hy px py a b. absurd (omega (arith, hx.1))
year_ordered (f ∷ past) h year =
    by_calendar (λ ts. AreOrdered is_before (λ t. t.year == year) ts) past f
    (λ c e x y hx hy px py a b. go c (term_rules past f c h.2 e).1 (year_ordered past h.0 year) x y
    (among_cases (put_on_file past f.key c) (terms_on_file past) x hx) (among_cases (put_on_file past f.key c) (terms_on_file past) y hy) px py a b)
    (year_ordered past h.0 year)
  where
    go : (c : CalendarFacts) → term_at past f.key.school c.year c.term ≡ 0 → AreOrdered is_before (λ t. t.year == year) (terms_on_file past) → (x y : FiledTerm) →
        (put_on_file past f.key c ≡ x) ⊎ Contains (terms_on_file past) x → (put_on_file past f.key c ≡ y) ⊎ Contains (terms_on_file past) y →
        (x.year == year) ≡ true → (y.year == year) ≡ true → is_before x y ≡ false → is_before y x ≡ false → x ≡ y
    go c none old x y (inl p) (inl q) px py a b = sym p ∙ q
    go c none old x y (inl p) (inr q) px py a b =
        absurd (new_term past f.key c year y none q
        (subst (λ (t : FiledTerm). (t.year == year) ≡ true) (sym p) px) py
        (subst (λ (t : FiledTerm). is_before t y ≡ false) (sym p) a) (subst (λ (t : FiledTerm). is_before y t ≡ false) (sym p) b))
    go c none old x y (inr p) (inl q) px py a b =
        absurd (new_term past f.key c year x none p
        (subst (λ (t : FiledTerm). (t.year == year) ≡ true) (sym q) py) px
        (subst (λ (t : FiledTerm). is_before t x ≡ false) (sym q) b) (subst (λ (t : FiledTerm). is_before x t ≡ false) (sym q) a))
    go c none old x y (inr p) (inr q) px py a b = old x y p q px py a b

-- in a legal history the term that is least of those over an award is the one found
pub over_found : (past : List Filing) → IsLegal past → (award student year : ℕ) (t : FiledTerm) →
    IsLeastBy is_before (is_over past award student year) (terms_on_file past) t →
    least_term (filter (is_over past award student year) (terms_on_file past)) ≡ Some t
over_found past h award student year t least = go (least_term (filter (is_over past award student year) (terms_on_file past))) refl
  where
    of_year : (u : FiledTerm) → is_over past award student year u ≡ true → (u.year == year) ≡ true
    of_year u e = (and_parts (u.year == year) _ e).0

    go : (o : Option FiledTerm) → least_term (filter (is_over past award student year) (terms_on_file past)) ≡ o → o ≡ Some t
    go None e =
        let none = none_found (is_over past award student year) (terms_on_file past) e in
        let d : is_over past award student year t ≡ false = All-contains (λ u. is_over past award student year u ≡ false) (terms_on_file past) t none least.among in
        let k : is_over past award student year t ≡ true = least.accepted in
        absurd (cc)
    go (Some u) e =
        let found = least_found (is_over past award student year) (terms_on_file past) u e in
        ap (λ (x : FiledTerm). Some x) (year_ordered past h year u t found.among least.among (of_year u found.accepted) (of_year t least.accepted)
        (All-contains (λ v. is_over past award student year v ≡ true → is_before v t ≡ false) (terms_on_file past) u least.least found.among found.accepted)
        (All-contains (λ v. is_over past award student year v ≡ true → is_before v u ≡ false) (terms_on_file past) t found.least least.among least.accepted))
