-- Reading the text of a day answers the day that it spells, and no other text is read.
use Rattle.std.proofs.Common.{◌≡◌, ℕ, ◌+◌, ◌-◌, ◌*◌, ◌/◌, ◌%◌, ◌<◌, ◌≤◌, pos, Bool, true, false, cond, eqb, ◌&&◌, List, [], ◌∷◌, Option, Some, None, Result, Ok, Err, ◌↔◌, subst, refl, sym, ap, ◌∙◌, arith}
use Rattle.std.specs.Char.{is_ascii_digit}
use Rattle.std.proofs.lemmas.Bool.{eqb-true, true≢false}
use Rattle.std.proofs.lemmas.Bool.Decides.{nat_tests}
use Rattle.jiff_core.proofs.SignedLemmas.{signed_arith}
use Rattle.law_terms.specs.CivilDays.{IsCivilDate, days_from_1900}
use Rattle.law_terms.proofs.DayLemmas.{one_date}
use Rattle.law_terms.specs.DayText.{date_text, two_of, joined, date_in, is_date, counted, day_in, IsDayText, IsSpelled}
use Rattle.aid_types.specs.declared.text.Malformed.{Malformed}
use Rattle.aid_types.specs.declared.text.Malformed.TheVariants.{Range, Spelling}

-- two digits are read again
two_again : (n : ℕ) → n < 100 → two_of (48 + n / 10) (48 + n % 10) ≡ Some n
two_again n h = grind (arith, nat_tests)

date_again : (y m d : ℕ) → IsCivilDate (pos y) m d → is_date y m d ≡ true
date_again y m d h = grind (arith, nat_tests, signed_arith, h.year_from, h.year_to)

two_tests : (b c : Bool) (n k : ℕ) → cond (b && c) (Some n) None ≡ Some k → (b ≡ true) × (c ≡ true) × (n ≡ k)
two_tests true true n k e = (refl, refl, cc)
two_tests true false n k e = absurd cc
two_tests false c n k e = absurd cc

-- the text of the number that two digits are
record AreDigits (tens ones n : ℕ) : Type 0 where
  tens_are : 48 + n / 10 ≡ tens
  ones_are : 48 + n % 10 ≡ ones
  below : n < 100

two_found : (tens ones n : ℕ) → two_of tens ones ≡ Some n → AreDigits tens ones n
two_found tens ones n e =
    let h = two_tests (is_ascii_digit tens) (is_ascii_digit ones) (10 * (tens - 48) + (ones - 48)) n e in
    let t : (48 ≤ tens) × (tens ≤ 57) = grind (arith, nat_tests, h.0) in
    let o : (48 ≤ ones) × (ones ≤ 57) = grind (arith, nat_tests, h.1) in
    record { tens_are = omega (arith, h.2, t.0, t.1, o.0, o.1); ones_are = omega (arith, h.2, t.0, t.1, o.0, o.1); below = omega (arith, h.2, t.0, t.1, o.0, o.1) }

-- what is spelled so is read
spelled_again : (y m d : ℕ) → y ≤ 9999 → m ≤ 99 → d ≤ 99 → date_in (date_text y m d) ≡ Some (y, m, d)
spelled_again y m d hy hm hd =
    let a : two_of (48 + y / 100 / 10) (48 + y / 100 % 10) ≡ Some (y / 100) = two_again (y / 100) (omega arith) in
    let b : two_of (48 + y % 100 / 10) (48 + y % 100 % 10) ≡ Some (y % 100) = two_again (y % 100) (omega arith) in
    let c : two_of (48 + m / 10) (48 + m % 10) ≡ Some m = two_again m (omega (arith, hm)) in
    let e : two_of (48 + d / 10) (48 + d % 10) ≡ Some d = two_again d (omega (arith, hd)) in
    let year : 100 * (y / 100) + y % 100 ≡ y = omega arith in
    (λ i. joined (a i) (b i) (c i) (e i)) ∙ ap (λ (n : ℕ). Some (n, m, d)) year

-- the four numbers that a date was joined of
record Parts (a b c d : Option ℕ) (date : ℕ × ℕ × ℕ) : Type 0 where
  century : ℕ
  year : ℕ
  first : a ≡ Some century
  second : b ≡ Some year
  third : c ≡ Some date.1
  fourth : d ≡ Some date.2
  whole : date.0 ≡ 100 * century + year

parts_of : (a b c d : Option ℕ) (date : ℕ × ℕ × ℕ) → joined a b c d ≡ Some date → Parts a b c d date
parts_of None b c d date e = absurd cc
parts_of (Some x) None c d date e = absurd cc
parts_of (Some x) (Some y) None d date e = absurd cc
parts_of (Some x) (Some y) (Some m) None date e = absurd cc
parts_of (Some x) (Some y) (Some m) (Some d) date e =
    let same : (100 * x + y, m, d) ≡ date = cc in
    record {
      century = x;
      year = y;
      first = refl;
      second = refl;
      third = ap (λ (t : ℕ × ℕ × ℕ). Some t.1) same;
      fourth = ap (λ (t : ℕ × ℕ × ℕ). Some t.2) same;
      whole = sym (ap (λ (t : ℕ × ℕ × ℕ). t.0) same);
    }

marked : (p q : Bool) (o : Option (ℕ × ℕ × ℕ)) (date : ℕ × ℕ × ℕ) → cond (p && q) o None ≡ Some date → (p ≡ true) × (q ≡ true) × (o ≡ Some date)
marked true true o date e = (refl, refl, e)
marked true false o date e = absurd cc
marked false q o date e = absurd cc

-- a text that has a date is spelled so
date_found : (text : List ℕ) (date : ℕ × ℕ × ℕ) → date_in text ≡ Some date → IsSpelled text date.0 date.1 date.2
date_found [] date e = absurd cc
date_found (a ∷ []) date e = absurd cc
date_found (a ∷ b ∷ []) date e = absurd cc
date_found (a ∷ b ∷ c ∷ []) date e = absurd cc
date_found (a ∷ b ∷ c ∷ d ∷ []) date e = absurd cc
date_found (a ∷ b ∷ c ∷ d ∷ p ∷ []) date e = absurd cc
date_found (a ∷ b ∷ c ∷ d ∷ p ∷ f ∷ []) date e = absurd cc
date_found (a ∷ b ∷ c ∷ d ∷ p ∷ f ∷ g ∷ []) date e = absurd cc
date_found (a ∷ b ∷ c ∷ d ∷ p ∷ f ∷ g ∷ q ∷ []) date e = absurd cc
date_found (a ∷ b ∷ c ∷ d ∷ p ∷ f ∷ g ∷ q ∷ h ∷ []) date e = absurd cc
date_found (a ∷ b ∷ c ∷ d ∷ p ∷ f ∷ g ∷ q ∷ h ∷ k ∷ []) date e =
    let marks = marked (eqb p 45) (eqb q 45) (joined (two_of a b) (two_of c d) (two_of f g) (two_of h k)) date e in
    let parts = parts_of (two_of a b) (two_of c d) (two_of f g) (two_of h k) date marks.2 in
    let w = two_found a b parts.century parts.first in
    let x = two_found c d parts.year parts.second in
    let y = two_found f g date.1 parts.third in
    let z = two_found h k date.2 parts.fourth in
    let high : date.0 / 100 ≡ parts.century = omega (arith, parts.whole, x.below) in
    let low : date.0 % 100 ≡ parts.year = omega (arith, parts.whole, x.below) in
    let a_is : 48 + date.0 / 100 / 10 ≡ a = rw high w.tens_are in
    let b_is : 48 + date.0 / 100 % 10 ≡ b = rw high w.ones_are in
    let c_is : 48 + date.0 % 100 / 10 ≡ c = rw low x.tens_are in
    let d_is : 48 + date.0 % 100 % 10 ≡ d = rw low x.ones_are in
    let p_is : p ≡ 45 = eqb-true p 45 marks.0 in
    let q_is : q ≡ 45 = eqb-true q 45 marks.1 in
    record {
      year = omega (arith, parts.whole, w.below, x.below);
      month = omega (arith, y.below);
      day = omega (arith, z.below);
      spelled = λ i. sym a_is i ∷ sym b_is i ∷ sym c_is i ∷ sym d_is i ∷ p_is i ∷ sym y.tens_are i ∷ sym y.ones_are i ∷ q_is i ∷ sym z.tens_are i ∷ sym z.ones_are i ∷ [];
    }
date_found (a ∷ b ∷ c ∷ d ∷ p ∷ f ∷ g ∷ q ∷ h ∷ k ∷ l ∷ rest) date e = absurd cc

civil_from : (y m d : ℕ) → is_date y m d ≡ true → IsCivilDate (pos y) m d
civil_from y m d e =
    let year_low : 1900 ≤ y = grind (arith, nat_tests) in
    let year_high : y ≤ 9999 = grind (arith, nat_tests) in
    record {
      year_from = grind (arith, signed_arith, year_low);
      year_to = grind (arith, signed_arith, year_high);
      month_from = grind (arith, nat_tests);
      month_to = grind (arith, nat_tests);
      day_from = grind (arith, nat_tests);
      day_to = grind (arith, nat_tests);
    }

-- the text of a day has the shape of a date
shape_of : (text : List ℕ) (n : ℕ) (is : IsDayText text n) → IsSpelled text is.year is.month is.day
shape_of text n is =
    let h = is.is_date in
    let most : is.day ≤ 31 = grind (arith, nat_tests, h.day_to) in
    record {
      year = grind (arith, signed_arith, h.year_to);
      month = omega (arith, h.month_to);
      day = omega (arith, most);
      spelled = is.spelled;
    }

-- a text has one date alone
same_shape : (text : List ℕ) (date : ℕ × ℕ × ℕ) (y m d : ℕ) → date_in text ≡ Some date → IsSpelled text y m d → date ≡ (y, m, d)
same_shape text date y m d e is =
    let again : date_in text ≡ Some (y, m, d) = ap date_in is.spelled ∙ spelled_again y m d is.year is.month is.day in
    cc

no_shape : (text : List ℕ) → date_in text ≡ None → (y m d : ℕ) → ¬ IsSpelled text y m d
no_shape text e y m d is =
    let again : date_in text ≡ Some (y, m, d) = ap date_in is.spelled ∙ spelled_again y m d is.year is.month is.day in
    absurd cc

-- a day is read from its texts, and each fault has its own
pub record IsDayReading (text : List ℕ) (r : Result ℕ Malformed) : Type 0 where
  pub ok : (n : ℕ) → (r ≡ Ok n) ↔ IsDayText text n
  pub range : (r ≡ Err Range) ↔ ((y : ℕ) × (m : ℕ) × (d : ℕ) × IsSpelled text y m d × ¬ IsCivilDate (pos y) m d)
  pub spelling : (r ≡ Err Spelling) ↔ ((y m d : ℕ) → ¬ IsSpelled text y m d)

pub IsDayReading-day_in : (text : List ℕ) → IsDayReading text (day_in text)
IsDayReading-day_in text = by_date (date_in text) refl where
  same_count : (date : ℕ × ℕ × ℕ) (n : ℕ) → date_in text ≡ Some date → IsDayText text n → days_from_1900 date.0 date.1 date.2 ≡ n
  same_count date n e is =
      ap (λ (t : ℕ × ℕ × ℕ). days_from_1900 t.0 t.1 t.2) (same_shape text date is.year is.month is.day e (shape_of text n is)) ∙ sym is.counted

  there : (date : ℕ × ℕ × ℕ) (y m d : ℕ) → date_in text ≡ Some date → IsSpelled text y m d → IsCivilDate (pos date.0) date.1 date.2 → IsCivilDate (pos y) m d
  there date y m d e told civil = subst (λ (t : ℕ × ℕ × ℕ). IsCivilDate (pos t.0) t.1 t.2) (same_shape text date y m d e told) civil

  back : (date : ℕ × ℕ × ℕ) (y m d : ℕ) → date_in text ≡ Some date → IsSpelled text y m d → IsCivilDate (pos y) m d → IsCivilDate (pos date.0) date.1 date.2
  back date y m d e told civil = subst (λ (t : ℕ × ℕ × ℕ). IsCivilDate (pos t.0) t.1 t.2) (sym (same_shape text date y m d e told)) civil

  by_test : (b : Bool) (date : ℕ × ℕ × ℕ) → date_in text ≡ Some date → is_date date.0 date.1 date.2 ≡ b
      → IsDayReading text (cond b (Ok (days_from_1900 date.0 date.1 date.2)) (Err Range))
  by_test true date e t =
      let civil = civil_from date.0 date.1 date.2 t in
      let shape = date_found text date e in
      record {
        ok = λ n. (
          λ same. record { year = date.0; month = date.1; day = date.2; is_date = civil; spelled = shape.spelled; counted = cc },
          λ is. ap Ok (same_count date n e is),
        );
        range = (λ same. absurd cc, λ (y, m, d, told, outside). absurd (outside (there date y m d e told civil)));
        spelling = (λ same. absurd cc, λ nothing. absurd (nothing date.0 date.1 date.2 shape));
      }
  by_test false date e t =
      let shape = date_found text date e in
      let outside : ¬ IsCivilDate (pos date.0) date.1 date.2 = λ civil. true≢false (sym (date_again date.0 date.1 date.2 civil) ∙ t) in
      record {
        ok = λ n. (
          λ same. absurd cc,
          λ is. absurd (outside (back date is.year is.month is.day e (shape_of text n is) is.is_date)),
        );
        range = (λ same. (date.0, date.1, date.2, shape, outside), λ told. refl);
        spelling = (λ same. absurd cc, λ nothing. absurd (nothing date.0 date.1 date.2 shape));
      }

  by_date : (o : Option (ℕ × ℕ × ℕ)) → date_in text ≡ o → IsDayReading text (counted o)
  by_date None e = record {
    ok = λ n. (λ same. absurd cc, λ is. absurd (no_shape text e is.year is.month is.day (shape_of text n is)));
    range = (λ same. absurd cc, λ (y, m, d, told, outside). absurd (no_shape text e y m d told));
    spelling = (λ same. no_shape text e, λ nothing. refl);
  }
  by_date (Some date) e = by_test (is_date date.0 date.1 date.2) date e refl

-- a day has one text
pub one_text : (t u : List ℕ) (n : ℕ) → IsDayText t n → IsDayText u n → t ≡ u
one_text t u n a b =
    let same = one_date a.year a.month a.day b.year b.month b.day a.is_date b.is_date (sym a.counted ∙ b.counted) in
    a.spelled ∙ ((λ i. date_text (same.0 i) (same.1 i) (same.2 i)) ∙ sym b.spelled)
