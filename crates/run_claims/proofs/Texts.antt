-- A field's text is read as a number just where it spells the number that is written there.
use Rattle.std.proofs.Common.{◌≡◌, ℕ, ◌-◌, ◌^◌, ◌≤◌, ℤ, pos, neg_ℤ, ◌≤ℤ◌, ◌-ℤ◌, Bool, true, false, List, [], get_or, bytes_eq, refl, sym, ap, ◌∙◌, arith}
use Rattle.std.specs.Prelude.{Option, Some, None, ok_or, option_map, Result, Ok, Err}
use Rattle.std.specs.List.{position}
use Rattle.std.specs.Result.{result_map_both}
use Rattle.std.proofs.lemmas.Int.{ints}
use Rattle.std.proofs.lemmas.List.Quantifiers.{position-Some}
use Rattle.std.proofs.lemmas.Slice.Eq.{bytes_eq-Decides}
use Rattle.jiff_core.specs.Calendar.{IsCivilDate as IsPlainDate, days_from_civil}
use Rattle.jiff_core.proofs.SignedLemmas.{signed_arith}
use Rattle.aid_types.proofs.ReadLemmas.{IsCentsReading-cents_up_to, IsWholeReading-whole_between}
use Rattle.aid_types.specs.Cents.{cents_of, cents_text, cents_up_to}
use Rattle.aid_types.specs.Whole.{whole_between, whole_of, whole_text}
use Rattle.aid_types.specs.declared.text.Malformed.{Malformed}
use Rattle.aid_types.specs.declared.text.Malformed.TheVariants.{Spelling}
use Rattle.aid_types.specs.Programs.{rank}
use Rattle.aid_types.specs.declared.number.Program.{Program as ProgramOf}
use Rattle.aid_types.specs.declared.number.Program.TheVariants.{Unsub, Sub, Plus, Pell, Fseog, Teach}
use Rattle.law_terms.proofs.DayLemmas.{dated_by_number, epoch_from_1900, same_number}
use Rattle.law_terms.proofs.DayTextLaws.{IsDayReading-day_in, one_text as one_day_text}
use Rattle.law_terms.specs.CivilDays.{IsCivilDate, IsDay, days_from_1900, day_number as civil_number}
use Rattle.law_terms.specs.DayText.{IsDayText, date_text, day_in}
use Rattle.format_kinds.specs.Kinds.{words_of_programs}
use Rattle.format_table.specs.declared.field.Form.{Form}
use Rattle.format_table.specs.declared.field.Form.TheVariants.{Cents, Day, Word}
use Rattle.format_bytes.specs.Numbers.{day_number}
use Rattle.format_rows.specs.Fields.{number_in}
use Rattle.run_claims.proofs.KeptBytes.{value}
use Rattle.run_claims.specs.Written.{IsDateOf, IsInRange, Number, Spells, whole, ranged, money, day, word}

-- ---- the form in which a number is written
abbrev pub has_form : Number → Form → Bool
has_form (money cents) Cents = true
has_form (money cents) _ = false
has_form (day d) Day = true
has_form (day d) _ = false
has_form (word program) Word = true
has_form (word program) _ = false
has_form _ Cents = false
has_form _ Day = false
has_form _ Word = false
has_form _ _ = true

-- the least and the greatest value that a text of the form spells
abbrev pub least : Number → ℤ
least (money cents) = pos 0
least (day d) = neg_ℤ (pos 25567)
least _ = neg_ℤ (pos (2 ^ 63))

abbrev pub greatest : Number → ℤ
greatest (money cents) = pos 99999999
greatest (day d) = pos 2932896
greatest _ = pos (2 ^ 63 - 1)

-- ---- whole numbers
whole_spelled : (text : List ℕ) (z : ℤ) → whole_between (neg_ℤ (pos (2 ^ 63))) (pos (2 ^ 63 - 1)) (whole_of text) ≡ Ok z → text ≡ whole_text z
whole_spelled text z h = (((IsWholeReading-whole_between (neg_ℤ (pos (2 ^ 63))) (pos (2 ^ 63 - 1)) text).ok z).0 h).0

whole_read : (text : List ℕ) (z : ℤ) → neg_ℤ (pos (2 ^ 63)) ≤ℤ z → z ≤ℤ pos (2 ^ 63 - 1) → text ≡ whole_text z
    → whole_between (neg_ℤ (pos (2 ^ 63))) (pos (2 ^ 63 - 1)) (whole_of text) ≡ Ok z
whole_read text z low high h = ((IsWholeReading-whole_between (neg_ℤ (pos (2 ^ 63))) (pos (2 ^ 63 - 1)) text).ok z).1 (h, low, high)

-- the number before it was turned into another
before : (f : ℕ → ℤ) (r : Result ℕ Malformed) (z : ℤ) → result_map_both f (λ e. e) r ≡ Ok z → (n : ℕ) × (r ≡ Ok n) × (f n ≡ z)
before f (Ok n) z h = (n, refl, cc)
before f (Err e) z h = absurd cc

-- ---- cents
cents_spelled : (text : List ℕ) (n : ℕ) → number_in words_of_programs Cents text ≡ Ok (pos n) → text ≡ cents_text n
cents_spelled text n h =
    let read = before (λ n. pos n) (cents_up_to 99999999 (cents_of text)) (pos n) h in
    let same : read.0 ≡ n = omega (arith, ints, read.2) in
    (((IsCentsReading-cents_up_to 99999999 text).ok read.0).0 read.1).0 ∙ ap cents_text same

cents_read : (text : List ℕ) (n : ℕ) → pos n ≤ℤ pos 99999999 → text ≡ cents_text n → number_in words_of_programs Cents text ≡ Ok (pos n)
cents_read text n high h =
    let most : n ≤ 99999999 = omega (arith, ints, high) in
    ap (result_map_both (λ n. pos n) (λ e. e)) (((IsCentsReading-cents_up_to 99999999 text).ok n).1 (h, most))

-- ---- days
plain_date : (y m d : ℕ) → IsCivilDate (pos y) m d → IsPlainDate (pos y) m d
plain_date y m d h =
    ((omega (arith, signed_arith), h.year_to), (h.month_from, h.month_to), (h.day_from, omega (arith, signed_arith, h.day_to)))

-- a day's text by either calendar
date_of-text : (text : List ℕ) (d : ℕ) → IsDayText text d → IsDateOf d text
date_of-text text d h =
    let from : 1900 ≤ h.year = omega (arith, signed_arith, h.is_date.year_from) in
    let number : days_from_civil (pos h.year) h.month h.day ≡ civil_number (pos h.year) h.month h.day = same_number h.year h.month h.day from h.is_date.day_from in
    let same : day_number d ≡ civil_number (pos h.year) h.month h.day =
    ap (λ (n : ℕ). day_number n) h.counted ∙ ap (λ (n : ℕ). pos (days_from_1900 h.year h.month h.day) -ℤ pos n) (sym epoch_from_1900) in
    (h.year, h.month, h.day, plain_date h.year h.month h.day h.is_date, same ∙ sym number, h.spelled)

counted_from : (d n : ℕ) → day_number d ≡ pos n -ℤ pos 25567 → d ≡ n
counted_from d n h = omega (arith, ints, h)

year_same : (y z : ℕ) → pos y ≡ pos z → y ≡ z
year_same y z h = omega (arith, ints, h)

text_of-date : (text : List ℕ) (d : ℕ) → IsDay (day_number d) → IsDateOf d text → IsDayText text d
text_of-date text d within h =
    let dated = dated_by_number (pos h.0) h.1 h.2 (day_number d) h.3 (sym h.4) within in
    let year : h.0 ≡ dated.y = year_same h.0 dated.y dated.year_is in
    let number : day_number d ≡ pos (days_from_1900 dated.y h.1 h.2) -ℤ pos 25567 =
    dated.value ∙ ap (λ (n : ℕ). pos (days_from_1900 dated.y h.1 h.2) -ℤ pos n) epoch_from_1900 in
    record {
      year = dated.y;
      month = h.1;
      day = h.2;
      is_date = dated.is_date;
      spelled = h.5 ∙ ap (λ (y : ℕ). date_text y h.1 h.2) year;
      counted = counted_from d (days_from_1900 dated.y h.1 h.2) number;
    }

same_day : (m n : ℕ) → day_number m ≡ day_number n → m ≡ n
same_day m n h = omega (arith, ints, h)

day_spelled : (text : List ℕ) (d : ℕ) → number_in words_of_programs Day text ≡ Ok (day_number d) → IsDateOf d text
day_spelled text d h =
    let read = before day_number (day_in text) (day_number d) h in
    date_of-text text d (((IsDayReading-day_in text).ok d).0 (read.1 ∙ ap Ok (same_day read.0 d read.2)))

day_read : (text : List ℕ) (d : ℕ) → IsDay (day_number d) → IsDateOf d text → number_in words_of_programs Day text ≡ Ok (day_number d)
day_read text d within h = ap (result_map_both day_number (λ e. e)) (((IsDayReading-day_in text).ok d).1 (text_of-date text d within h))

-- the text of a day that can be written, in the words of those who read it
pub day_text_of : (text : List ℕ) (d : ℕ) → d ≤ 2958463 → IsDateOf d text → IsDayText text d
day_text_of text d last dated = text_of-date text d (omega (arith, ints), omega (arith, ints, last)) dated

-- a day has one text
one_date : (one other : List ℕ) (d : ℕ) → d ≤ 2958463 → IsDateOf d one → IsDateOf d other → one ≡ other
one_date one other d last first second =
    let within : IsDay (day_number d) = (omega (arith, ints), omega (arith, ints, last)) in
    one_day_text one other d (text_of-date one d within first) (text_of-date other d within second)

pub one_spelling : (n : Number) (one other : List ℕ) → IsInRange n → Spells n one → Spells n other → one ≡ other
one_spelling (whole width z) one other fits first second = first ∙ sym second
one_spelling (ranged width low high n) one other fits first second = first ∙ sym second
one_spelling (money cents) one other fits first second = first ∙ sym second
one_spelling (day d) one other fits first second = one_date one other d fits first second
one_spelling (word program) one other fits first second = first ∙ sym second

-- ---- words
place_of : (o : Option ℕ) (z : ℤ) → ok_or (option_map (λ place. pos place) o) Spelling ≡ Ok z → (n : ℕ) × (o ≡ Some n) × (pos n ≡ z)
place_of None z h = absurd cc
place_of (Some n) z h = (n, refl, cc)

word_spelled : (text : List ℕ) (p : ProgramOf) → number_in words_of_programs Word text ≡ Ok (pos (rank p)) → text ≡ get_or words_of_programs (rank p) []
word_spelled text p h =
    let place = place_of (position (λ word. bytes_eq word text) words_of_programs) (pos (rank p)) h in
    let same : place.0 ≡ rank p = omega (arith, ints, place.2) in
    let there = (position-Some (λ word. bytes_eq word text) words_of_programs place.0 [] place.1).1 in
    sym ((bytes_eq-Decides (get_or words_of_programs place.0 []) text).0 there) ∙ ap (λ (n : ℕ). get_or words_of_programs n []) same

its_word : (p : ProgramOf) → number_in words_of_programs Word (get_or words_of_programs (rank p) []) ≡ Ok (pos (rank p))
its_word Unsub = refl
its_word Sub = refl
its_word Plus = refl
its_word Pell = refl
its_word Fseog = refl
its_word Teach = refl

-- ---- in any form
-- a text that is read as the number spells it
pub read_spells : (n : Number) (form : Form) (text : List ℕ) → has_form n form ≡ true → number_in words_of_programs form text ≡ Ok (value n) → Spells n text
read_spells (money cents) Cents text f h = cents_spelled text cents h
read_spells (money cents) _ text f h = absurd cc
read_spells (day d) Day text f h = day_spelled text d h
read_spells (day d) _ text f h = absurd cc
read_spells (word program) Word text f h = word_spelled text program h
read_spells (word program) _ text f h = absurd cc
read_spells _ Cents text f h = absurd cc
read_spells _ Day text f h = absurd cc
read_spells _ Word text f h = absurd cc
read_spells (whole width z) _ text f h = whole_spelled text z h
read_spells (ranged width low high n) _ text f h = whole_spelled text (pos n) h

-- and one that spells it is read so
pub spelled_reads : (n : Number) (form : Form) (text : List ℕ) → has_form n form ≡ true → least n ≤ℤ value n → value n ≤ℤ greatest n → Spells n text → number_in words_of_programs form text ≡ Ok (value n)
spelled_reads (money cents) Cents text f low high h = cents_read text cents high h
spelled_reads (money cents) _ text f low high h = absurd cc
spelled_reads (day d) Day text f low high h = day_read text d (low, high) h
spelled_reads (day d) _ text f low high h = absurd cc
spelled_reads (word program) Word text f low high h = ap (number_in words_of_programs Word) h ∙ its_word program
spelled_reads (word program) _ text f low high h = absurd cc
spelled_reads _ Cents text f low high h = absurd cc
spelled_reads _ Day text f low high h = absurd cc
spelled_reads _ Word text f low high h = absurd cc
spelled_reads (whole width z) _ text f low high h = whole_read text z low high h
spelled_reads (ranged width least_one greatest_one n) _ text f low high h = whole_read text (pos n) low high h
