-- A number has one text in each form.
use Rattle.std.proofs.Common.{◌≡◌, ℕ, ◌-◌, ◌^◌, ℤ, pos, neg_ℤ, List, [], get_or, bytes_eq, refl, sym, ap, ◌∙◌, arith}
use Rattle.std.specs.Prelude.{Option, Some, None, ok_or, option_map, Result, Ok, Err}
use Rattle.std.specs.List.{position}
use Rattle.std.specs.Result.{result_map_both}
use Rattle.std.proofs.lemmas.Int.{ints}
use Rattle.std.proofs.lemmas.List.Quantifiers.{position-Some}
use Rattle.std.proofs.lemmas.Slice.Eq.{bytes_eq-Decides}
use Rattle.aid_types.proofs.ReadLemmas.{IsCentsReading-cents_up_to, IsWholeReading-whole_between}
use Rattle.aid_types.specs.Cents.{cents_of, cents_text, cents_up_to}
use Rattle.aid_types.specs.Whole.{whole_between, whole_of}
use Rattle.aid_types.specs.declared.text.Malformed.{Malformed}
use Rattle.aid_types.specs.declared.text.Malformed.TheVariants.{Spelling}
use Rattle.law_terms.proofs.DayTextLaws.{IsDayReading-day_in, one_text as one_day_text}
use Rattle.law_terms.specs.DayText.{day_in}
use Rattle.format_table.specs.declared.field.Form.{Form}
use Rattle.format_table.specs.declared.field.Form.TheVariants.{U8, U16, U32, U64, I64, Cents, Day, Flag, Word, Count}
use Rattle.format_rows.specs.Fields.{day_number, number_in}

-- the number before it was turned into another
before : (f : ℕ → ℤ) (r : Result ℕ Malformed) (z : ℤ) → result_map_both f (λ e. e) r ≡ Ok z → (n : ℕ) × (r ≡ Ok n) × (f n ≡ z)
before f (Ok n) z h = (n, refl, cc)
before f (Err e) z h = absurd cc

-- ---- by form
whole_once : (low high : ℤ) (text other : List ℕ) (z : ℤ) → whole_between low high (whole_of text) ≡ Ok z → whole_between low high (whole_of other) ≡ Ok z → text ≡ other
whole_once low high text other z one two =
    let first = ((IsWholeReading-whole_between low high text).ok z).0 one in
    let second = ((IsWholeReading-whole_between low high other).ok z).0 two in
    first.0 ∙ sym second.0

cents_once : (text other : List ℕ) (m n : ℕ) → m ≡ n → cents_up_to 99999999 (cents_of text) ≡ Ok m → cents_up_to 99999999 (cents_of other) ≡ Ok n → text ≡ other
cents_once text other m n same one two =
    let first = ((IsCentsReading-cents_up_to 99999999 text).ok m).0 one in
    let second = ((IsCentsReading-cents_up_to 99999999 other).ok n).0 two in
    first.0 ∙ ap cents_text same ∙ sym second.0

day_once : (text other : List ℕ) (m n : ℕ) → m ≡ n → day_in text ≡ Ok m → day_in other ≡ Ok n → text ≡ other
day_once text other m n same one two =
    one_day_text text other n (((IsDayReading-day_in text).ok n).0 (one ∙ ap Ok same)) (((IsDayReading-day_in other).ok n).0 two)

place_of : (o : Option ℕ) (z : ℤ) → ok_or (option_map (λ place. pos place) o) Spelling ≡ Ok z → (n : ℕ) × (o ≡ Some n) × (pos n ≡ z)
place_of None z h = absurd cc
place_of (Some n) z h = (n, refl, cc)

-- the word at a place is the text
word_at : (words : List (List ℕ)) (text : List ℕ) (place : ℕ) → position (λ word. bytes_eq word text) words ≡ Some place → get_or words place [] ≡ text
word_at words text place h = (bytes_eq-Decides (get_or words place []) text).0 (position-Some (λ word. bytes_eq word text) words place [] h).1

word_once : (words : List (List ℕ)) (text other : List ℕ) (m n : ℕ) → m ≡ n → position (λ word. bytes_eq word text) words ≡ Some m → position (λ word. bytes_eq word other) words ≡ Some n → text ≡ other
word_once words text other m n same one two = sym (word_at words text m one) ∙ ap (λ place. get_or words place []) same ∙ word_at words other n two

-- ---- in any form
as_cents : (words : List (List ℕ)) (text other : List ℕ) (z : ℤ) → number_in words Cents text ≡ Ok z → number_in words Cents other ≡ Ok z → text ≡ other
as_cents words text other z one two =
    let first = before (λ n. pos n) (cents_up_to 99999999 (cents_of text)) z one in
    let second = before (λ n. pos n) (cents_up_to 99999999 (cents_of other)) z two in
    let same : first.0 ≡ second.0 = omega (arith, ints, first.2 ∙ sym second.2) in
    cents_once text other first.0 second.0 same first.1 second.1

as_day : (words : List (List ℕ)) (text other : List ℕ) (z : ℤ) → number_in words Day text ≡ Ok z → number_in words Day other ≡ Ok z → text ≡ other
as_day words text other z one two =
    let first = before day_number (day_in text) z one in
    let second = before day_number (day_in other) z two in
    let same : first.0 ≡ second.0 = omega (arith, ints, first.2 ∙ sym second.2) in
    day_once text other first.0 second.0 same first.1 second.1

as_word : (words : List (List ℕ)) (text other : List ℕ) (z : ℤ) → number_in words Word text ≡ Ok z → number_in words Word other ≡ Ok z → text ≡ other
as_word words text other z one two =
    let first = place_of (position (λ word. bytes_eq word text) words) z one in
    let second = place_of (position (λ word. bytes_eq word other) words) z two in
    let same : first.0 ≡ second.0 = omega (arith, ints, first.2 ∙ sym second.2) in
    word_once words text other first.0 second.0 same first.1 second.1

as_whole : (text other : List ℕ) (z : ℤ) → whole_between (neg_ℤ (pos (2 ^ 63))) (pos (2 ^ 63 - 1)) (whole_of text) ≡ Ok z
    → whole_between (neg_ℤ (pos (2 ^ 63))) (pos (2 ^ 63 - 1)) (whole_of other) ≡ Ok z → text ≡ other
as_whole text other z one two = whole_once (neg_ℤ (pos (2 ^ 63))) (pos (2 ^ 63 - 1)) text other z one two

pub text_once : (words : List (List ℕ)) (form : Form) (text other : List ℕ) (z : ℤ) → number_in words form text ≡ Ok z → number_in words form other ≡ Ok z → text ≡ other
text_once words U8 text other z one two = as_whole text other z one two
text_once words U16 text other z one two = as_whole text other z one two
text_once words U32 text other z one two = as_whole text other z one two
text_once words U64 text other z one two = as_whole text other z one two
text_once words I64 text other z one two = as_whole text other z one two
text_once words Cents text other z one two = as_cents words text other z one two
text_once words Day text other z one two = as_day words text other z one two
text_once words Flag text other z one two = as_whole text other z one two
text_once words Word text other z one two = as_word words text other z one two
text_once words Count text other z one two = as_whole text other z one two
