-- The lines of an export: their forms, that each is a line, and that no other filing or standing has a line.
use Rattle.std.proofs.Common.{◌≡◌, ℕ, ◌-◌, ◌<◌, ◌≤◌, ◌^◌, Bool, true, ℤ, pos, List, [], ◌∷◌, ◌++◌, length, take, drop, Option, Some, None, Result, Ok, refl, sym, ap, ◌∙◌, arith, append-nil, codes, decimal, length-append}
use Rattle.std.specs.Prelude.{◌==◌, ◌%◌, is_some, if◌then◌else◌}
use Rattle.std.specs.List.{AllByRecursion, list_all}
use Rattle.std.proofs.lemmas.Bool.{and_from, and_parts}
use Rattle.std.proofs.Math.Seq.{take-append_seam}
use Rattle.std.proofs.lemmas.Int.{ints}
use Rattle.aid_filings.specs.declared.filing.Filing.{Filing}
use Rattle.aid_filings.specs.declared.reply.StandingRow.{StandingRow}
use Rattle.aid_types.specs.Words.{formula_text, way_text}
use Rattle.aid_types.specs.declared.award.Formula.{Formula}
use Rattle.aid_types.specs.declared.award.Formula.TheVariants.{A, B, C}
use Rattle.aid_types.specs.declared.award.Way.{Way}
use Rattle.aid_types.specs.declared.award.Way.TheVariants.{Maximum, Calculated, Minimum, Nothing}
use Rattle.aid_types.specs.Cents.{cents_text}
use Rattle.aid_types.specs.Whole.{whole_between, whole_of, whole_text}
use Rattle.aid_types.specs.declared.text.Malformed.{Malformed}
use Rattle.aid_types.proofs.CentsLemmas.{cents_of-cents_text}
use Rattle.aid_types.proofs.SignedLemmas.{int_le-true}
use Rattle.aid_types.proofs.WholeLemmas.{decimal-natural_text, whole_of-whole_text}
use Rattle.aid_stamps.specs.StampLaws.{stamp_alone}
use Rattle.aid_stamps.specs.Stamps.{IsStamp, stamp_bytes}
use Rattle.aid_stamps.specs.declared.stamp.Stamp.{Stamp}
use Rattle.format_bytes.specs.Spelling.{spelling}
use Rattle.format_bytes.proofs.FilingLaws.{is_alone}
use Rattle.format_bytes.specs.Numbers.{IsFiling}
use Rattle.hex.specs.Hex.{IsBytes, encode_lower, lower_digits}
use Rattle.hex.proofs.HexLemmas.{length-encode_with}
use Rattle.office_export.specs.Forms.{are_digits, end_form, filing_form, form_of, form_of_end, form_of_standing, form_of_student, is_amount, is_digit, is_formula, is_seal, is_way, is_whole, standing_form}
use Rattle.office_export.specs.Lines.{end_line, filing_line, line_of, standing_line}
use Rattle.office_export.proofs.Digits.{are_digits-encode_lower, same_bytes, visible_digits}
use Rattle.office_export.proofs.FilingBytes.{bytes-payload, bytes-spelling}
use Rattle.office_export.proofs.Lines.{IsLine, is_line-words}
use Rattle.office_export.proofs.Visible.{AreVisible, visible_cents, visible_decimal, visible_formula, visible_way, visible_whole}
use Rattle.office_export.proofs.Spaced.{form_of-line, line_of-spaced}

-- ---- a filing's line
pub digits_of : (f : Filing) → are_digits (encode_lower (spelling f)) ≡ true
digits_of f = are_digits-encode_lower (spelling f) (bytes-spelling f)

pub digits_of_payload : (s : Stamp) (f : Filing) → IsStamp s → are_digits (encode_lower (stamp_bytes s ++ spelling f)) ≡ true
digits_of_payload s f is = are_digits-encode_lower (stamp_bytes s ++ spelling f) (bytes-payload s f is)

filing_words : (digits : List ℕ) → are_digits digits ≡ true → AllByRecursion AreVisible (codes "filing" ∷ digits ∷ [])
filing_words digits are = (refl, (visible_digits digits are, tt))

pub is_line-filing_line : (s : Stamp) (f : Filing) → IsStamp s → IsLine (filing_line s f)
is_line-filing_line s f is =
    let digits = encode_lower (stamp_bytes s ++ spelling f) in
    is_line-words (codes "filing") (digits ∷ []) (filing_words digits (digits_of_payload s f is))

pub form_of-filing_line : (s : Stamp) (f : Filing) → IsStamp s → form_of (filing_line s f) ≡ Some filing_form
form_of-filing_line s f is =
    let digits = encode_lower (stamp_bytes s ++ spelling f) in
    form_of-line (codes "filing") (digits ∷ []) (filing_words digits (digits_of_payload s f is))
    ∙ ap (λ (b : Bool). if b then Some filing_form else None) (digits_of_payload s f is)

-- the digits stand behind the word and before the line feed
abbrev behind : List ℕ → List ℕ
behind line = drop 7 (take (length line - 1) line)

behind-is : (digits : List ℕ) → behind (line_of (codes "filing" ∷ digits ∷ [])) ≡ digits
behind-is digits =
    let front : List ℕ = codes "filing" ++ 32 ∷ digits in
    let size : length (front ++ 10 ∷ []) - 1 ≡ length front = omega (arith, length-append front (10 ∷ [])) in
    ap behind (line_of-spaced (codes "filing") (digits ∷ [])) ∙ ap (λ n. drop 7 (take n (front ++ 10 ∷ []))) size ∙ ap (drop 7) (take-append_seam front (10 ∷ []))

-- digits that are alone behind the word are those of the line
pub same_digits : (xs ys : List ℕ) → line_of (codes "filing" ∷ xs ∷ []) ≡ line_of (codes "filing" ∷ ys ∷ []) → xs ≡ ys
same_digits xs ys e = sym (behind-is xs) ∙ ap behind e ∙ behind-is ys

-- a filing under its stamp has a payload and a line of its own
pub record AreSamePayload (s t : Stamp) (f g : Filing) : Type 0 where
  pub stamp : s ≡ t
  pub filing : f ≡ g

pub same_payload : (s t : Stamp) (f g : Filing) → IsStamp s → IsStamp t → IsFiling f → IsFiling g → stamp_bytes s ++ spelling f ≡ stamp_bytes t ++ spelling g → AreSamePayload s t f g
same_payload s t f g is_s is_t is_f is_g e =
    let parts = stamp_alone s t (spelling f) (spelling g) is_s is_t e in
    record { stamp = parts.stamp; filing = (is_alone f g [] is_f is_g (append-nil (spelling f) ∙ parts.behind)).same }

pub same_filing_line : (s t : Stamp) (f g : Filing) → IsStamp s → IsStamp t → IsFiling f → IsFiling g → filing_line s f ≡ filing_line t g → AreSamePayload s t f g
same_filing_line s t f g is_s is_t is_f is_g e =
    let one = stamp_bytes s ++ spelling f in
    let other = stamp_bytes t ++ spelling g in
    same_payload s t f g is_s is_t is_f is_g
    (same_bytes one other (bytes-payload s f is_s) (bytes-payload t g is_t) (same_digits (encode_lower one) (encode_lower other) e))

-- ---- the line of a standing
-- numbers that 64 digits write
pub record IsWritable (r : StandingRow) : Type 0 where
  pub transaction : r.transaction < 10 ^ 64
  pub scheduled : r.scheduled < 10 ^ 64
  pub used : r.used < 10 ^ 64

whole_of-decimal : (n : ℕ) → n < 10 ^ 64 → whole_of (decimal n) ≡ Some (pos n)
whole_of-decimal n few = ap whole_of (decimal-natural_text n few) ∙ whole_of-whole_text (pos n)

is_whole-decimal : (n : ℕ) → n < 10 ^ 64 → is_whole (decimal n) ≡ true
is_whole-decimal n few = ap (λ (o : Option ℤ). is_some o) (whole_of-decimal n few)

is_whole-whole_text : (z : ℤ) → is_whole (whole_text z) ≡ true
is_whole-whole_text z = ap (λ (o : Option ℤ). is_some o) (whole_of-whole_text z)

is_amount-cents_text : (n : ℕ) → is_amount (cents_text n) ≡ true
is_amount-cents_text n = ap (λ (o : Option ℕ). is_some o) (cents_of-cents_text n)

is_formula-formula_text : (f : Formula) → is_formula (formula_text f) ≡ true
is_formula-formula_text A = refl
is_formula-formula_text B = refl
is_formula-formula_text C = refl

is_way-way_text : (w : Way) → is_way (way_text w) ≡ true
is_way-way_text Maximum = refl
is_way-way_text Calculated = refl
is_way-way_text Minimum = refl
is_way-way_text Nothing = refl

number_between : (low high n : ℕ) → low ≤ n → n ≤ high → n < 10 ^ 64 → whole_between (pos low) (pos high) (whole_of (decimal n)) ≡ Ok (pos n)
number_between low high n from to few =
    ap (whole_between (pos low) (pos high)) (whole_of-decimal n few)
    ∙ rw (int_le-true (pos low) (pos n) (omega (arith, ints, from)), int_le-true (pos n) (pos high) (omega (arith, ints, to))) refl

abbrev standing_words : ℕ → ℕ → StandingRow → List (List ℕ)
standing_words s y r =
    decimal s ∷ decimal y ∷ decimal r.transaction ∷ formula_text r.formula ∷ whole_text r.sai ∷ way_text r.way
    ∷ decimal r.scheduled ∷ cents_text r.paid ∷ decimal r.used ∷ []

visible_words : (s y : ℕ) (r : StandingRow) → s < 10 ^ 64 → y < 10 ^ 64 → IsWritable r → AllByRecursion AreVisible (codes "standing" ∷ standing_words s y r)
visible_words s y r few_s few_y is = (
  refl,
  (
    visible_decimal s few_s,
    (
      visible_decimal y few_y,
      (
        visible_decimal r.transaction is.transaction,
        (
          visible_formula r.formula,
          (
            visible_whole r.sai,
            (
              visible_way r.way,
              (visible_decimal r.scheduled is.scheduled, (visible_cents r.paid, (visible_decimal r.used is.used, tt))),
            ),
          ),
        ),
      ),
    ),
  ),
)

pub is_line-standing_line : (s y : ℕ) (r : StandingRow) → s < 10 ^ 64 → y < 10 ^ 64 → IsWritable r → IsLine (standing_line s y r)
is_line-standing_line s y r few_s few_y is = is_line-words (codes "standing") (standing_words s y r) (visible_words s y r few_s few_y is)

tests : (student year transaction formula sai way scheduled paid used : List ℕ) → is_whole transaction ≡ true → is_formula formula ≡ true → is_whole sai ≡ true → is_way way ≡ true
    → is_whole scheduled ≡ true → is_amount paid ≡ true → is_whole used ≡ true
    → form_of_standing (student ∷ year ∷ transaction ∷ formula ∷ sai ∷ way ∷ scheduled ∷ paid ∷ used ∷ [])
    ≡ form_of_student (whole_between (pos 1) (pos 999999999999) (whole_of student)) (whole_between (pos 2000) (pos 2099) (whole_of year))
tests student year transaction formula sai way scheduled paid used a b c d e f g = rw (a, b, c, d, e, f, g) refl

pub form_of-standing_line : (s y : ℕ) (r : StandingRow) → 1 ≤ s → s ≤ 999999999999 → 2000 ≤ y → y ≤ 2099 → IsWritable r → form_of (standing_line s y r) ≡ Some (standing_form s y)
form_of-standing_line s y r from_s to_s from_y to_y is =
    let few_s : s < 10 ^ 64 = omega (arith, to_s) in
    let few_y : y < 10 ^ 64 = omega (arith, to_y) in
    form_of-line (codes "standing") (standing_words s y r) (visible_words s y r few_s few_y is)
    ∙ tests (decimal s) (decimal y) (decimal r.transaction) (formula_text r.formula) (whole_text r.sai) (way_text r.way) (decimal r.scheduled) (cents_text r.paid) (decimal r.used)
    (is_whole-decimal r.transaction is.transaction) (is_formula-formula_text r.formula) (is_whole-whole_text r.sai) (is_way-way_text r.way)
    (is_whole-decimal r.scheduled is.scheduled) (is_amount-cents_text r.paid) (is_whole-decimal r.used is.used)
    ∙ ap (λ (student : Result ℤ Malformed). form_of_student student (whole_between (pos 2000) (pos 2099) (whole_of (decimal y)))) (number_between 1 999999999999 s from_s to_s few_s)
    ∙ ap (λ (year : Result ℤ Malformed). form_of_student (Ok (pos s)) year) (number_between 2000 2099 y from_y to_y few_y)

-- in their ranges, students and years have lines of their own
pub same_standing_line : (s y t z : ℕ) (r q : StandingRow) → 1 ≤ s → s ≤ 999999999999 → 2000 ≤ y → y ≤ 2099 → IsWritable r → 1 ≤ t → t ≤ 999999999999 → 2000 ≤ z → z ≤ 2099 → IsWritable q
    → standing_line s y r ≡ standing_line t z q → (s ≡ t) × (y ≡ z)
same_standing_line s y t z r q from_s to_s from_y to_y is_r from_t to_t from_z to_z is_q e =
    let same : Some (standing_form s y) ≡ Some (standing_form t z) =
    sym (form_of-standing_line s y r from_s to_s from_y to_y is_r) ∙ ap form_of e ∙ form_of-standing_line t z q from_t to_t from_z to_z is_q in
    (cc, cc)

-- ---- the last line
-- the digits of 32 bytes are those of a seal
pub is_seal-encode_lower : (bytes : List ℕ) → length bytes ≡ 32 → IsBytes bytes → is_seal (encode_lower bytes) ≡ true
is_seal-encode_lower bytes size are =
    let many : length (encode_lower bytes) ≡ 64 = omega (arith, size, length-encode_with lower_digits bytes) in
    let digits = are_digits-encode_lower bytes are in
    and_from (length (encode_lower bytes) == 64) (list_all is_digit (encode_lower bytes)) (ap (λ n. n == 64) many)
    (and_parts (length (encode_lower bytes) % 2 == 0) (list_all is_digit (encode_lower bytes)) digits).1

end_words : (n m : ℕ) (seal : List ℕ) → n < 10 ^ 64 → m < 10 ^ 64 → IsBytes seal → AllByRecursion AreVisible (codes "end" ∷ decimal n ∷ decimal m ∷ encode_lower seal ∷ [])
end_words n m seal few_n few_m are =
    (refl, (visible_decimal n few_n, (visible_decimal m few_m, (visible_digits (encode_lower seal) (are_digits-encode_lower seal are), tt))))

pub is_line-end_line : (n m : ℕ) (seal : List ℕ) → n < 10 ^ 64 → m < 10 ^ 64 → IsBytes seal → IsLine (end_line n m seal)
is_line-end_line n m seal few_n few_m are = is_line-words (codes "end") (decimal n ∷ decimal m ∷ encode_lower seal ∷ []) (end_words n m seal few_n few_m are)

end_tests : (n m seal : List ℕ) → is_whole n ≡ true → is_whole m ≡ true → is_seal seal ≡ true → form_of_end (n ∷ m ∷ seal ∷ []) ≡ Some end_form
end_tests n m seal a b c = rw (a, b, c) refl

pub form_of-end_line : (n m : ℕ) (seal : List ℕ) → n < 10 ^ 64 → m < 10 ^ 64 → length seal ≡ 32 → IsBytes seal → form_of (end_line n m seal) ≡ Some end_form
form_of-end_line n m seal few_n few_m size are =
    form_of-line (codes "end") (decimal n ∷ decimal m ∷ encode_lower seal ∷ []) (end_words n m seal few_n few_m are)
    ∙ end_tests (decimal n) (decimal m) (encode_lower seal) (is_whole-decimal n few_n) (is_whole-decimal m few_m) (is_seal-encode_lower seal size are)
