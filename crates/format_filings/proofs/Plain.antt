-- The texts of numbers have no byte that a row's format means something by.
use Rattle.std.proofs.Common.{◌≡◌, ◌≤◌, ◌+◌, ◌/◌, ◌%◌, ℕ, suc, ℤ, pos, negsuc, List, [], ◌∷◌, ◌++◌, Bool, true, false, nat_le, refl, ◌∙◌, arith}
use Rattle.std.specs.Prelude.{Some, None, if◌then◌else◌}
use Rattle.std.specs.Char.{is_ascii_digit}
use Rattle.std.specs.List.{list_all}
use Rattle.std.specs.Str.Parse.{digits_value}
use Rattle.std.proofs.lemmas.Bool.{and_from, and_parts, le-leb}
use Rattle.std.proofs.lemmas.List.Folds.{list_all-append}
use Rattle.aid_types.specs.Cents.{cents_text, fraction_text}
use Rattle.aid_types.specs.Whole.{is_natural, natural_text, whole_text}
use Rattle.aid_types.proofs.WholeLemmas.{digit_range, natural_of-natural_text}
use Rattle.law_terms.specs.Days.{day_text, month_at, year_at}
use Rattle.law_terms.specs.DayText.{date_text, two_text}

-- bytes from the hyphen on, so no comma, no quote and no end of a line
abbrev pub is_plain : List ℕ → Bool
is_plain text = list_all (λ b. nat_le 45 b) text

cell : (b : ℕ) (bs : List ℕ) → 45 ≤ b → is_plain bs ≡ true → is_plain (b ∷ bs) ≡ true
cell b bs h more = and_from (nat_le 45 b) (is_plain bs) (le-leb 45 b h) more

pub plain-append : (xs ys : List ℕ) → is_plain xs ≡ true → is_plain ys ≡ true → is_plain (xs ++ ys) ≡ true
plain-append xs ys h k = list_all-append (λ b. nat_le 45 b) xs ys ∙ and_from (is_plain xs) (is_plain ys) h k

digits_plain : (cs : List ℕ) → list_all is_ascii_digit cs ≡ true → is_plain cs ≡ true
digits_plain [] h = refl
digits_plain (c ∷ cs) h =
    let x = and_parts (is_ascii_digit c) (list_all is_ascii_digit cs) h in
    let range = digit_range c x.0 in
    cell c cs (omega arith) (digits_plain cs x.1)

natural_digits : (text : List ℕ) → is_natural text ≡ true → list_all is_ascii_digit text ≡ true
natural_digits [] h = refl
natural_digits (c ∷ []) h = and_from (is_ascii_digit c) true h refl
natural_digits (c ∷ d ∷ ds) h = (and_parts _ (list_all is_ascii_digit (c ∷ d ∷ ds)) h).1

is_one : (b : Bool) (n k : ℕ) → (if b then Some n else None) ≡ Some k → b ≡ true
is_one true n k h = refl
is_one false n k h = absurd cc

natural_plain : (n : ℕ) → is_plain (natural_text n) ≡ true
natural_plain n = digits_plain (natural_text n) (natural_digits (natural_text n) (is_one (is_natural (natural_text n)) (digits_value 10 (natural_text n)) n (natural_of-natural_text n)))

pub whole_plain : (z : ℤ) → is_plain (whole_text z) ≡ true
whole_plain (pos n) = natural_plain n
whole_plain (negsuc n) = natural_plain (suc n)

pub cents_plain : (n : ℕ) → is_plain (cents_text n) ≡ true
cents_plain n =
    plain-append (natural_text (n / 100)) (fraction_text n) (natural_plain (n / 100))
    (cell (48 + n / 10 % 10) ((48 + n % 10) ∷ []) (omega arith) (cell (48 + n % 10) [] (omega arith) refl))

two_plain : (n : ℕ) (bs : List ℕ) → is_plain bs ≡ true → is_plain ((48 + n / 10) ∷ (48 + n % 10) ∷ bs) ≡ true
two_plain n bs h = cell (48 + n / 10) ((48 + n % 10) ∷ bs) (omega arith) (cell (48 + n % 10) bs (omega arith) h)

date_plain : (y m d : ℕ) → is_plain (date_text y m d) ≡ true
date_plain y m d =
    two_plain (y / 100) (two_text (y % 100) ++ (45 ∷ (two_text m ++ (45 ∷ two_text d))))
    (two_plain (y % 100) (45 ∷ (two_text m ++ (45 ∷ two_text d)))
    (cell 45 (two_text m ++ (45 ∷ two_text d)) (omega arith) (two_plain m (45 ∷ two_text d) (cell 45 (two_text d) (omega arith) (two_plain d [] refl)))))

pub day_plain : (n : ℕ) → is_plain (day_text n) ≡ true
unfolding day_text
day_plain n = let month = month_at (year_at n) in date_plain (year_at n).0 month.0 (month.1 + 1)
