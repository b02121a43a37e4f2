-- Columns that are written piece by piece.
use Rattle.std.proofs.Common.{◌≡◌, ℕ, ◌+◌, ◌-◌, ◌/◌, ◌%◌, ◌<◌, ◌^◌, List, [], ◌∷◌, ◌++◌, length, replicate, decimal, refl, sym, ap, ◌∙◌, append_assoc, length-append, arith}
use Rattle.std.specs.Prelude.{Result, Ok, Err, OnOk, cond}
use Rattle.std.specs.Result.{is_ok}
use Rattle.std.proofs.lemmas.Fmt.{decimal_digit}
use Rattle.aid_types.specs.Cents.{cents_text}
use Rattle.aid_types.proofs.WholeLemmas.{decimal-natural_text}
use Rattle.aid_types.specs.Percents.{percent_text}
use Rattle.office_reports.specs.Columns.{right}

-- what stands at the end of a column narrows it for what stands before
right-behind : (width k : ℕ) (xs ys : List ℕ) → length ys ≡ k → right (width + k) (xs ++ ys) ≡ right width xs ++ ys
right-behind width k xs ys e =
    ap (λ n. replicate n 32 ++ (xs ++ ys)) blanks ∙ sym (append_assoc (replicate (width - length xs) 32) xs ys)
  where
    blanks : width + k - length (xs ++ ys) ≡ width - length xs
    blanks = omega (arith, length-append xs ys, e)

-- cents: the dollars in nine columns, a point and two digits
pub amount : (old : List ℕ) (cents end : ℕ) → cents < 2 ^ 64
    → old ++ right 9 (decimal (cents / 100)) ++ 46 ∷ [] ++ (48 + cents / 10 % 10) ∷ [] ++ (48 + cents % 10) ∷ [] ++ end ∷ []
    ≡ old ++ right 12 (cents_text cents) ++ end ∷ []
amount old cents end fits =
    let behind : List ℕ = 46 ∷ (48 + cents / 10 % 10) ∷ (48 + cents % 10) ∷ [] in
    let few : cents / 100 < 10 ^ 64 = omega (arith, fits) in
    let whole : right 12 (cents_text cents) ≡ right 9 (decimal (cents / 100)) ++ behind =
    ap (λ (xs : List ℕ). right 12 (xs ++ behind)) (sym (decimal-natural_text (cents / 100) few))
    ∙ right-behind 9 3 (decimal (cents / 100)) behind refl in
    rw whole (simp append_assoc)

-- tenths of a percent: the whole percents in three columns, a point and a digit
pub percent : (old : List ℕ) (tenths : ℕ)
    → old ++ right 3 (decimal (tenths / 10)) ++ 46 ∷ [] ++ (48 + tenths % 10) ∷ [] ++ 32 ∷ [] ≡ old ++ right 5 (percent_text tenths) ++ 32 ∷ []
percent old tenths =
    let digit : decimal (tenths % 10) ≡ (48 + tenths % 10) ∷ [] = decimal_digit (tenths % 10) (omega arith) in
    let behind : List ℕ = 46 ∷ (48 + tenths % 10) ∷ [] in
    let spelled : percent_text tenths ≡ decimal (tenths / 10) ++ behind =
    ap (λ (ds : List ℕ). decimal (tenths / 10) ++ 46 ∷ [] ++ ds) digit ∙ append_assoc (decimal (tenths / 10)) (46 ∷ []) ((48 + tenths % 10) ∷ []) in
    let whole : right 5 (percent_text tenths) ≡ right 3 (decimal (tenths / 10)) ++ behind =
    ap (right 5) spelled ∙ right-behind 3 2 (decimal (tenths / 10)) behind refl in
    rw whole (simp append_assoc)

-- what is appended where there is memory
pub appended : {T E : Type 0} (r : Result T E) (new more old : List ℕ) → new ≡ cond (is_ok r) more old → OnOk r (new ≡ more)
appended (Ok x) new more old e = e
appended (Err x) new more old e = tt
