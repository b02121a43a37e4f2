-- Lines of a worksheet, piece by piece.
use Rattle.std.proofs.Common.{◌≡◌, ℕ, ◌+◌, ◌-◌, ◌/◌, ◌%◌, ◌<◌, ◌≤◌, ◌^◌, List, [], ◌∷◌, ◌++◌, length, replicate, decimal, refl, sym, ap, ◌∙◌, append_assoc, length-append, arith}
use Rattle.std.proofs.lemmas.Fmt.{decimal_digit}
use Rattle.std.proofs.lemmas.List.Concat.{flat_map-append}
use Rattle.aid_types.specs.Cents.{cents_text}
use Rattle.aid_types.specs.Percents.{percent_text}
use Rattle.aid_types.proofs.WholeLemmas.{decimal-natural_text}
use Rattle.office_reports.specs.Columns.{right}
use Rattle.sheet_r2t4.specs.ReturnLines.{line_text, lines_text}
use Rattle.sheet_r2t4.specs.declared.entry.Entry.{Entry}

-- two texts, one behind the other
pub chained : (old xs ys mid new : List ℕ) → mid ≡ old ++ xs → new ≡ mid ++ ys → new ≡ old ++ (xs ++ ys)
chained old xs ys mid new e f = f ∙ ap (λ t. t ++ ys) e ∙ append_assoc old xs ys

-- two parts of a worksheet
pub joined : (xs ys : List Entry) (old mid new : List ℕ) → mid ≡ old ++ lines_text xs → new ≡ mid ++ lines_text ys → new ≡ old ++ lines_text (xs ++ ys)
unfolding lines_text
joined xs ys old mid new e f =
    chained old (lines_text xs) (lines_text ys) mid new e f ∙ ap (λ t. old ++ t) (sym (flat_map-append line_text xs ys))

-- a part by what it is
pub pushed : (xs ys : List Entry) (old new : List ℕ) → xs ≡ ys → new ≡ old ++ lines_text xs → new ≡ old ++ lines_text ys
pushed xs ys old new e f = f ∙ ap (λ (es : List Entry). old ++ lines_text es) e

-- what stands at the end of a column narrows it for what stands before
right-behind : (width narrow k : ℕ) (xs ys : List ℕ) → width ≡ narrow + k → length ys ≡ k → right width (xs ++ ys) ≡ right narrow xs ++ ys
right-behind width narrow k xs ys w e =
    ap (λ n. replicate n 32 ++ (xs ++ ys)) blanks ∙ sym (append_assoc (replicate (narrow - length xs) 32) xs ys)
  where
    blanks : width - length (xs ++ ys) ≡ narrow - length xs
    blanks = omega (arith, length-append xs ys, w, e)

-- cents: the dollars in a column that is narrower by three, a point and two digits
pub amount : (old : List ℕ) (width cents : ℕ) → 3 ≤ width → cents < 2 ^ 128
    → old ++ right (width - 3) (decimal (cents / 100)) ++ 46 ∷ [] ++ (48 + cents / 10 % 10) ∷ [] ++ (48 + cents % 10) ∷ [] ≡ old ++ right width (cents_text cents)
amount old width cents wide fits =
    let behind : List ℕ = 46 ∷ (48 + cents / 10 % 10) ∷ (48 + cents % 10) ∷ [] in
    let few : cents / 100 < 10 ^ 64 = omega (arith, fits) in
    let narrower : width ≡ width - 3 + 3 = omega (arith, wide) in
    let whole : right width (cents_text cents) ≡ right (width - 3) (decimal (cents / 100)) ++ behind =
    ap (λ (xs : List ℕ). right width (xs ++ behind)) (sym (decimal-natural_text (cents / 100) few))
    ∙ right-behind width (width - 3) 3 (decimal (cents / 100)) behind narrower refl in
    rw whole (simp append_assoc)

-- tenths of a percent: the whole percents in a column that is narrower by two, a point and a digit
pub percent : (old : List ℕ) (tenths : ℕ)
    → old ++ right 75 (decimal (tenths / 10)) ++ 46 ∷ [] ++ (48 + tenths % 10) ∷ [] ≡ old ++ right 77 (percent_text tenths)
percent old tenths =
    let digit : decimal (tenths % 10) ≡ (48 + tenths % 10) ∷ [] = decimal_digit (tenths % 10) (omega arith) in
    let behind : List ℕ = 46 ∷ (48 + tenths % 10) ∷ [] in
    let spelled : percent_text tenths ≡ decimal (tenths / 10) ++ behind =
    ap (λ (ds : List ℕ). decimal (tenths / 10) ++ 46 ∷ [] ++ ds) digit ∙ append_assoc (decimal (tenths / 10)) (46 ∷ []) ((48 + tenths % 10) ∷ []) in
    let whole : right 77 (percent_text tenths) ≡ right 75 (decimal (tenths / 10)) ++ behind =
    ap (right 77) spelled ∙ right-behind 77 75 2 (decimal (tenths / 10)) behind refl refl in
    rw whole (simp append_assoc)
