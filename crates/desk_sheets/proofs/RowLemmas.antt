-- Words of other lengths are no row.
use Rattle.std.proofs.Common.{◌≡◌, ◌∙◌, ℕ, ◌<◌, ◌≤◌, List, [], ◌∷◌, Global, None, String, arith, length, map, refl, string_bytes, sym}
use Rattle.std.proofs.lemmas.List.{length-map}
use Rattle.desk_sheets.specs.Words.{row_in}

none_or_one : (words : List (List ℕ)) → length words < 2 → row_in words ≡ None
none_or_one [] few = refl
none_or_one (a ∷ []) few = refl
none_or_one (a ∷ b ∷ words) few = absurd (omega (arith, few))

three : (words : List (List ℕ)) → length words ≡ 3 → row_in words ≡ None
three [] is = refl
three (a ∷ []) is = refl
three (a ∷ b ∷ []) is = absurd (omega (arith, is))
three (a ∷ b ∷ c ∷ []) is = refl
three (a ∷ b ∷ c ∷ d ∷ words) is = absurd (omega (arith, is))

five : (words : List (List ℕ)) → 5 ≤ length words → row_in words ≡ None
five [] many = refl
five (a ∷ []) many = refl
five (a ∷ b ∷ []) many = absurd (omega (arith, many))
five (a ∷ b ∷ c ∷ []) many = refl
five (a ∷ b ∷ c ∷ d ∷ []) many = absurd (omega (arith, many))
five (a ∷ b ∷ c ∷ d ∷ e ∷ words) many = refl

module _ (words : List (String Global)) where
  size : length (map (string_bytes {Z = Global}) words) ≡ length words
  size = length-map words (string_bytes {Z = Global})

  pub few_words : length words < 2 → None ≡ row_in (map (string_bytes {Z = Global}) words)
  few_words few = sym (none_or_one (map (string_bytes {Z = Global}) words) (omega (arith, few, size)))

  pub three_words : length words ≡ 3 → None ≡ row_in (map (string_bytes {Z = Global}) words)
  three_words is = sym (three (map (string_bytes {Z = Global}) words) (size ∙ is))

  pub many_words : 5 ≤ length words → None ≡ row_in (map (string_bytes {Z = Global}) words)
  many_words many = sym (five (map (string_bytes {Z = Global}) words) (omega (arith, many, size)))
