-- The place of a word, and how many fields a row has, as the code finds them.
use Rattle.std.proofs.Common.{◌≡◌, ℕ, ◌+◌, List, [], ◌∷◌, Bool, Bor, bytes_eq, length, refl, ap, ◌∙◌}
use Rattle.std.specs.Prelude.{◌*◌, ◌-◌, ◌^◌, min, not, option_map, cond, map, Some}
use Rattle.std.specs.List.{position, position_or_len}
use Rattle.std.proofs.lemmas.List.{length-map}
use Rattle.format_table.specs.Parts.{Line, line_of, lines_of}
use Rattle.format_table.specs.declared.field.Field.{Field}
use Rattle.format_rows.specs.Fields.{count_within, fields_counted, number_in}

position_or_len-map : {X Y : Type 0} (p : Y → Bool) (f : X → Y) (xs : List X) → position_or_len p (map f xs) ≡ position_or_len (λ x. p (f x)) xs
position_or_len-map p f [] = refl
position_or_len-map p f (x ∷ xs) = ap (λ n. cond (not (p (f x))) (1 + n) 0) (position_or_len-map p f xs)

position-map : {X Y : Type 0} (p : Y → Bool) (f : X → Y) (xs : List X) → position (λ x. p (f x)) xs ≡ position p (map f xs)
position-map p f xs =
    let place = position_or_len-map p f xs in
    let many = length-map xs f in
    rw (place, many) refl

-- the place of a word among words behind references
pub place_of-words : (words : List (Bor (List ℕ))) (text : List ℕ) {known : List (List ℕ)} → map (λ word. word.now) words ≡ known
    → position (λ word. bytes_eq word.now text) words ≡ position (λ word. bytes_eq word text) known
place_of-words words text e = position-map (λ word. bytes_eq word text) (λ word. word.now) words ∙ ap (position (λ word. bytes_eq word text)) e

-- the fields of the rows that a text counts
pub counted_lines : (words : List (List ℕ)) (fields : List Field) (line : Line) (text : List ℕ) (count : ℕ) → (length fields ≡ 0 → ⊥) → count_within line (number_in words line.form text) ≡ Some count
    → option_map (λ n. min n (2 ^ 64 - 1)) (fields_counted words (lines_of fields) line text) ≡ Some (min (count * length fields) (2 ^ 64 - 1))
counted_lines words [] line text count some e = absurd (some refl)
counted_lines words (f ∷ fs) line text count some e =
    let many : length (lines_of (f ∷ fs)) ≡ length (f ∷ fs) = length-map (f ∷ fs) line_of in
    ap (λ counted. option_map (λ n. min n (2 ^ 64 - 1)) (option_map (λ n. n * length (lines_of (f ∷ fs))) counted)) e ∙ ap (λ k. Some (min (count * k) (2 ^ 64 - 1))) many
