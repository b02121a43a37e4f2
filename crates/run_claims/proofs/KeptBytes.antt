-- The bytes of a filing's numbers are those that the table of kinds gives.
use Rattle.std.proofs.Common.{◌≡◌, ℕ, ℤ, pos, false, List, [], ◌∷◌, ◌++◌, length, replicate, unsigned_abs, refl, sym, ap, ◌∙◌}
use Rattle.std.specs.Prelude.{flat_map, map}
use Rattle.std.proofs.lemmas.Bool.{true≢false}
use Rattle.std.proofs.lemmas.List.{map-append}
use Rattle.aid_types.specs.Programs.{rank}
use Rattle.format_table.specs.Spelling.{number_bytes, numbers_bytes}
use Rattle.format_table.specs.Layout.{cut, plain, rows, rows_again}
use Rattle.format_table.specs.Parts.{Line, Slot, width_of}
use Rattle.format_bytes.specs.Numbers.{day_number}
use Rattle.format_bytes.proofs.Slots.{has_none}
use Rattle.run_claims.specs.Written.{Number, bytes_of, lowest}
use Rattle.run_claims.specs.Written.Number.{whole, ranged, money, day, word}

-- in how many bytes a number is kept, and what is kept in them
abbrev width : Number → ℕ
width (whole w z) = w
width (ranged w low high n) = w
width (money cents) = 8
width (day d) = 4
width (word program) = 1

abbrev pub value : Number → ℤ
value (whole w z) = z
value (ranged w low high n) = pos n
value (money cents) = pos cents
value (day d) = day_number d
value (word program) = pos (rank program)

bytes_by_width : (n : Number) → bytes_of n ≡ lowest (width n) (value n)
bytes_by_width (whole w z) = refl
bytes_by_width (ranged w low high n) = refl
bytes_by_width (money cents) = refl
bytes_by_width (day d) = refl
bytes_by_width (word program) = refl

-- a field's width, the rows that it counts and how many at the end stand by it, and those of a number that counts none
abbrev pub Shape : Type 0
Shape = ℕ × List Line × ℕ

abbrev pub shape : Slot → Shape
shape slot = (width_of slot.line.form, slot.first, slot.ends)

abbrev pub plain_shape : Number → Shape
plain_shape n = (width n, [], 0)

-- numbers of fields that count nothing, before others
pub then_kept : (slots more : List Slot) (ns ms : List Number) (zs : List ℤ) → map shape slots ≡ map plain_shape ns → numbers_bytes more zs ≡ flat_map bytes_of ms
    → numbers_bytes (slots ++ more) (map value ns ++ zs) ≡ flat_map bytes_of (ns ++ ms)
then_kept [] more [] ms zs e k = k
then_kept [] more (n ∷ ns) ms zs e k = absurd cc
then_kept (slot ∷ slots) more [] ms zs e k = absurd cc
then_kept (slot ∷ slots) more (n ∷ ns) ms zs e k =
    let here : shape slot ≡ plain_shape n = cc in
    let rest : map shape slots ≡ map plain_shape ns = cc in
    let first : number_bytes slot.line.form (value n) ≡ bytes_of n = ap (λ (p : Shape). lowest p.0 (value n)) here ∙ sym (bytes_by_width n) in
    let none : rows (unsigned_abs (value n)) slot.first slot.later ++ cut slot.ends (value n) (slots ++ more) ≡ slots ++ more =
    ap (λ (p : Shape). rows (unsigned_abs (value n)) p.1 slot.later ++ cut p.2 (value n) (slots ++ more)) here in
    (λ i. first i ++ numbers_bytes (none i) (map value ns ++ zs)) ∙ ap (λ (bs : List ℕ). bytes_of n ++ bs) (then_kept slots more ns ms zs rest k)

-- whole numbers of one width
pub whole_shapes : (w : ℕ) (zs : List ℤ) → map plain_shape (map (whole w) zs) ≡ replicate (length zs) (w, [], 0)
whole_shapes w [] = refl
whole_shapes w (z ∷ zs) = ap (λ (l : List Shape). (w, [], 0) ∷ l) (whole_shapes w zs)

pub whole_values : (w : ℕ) (zs : List ℤ) → map value (map (whole w) zs) ≡ zs
whole_values w [] = refl
whole_values w (z ∷ zs) = ap (λ (l : List ℤ). z ∷ l) (whole_values w zs)

pub map-flat_map : {X Y Z : Type 0} (g : Y → Z) (f : X → List Y) (xs : List X) → map g (flat_map f xs) ≡ flat_map (λ x. map g (f x)) xs
map-flat_map g f [] = refl
map-flat_map {Z = Z} g f (x ∷ xs) = map-append g (f x) (flat_map f xs) ∙ ap (λ (l : List Z). map g (f x) ++ l) (map-flat_map g f xs)

-- ---- rows of a table
-- the fields of one row have the widths of its numbers
abbrev pub AreOfRow : {Row : Type 0} → (Row → List Number) → List Line → Type 0
AreOfRow {Row} numbers lines = (row : Row) → map shape (map plain lines) ≡ map plain_shape (numbers row)

shapes_again : {Row : Type 0} (numbers : Row → List Number) (lines : List Line) → AreOfRow numbers lines → (xs : List Row)
    → map shape (rows_again (length xs) lines) ≡ map plain_shape (flat_map numbers xs)
shapes_again numbers lines each [] = refl
shapes_again numbers lines each (x ∷ xs) =
    map-append shape (map plain lines) (rows_again (length xs) lines) ∙ (λ i. each x i ++ shapes_again numbers lines each xs i) ∙ sym (map-append plain_shape (numbers x) (flat_map numbers xs))

pub row_shapes : {Row : Type 0} (numbers : Row → List Number) (first later : List Line) → has_none first ≡ false → AreOfRow numbers first → AreOfRow numbers later → (xs : List Row)
    → map shape (rows (length xs) first later) ≡ map plain_shape (flat_map numbers xs)
row_shapes numbers [] later some front back xs = absurd (true≢false some)
row_shapes numbers (line ∷ lines) later some front back [] = refl
row_shapes numbers (line ∷ lines) later some front back (x ∷ xs) =
    map-append shape (map plain (line ∷ lines)) (rows_again (length xs) later) ∙ (λ i. front x i ++ shapes_again numbers later back xs i) ∙ sym (map-append plain_shape (numbers x) (flat_map numbers xs))
