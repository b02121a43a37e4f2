-- The bytes of numbers, and of rows of a table: what was read was spelled so, what was spelled is read again, and no spelling
-- begins another.
use Rattle.std.proofs.Common.{◌≡◌, ℕ, zero, suc, ◌+◌, ◌*◌, ◌≤◌, true, append_assoc, ℤ, List, [], ◌∷◌, ◌++◌, All, length, take, drop, Option, Some, None, Result, Ok, Err, refl, sym, ap, subst, ◌∙◌, arith, length-append}
use Rattle.std.specs.Prelude.{IsSome}
use Rattle.std.proofs.lemmas.Bool.{and_parts}
use Rattle.std.proofs.lemmas.List.{drop_at, take_at}
use Rattle.format_table.specs.Forms.{IsHeld, IsTable, are_sound, is_sound_slot, most_numbers}
use Rattle.format_table.specs.Layout.{AreNumbers, after}
use Rattle.format_table.specs.Limits.{IsNarrow, fits}
use Rattle.format_table.specs.Parts.{Slot, width_of}
use Rattle.format_table.specs.Tables.{IsRow, KindRow, is_sound_table, kind_at, slots_at, slots_in}
use Rattle.format_table.specs.Walk.{Found, nothing_left, number_first, numbers_from, numbers_of_slots}
use Rattle.format_table.specs.declared.field.Form.{Form}
use Rattle.format_table.proofs.Laws.{All-IsNarrow-cons, IsHeld-IsNarrow, IsSound-slot, are_sound-after, few_in, fits-IsHeld}
use Rattle.format_table.proofs.TableLaws.{IsTable-known}
use Rattle.format_table.proofs.WalkLaws.{firsts, found_leads, led_to}
use Rattle.format_table.specs.Spelling.{number_bytes, numbers_bytes, row_bytes}
use Rattle.format_table.specs.Taking.{Placed, byte_source, of_kind, place_left, placed, taken, with_code}
use Rattle.format_table.proofs.NumberLaws.{length-number_bytes, number_again, number_takes, value_again, width_at_most}
use Rattle.format_table.proofs.Widths.{AreBytes, AreBytes-drop}
use Rattle.std.specs.Int.{w64, from_le_bytes}
use Rattle.format_table.specs.Taking.{value_in}

abbrev pub done : {A : Type 0} → A → Result A ℕ
done x = Ok x

-- ---- lists of numbers
-- what the bytes say where numbers were read from all of them
pub record AllTaken (slots : List Slot) (earlier : List ℤ) (bytes : List ℕ) (zs : List ℤ) : Type 0 where
  pub spelled : bytes ≡ numbers_bytes slots zs
  pub are : AreNumbers slots earlier zs

none_left : (earlier : List ℤ) (place : ℕ) (bytes : List ℕ) (zs : List ℤ) → nothing_left (place_left place bytes) ≡ done zs → AllTaken [] earlier bytes zs
none_left earlier place [] [] e = record { spelled = refl; are = tt }
none_left earlier place [] (z ∷ zs) e = absurd cc
none_left earlier place (b ∷ bytes) zs e = absurd cc

AreBytes-behind : (front bytes all : List ℕ) → all ≡ front ++ bytes → AreBytes all → AreBytes bytes
AreBytes-behind front bytes all e are = subst AreBytes (drop_at front bytes (length front) refl) (AreBytes-drop (length front) (front ++ bytes) (subst AreBytes e are))

pub numbers_take : (most : ℕ) (slots : List Slot) (earlier : List ℤ) (at : Placed) (zs : List ℤ) → AreBytes at.bytes → numbers_from byte_source most slots earlier at ≡ done zs → AllTaken slots earlier at.bytes zs
unfolding numbers_from
numbers_take most [] earlier at zs are e = none_left earlier at.place at.bytes zs e
numbers_take zero (slot ∷ slots) earlier at zs are e = absurd cc
numbers_take (suc most) (slot ∷ slots) earlier at zs are e =
    let a = firsts byte_source most slot slots earlier at zs e in
    let first = number_takes slot.line.form at a.found are a.found_is in
    let others = numbers_take most (after (slot ∷ slots) a.found.number) (a.found.number ∷ earlier) a.found.rest a.others
    (AreBytes-behind (number_bytes slot.line.form a.found.number) a.found.rest.bytes at.bytes first are) a.others_are in
    subst (AllTaken (slot ∷ slots) earlier at.bytes) a.numbers_are (record {
      spelled = first ∙ ap (λ (bs : List ℕ). number_bytes slot.line.form a.found.number ++ bs) others.spelled;
      are = (a.within, others.are);
    })

-- slots of the table after narrow numbers
pub record AreKept (slots : List Slot) (earlier : List ℤ) : Type 0 where
  pub sound : are_sound slots ≡ true
  pub narrow : All IsNarrow earlier

is_held : (slot : Slot) (slots : List Slot) (earlier : List ℤ) (z : ℤ) → AreKept (slot ∷ slots) earlier → fits slot.line.limit earlier z ≡ true → IsHeld slot.line.form z
is_held slot slots earlier z kept f =
    fits-IsHeld slot.line.form slot.line.limit earlier z (IsSound-slot slot (and_parts (is_sound_slot slot) (are_sound slots) kept.sound).0).line kept.narrow f

AreKept-after : (slot : Slot) (slots : List Slot) (earlier : List ℤ) (z : ℤ) → AreKept (slot ∷ slots) earlier → fits slot.line.limit earlier z ≡ true → AreKept (after (slot ∷ slots) z) (z ∷ earlier)
AreKept-after slot slots earlier z kept f = record {
  sound = are_sound-after slot slots z kept.sound;
  narrow = All-IsNarrow-cons z earlier (IsHeld-IsNarrow slot.line.form z (is_held slot slots earlier z kept f)) kept.narrow;
}

pub AreKept-table : (slots : List Slot) → IsTable slots → AreKept slots []
AreKept-table slots h = record { sound = h.sound; narrow = λ k d below. absurd (omega arith) }

pub numbers_again : (most : ℕ) (slots : List Slot) (earlier : List ℤ) (place : ℕ) (zs : List ℤ) → AreKept slots earlier → AreNumbers slots earlier zs → length zs ≤ most
    → numbers_from byte_source most slots earlier (placed place (numbers_bytes slots zs)) ≡ done zs
unfolding numbers_from
numbers_again most [] earlier place [] kept are room = refl
numbers_again most [] earlier place (z ∷ zs) kept are room = absurd are
numbers_again most (slot ∷ slots) earlier place [] kept are room = absurd are
numbers_again zero (slot ∷ slots) earlier place (z ∷ zs) kept are room = absurd (omega arith)
numbers_again (suc most) (slot ∷ slots) earlier place (z ∷ zs) kept are room =
    let form = slot.line.form in
    let rest = numbers_bytes (after (slot ∷ slots) z) zs in
    let found : Found Placed = record { number = z; rest = placed (place + width_of form) rest } in
    let at = placed place (number_bytes form z ++ rest) in
    found_leads byte_source most slot slots earlier at found (number_again form place z rest (is_held slot slots earlier z kept are.0))
    ∙ ap (led_to byte_source most (slot ∷ slots) earlier at found) are.0
    ∙ ap (number_first z) (numbers_again most (after (slot ∷ slots) z) (z ∷ earlier) (place + width_of form) zs (AreKept-after slot slots earlier z kept are.0) are.1 (omega arith))

-- ---- rows: a code with its numbers
abbrev pub Row : Type 0
Row = ℕ × List ℤ

pub row_is : (a b : Row) → done a ≡ done b → (a.0 ≡ b.0) × (a.1 ≡ b.1)
row_is a b e = let same : a ≡ b = cc in (ap (λ (r : Row). r.0) same, ap (λ (r : Row). r.1) same)

with_code_ok : (code : ℕ) (read : Result (List ℤ) ℕ) (row : Row) → with_code code read ≡ done row → (code ≡ row.0) × (read ≡ Ok row.1)
with_code_ok code (Ok zs) row e = let same = row_is (code, zs) row e in (same.0, ap (λ (ys : List ℤ). Ok ys) same.1)
with_code_ok code (Err place) row e = absurd cc

record FromKind (key : List Slot) (code : ℕ) (kind : Option KindRow) (bytes : List ℕ) (row : Row) : Type 0 where
  known : IsSome kind
  code_is : code ≡ row.0
  read : numbers_of_slots byte_source (slots_in key kind) (placed 1 bytes) ≡ Ok row.1

of_kind_ok : (key : List Slot) (code : ℕ) (kind : Option KindRow) (bytes : List ℕ) (row : Row) → of_kind key code kind bytes ≡ done row → FromKind key code kind bytes row
of_kind_ok key code None bytes row e = absurd cc
of_kind_ok key code (Some kind) bytes row e =
    let h = with_code_ok code (numbers_of_slots byte_source (key ++ kind.slots) (placed 1 bytes)) row e in
    record { known = refl; code_is = h.0; read = h.1 }

AreBytes-rest : (b : ℕ) (bytes : List ℕ) → AreBytes (b ∷ bytes) → AreBytes bytes
AreBytes-rest b bytes are i = are (suc i)

-- what was read was spelled so
pub takes : (key : List Slot) (kinds : List KindRow) (code : ℕ) (zs : List ℤ) (bytes : List ℕ) → AreBytes bytes → taken key kinds bytes ≡ done (code, zs)
    → IsRow key kinds code zs × (bytes ≡ row_bytes key kinds code zs)
takes key kinds code zs [] are e = absurd cc
takes key kinds code zs (first ∷ bytes) are e =
    let h = of_kind_ok key first (kind_at kinds first) bytes (code, zs) e in
    let all = numbers_take most_numbers (slots_at key kinds first) [] (placed 1 bytes) zs (AreBytes-rest first bytes are) h.read in
    let row : IsRow key kinds first zs = record { known = h.known; are = all.are } in
    let spelled : first ∷ bytes ≡ row_bytes key kinds first zs = ap (λ (bs : List ℕ). first ∷ bs) all.spelled in
    (subst (λ c. IsRow key kinds c zs) h.code_is row, subst (λ c. first ∷ bytes ≡ row_bytes key kinds c zs) h.code_is spelled)

again_in : (key : List Slot) (code : ℕ) (kind : Option KindRow) (zs : List ℤ) → IsSome kind → IsTable (slots_in key kind) → AreNumbers (slots_in key kind) [] zs
    → of_kind key code kind (numbers_bytes (slots_in key kind) zs) ≡ done (code, zs)
again_in key code None zs known table are = absurd cc
again_in key code (Some kind) zs known table are =
    ap (with_code code) (numbers_again most_numbers (key ++ kind.slots) [] 1 zs (AreKept-table (key ++ kind.slots) table) are (few_in (key ++ kind.slots) zs table are))

-- what was spelled is read again
pub takes_again : (key : List Slot) (kinds : List KindRow) (code : ℕ) (zs : List ℤ) → is_sound_table key kinds ≡ true → IsRow key kinds code zs → taken key kinds (row_bytes key kinds code zs) ≡ done (code, zs)
takes_again key kinds code zs sound row = again_in key code (kind_at kinds code) zs row.known (IsTable-known key kinds code sound row.known) row.are

-- ---- no spelling begins another
pub record AreAlone (xs ys : List ℤ) (rest : List ℕ) : Type 0 where
  pub same : xs ≡ ys
  pub nothing : rest ≡ []

front_same : (form : Form) (x y : ℤ) (xs ys : List ℕ) → number_bytes form x ++ xs ≡ number_bytes form y ++ ys → number_bytes form x ≡ number_bytes form y
front_same form x y xs ys e =
    sym (take_at (number_bytes form x) xs (width_of form) (length-number_bytes form x)) ∙ ap (take (width_of form)) e ∙ take_at (number_bytes form y) ys (width_of form) (length-number_bytes form y)

behind_same : (form : Form) (x y : ℤ) (xs ys : List ℕ) → number_bytes form x ++ xs ≡ number_bytes form y ++ ys → xs ≡ ys
behind_same form x y xs ys e =
    sym (drop_at (number_bytes form x) xs (width_of form) (length-number_bytes form x)) ∙ ap (drop (width_of form)) e ∙ drop_at (number_bytes form y) ys (width_of form) (length-number_bytes form y)

number_same : (form : Form) (x y : ℤ) → IsHeld form x → IsHeld form y → number_bytes form x ≡ number_bytes form y → x ≡ y
number_same form x y hx hy e = sym (value_again form x hx) ∙ ap (λ bs. value_in form (from_le_bytes w64 bs)) e ∙ value_again form y hy

pub numbers_alone : (slots : List Slot) (earlier xs ys : List ℤ) (rest : List ℕ) → AreKept slots earlier → AreNumbers slots earlier xs → AreNumbers slots earlier ys → numbers_bytes slots xs ++ rest ≡ numbers_bytes slots ys → AreAlone xs ys rest
numbers_alone [] earlier [] [] rest kept p q e = record { same = refl; nothing = e }
numbers_alone [] earlier [] (y ∷ ys) rest kept p q e = absurd q
numbers_alone [] earlier (x ∷ xs) ys rest kept p q e = absurd p
numbers_alone (slot ∷ slots) earlier [] ys rest kept p q e = absurd p
numbers_alone (slot ∷ slots) earlier (x ∷ xs) [] rest kept p q e = absurd q
numbers_alone (slot ∷ slots) earlier (x ∷ xs) (y ∷ ys) rest kept p q e =
    let form = slot.line.form in
    let behind_x = numbers_bytes (after (slot ∷ slots) x) xs in
    let behind_y = numbers_bytes (after (slot ∷ slots) y) ys in
    let whole : number_bytes form x ++ (behind_x ++ rest) ≡ number_bytes form y ++ behind_y = sym (append_assoc (number_bytes form x) behind_x rest) ∙ e in
    let same : x ≡ y = number_same form x y (is_held slot slots earlier x kept p.0) (is_held slot slots earlier y kept q.0) (front_same form x y (behind_x ++ rest) behind_y whole) in
    let tail = behind_same form x y (behind_x ++ rest) behind_y whole in
    let ys_are : AreNumbers (after (slot ∷ slots) x) (x ∷ earlier) ys = subst (λ z. AreNumbers (after (slot ∷ slots) z) (z ∷ earlier) ys) (sym same) q.1 in
    let tail_same = tail ∙ ap (λ z. numbers_bytes (after (slot ∷ slots) z) ys) (sym same) in
    let others = numbers_alone (after (slot ∷ slots) x) (x ∷ earlier) xs ys rest (AreKept-after slot slots earlier x kept p.0) p.1 ys_are tail_same in
    record { same = λ i. same i ∷ others.same i; nothing = others.nothing }

head_is : (a b : ℕ) (xs ys : List ℕ) → a ∷ xs ≡ b ∷ ys → a ≡ b
head_is a b xs ys e = cc

tail_is : (a b : ℕ) (xs ys : List ℕ) → a ∷ xs ≡ b ∷ ys → xs ≡ ys
tail_is a b xs ys e = cc

-- two rows of which one begins the other are the same
pub record AreSame (code other : ℕ) (xs ys : List ℤ) (rest : List ℕ) : Type 0 where
  pub codes : code ≡ other
  pub numbers : xs ≡ ys
  pub nothing : rest ≡ []

pub rows_alone : (key : List Slot) (kinds : List KindRow) (k l : ℕ) (xs ys : List ℤ) (rest : List ℕ) → is_sound_table key kinds ≡ true → IsRow key kinds k xs → IsRow key kinds l ys
    → row_bytes key kinds k xs ++ rest ≡ row_bytes key kinds l ys → AreSame k l xs ys rest
rows_alone key kinds k l xs ys rest sound p q e =
    let slots = slots_at key kinds k in
    let code : k ≡ l = head_is k l (numbers_bytes slots xs ++ rest) (numbers_bytes (slots_at key kinds l) ys) e in
    let tail : numbers_bytes slots xs ++ rest ≡ numbers_bytes (slots_at key kinds l) ys = tail_is k l (numbers_bytes slots xs ++ rest) (numbers_bytes (slots_at key kinds l) ys) e in
    let within : AreNumbers slots [] ys = subst (λ c. AreNumbers (slots_at key kinds c) [] ys) (sym code) q.are in
    let here : numbers_bytes slots xs ++ rest ≡ numbers_bytes slots ys = tail ∙ ap (λ c. numbers_bytes (slots_at key kinds c) ys) (sym code) in
    let both = numbers_alone slots [] xs ys rest (AreKept-table slots (IsTable-known key kinds k sound p.known)) p.are within here in
    record { codes = code; numbers = both.same; nothing = both.nothing }

-- ---- how long they are
pub numbers_few : (slots : List Slot) (zs : List ℤ) → length (numbers_bytes slots zs) ≤ 8 * length zs
numbers_few slots [] = omega arith
numbers_few [] (z ∷ zs) = omega arith
numbers_few (slot ∷ slots) (z ∷ zs) =
    omega (arith, length-append (number_bytes slot.line.form z) (numbers_bytes (after (slot ∷ slots) z) zs), length-number_bytes slot.line.form z, width_at_most slot.line.form, numbers_few (after (slot ∷ slots) z) zs)

pub length-row_bytes : (key : List Slot) (kinds : List KindRow) (code : ℕ) (zs : List ℤ) → is_sound_table key kinds ≡ true → IsRow key kinds code zs → length (row_bytes key kinds code zs) ≤ 8192
length-row_bytes key kinds code zs sound row =
    omega (arith, numbers_few (slots_at key kinds code) zs, few_in (slots_at key kinds code) zs (IsTable-known key kinds code sound row.known) row.are)
