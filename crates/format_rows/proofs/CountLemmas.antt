-- How many fields a row has, as the code counts them.
use Rattle.std.proofs.Common.{◌≡◌, ℕ, zero, suc, ◌+◌, ◌-◌, ◌^◌, ◌≤◌, ◌<◌, List, [], ◌∷◌, Bool, true, false, length, drop, refl, sym, ap, ◌∙◌, arith, inl, inr}
use Rattle.std.specs.Prelude.{◌&&◌, ◌==◌, ◌++◌, min, nat_eq, nat_le, option_map, Option, Some, None}
use Rattle.std.proofs.lemmas.Bool.{and_parts, cases_lt, eq-eqb, eqb-false, eqb-true, le-leb, lt-leb, ne_eqb}
use Rattle.std.proofs.lemmas.List.{drop-drop, length-drop}
use Rattle.csv.specs.Records.{field_at}
use Rattle.format_table.specs.Parts.{Line, Slot, slots_of}
use Rattle.format_table.specs.Tables.{are_plain, has_none}
use Rattle.format_table.specs.declared.field.Part.{Part}
use Rattle.format_rows.specs.Fields.{are_as_many, fields_counted, go_on}

abbrev Texts : Type 0
Texts = List (List ℕ)

-- the texts from a place on
none_at : (texts : Texts) (n : ℕ) → field_at texts n ≡ None → drop n texts ≡ []
unfolding field_at
none_at [] zero h = refl
none_at [] (suc n) h = refl
none_at (t ∷ texts) zero h = absurd cc
none_at (t ∷ texts) (suc n) h = none_at texts n h

some_at : (texts : Texts) (n : ℕ) (text : List ℕ) → field_at texts n ≡ Some text → drop n texts ≡ text ∷ drop (suc n) texts
unfolding field_at
some_at [] zero text h = absurd cc
some_at [] (suc n) text h = absurd cc
some_at (t ∷ texts) zero text h = let same : t ≡ text = cc in ap (λ (x : List ℕ). x ∷ texts) same
some_at (t ∷ texts) (suc n) text h = some_at texts n text h

-- ---- no field is to come
end_test : (n p : ℕ) (b : Bool) → p ≤ n → nat_eq n p ≡ b → b ≡ (n - p == 0)
end_test n p true h e = sym (eq-eqb (n - p) 0 (omega (arith, eqb-true n p e)))
end_test n p false h e = sym (ne_eqb (n - p) 0 (λ z. eqb-false n p e (omega (arith, h, z))))

pub is_end : (words : List (List ℕ)) (parts : List Part) (texts : Texts) (place : ℕ) → length parts ≡ 0 → place ≤ length texts → nat_eq (length texts) place ≡ are_as_many words (slots_of parts) (drop place texts)
unfolding are_as_many
is_end words [] texts place none h = end_test (length texts) place (nat_eq (length texts) place) h refl ∙ ap (λ n. n == 0) (sym (length-drop place texts))
is_end words (p ∷ ps) texts place none h = absurd (omega arith)

-- no text is to come
pub is_short : (words : List (List ℕ)) (slot : Slot) (slots : List Slot) (texts : Texts) (place : ℕ) → field_at texts place ≡ None → are_as_many words (slot ∷ slots) (drop place texts) ≡ false
unfolding are_as_many
is_short words slot slots texts place h = rw (none_at texts place h) refl

-- ---- one text more
-- a text at a place, and so many behind it
pub record IsAt (texts : Texts) (place : ℕ) (text : List ℕ) (left : ℕ) : Type 0 where
  pub there : field_at texts place ≡ Some text
  pub behind : left ≡ length texts - place - 1

-- there are texts up to that one
pub at_most : (texts : Texts) (place : ℕ) (text : List ℕ) → field_at texts place ≡ Some text → suc place ≤ length texts
at_most texts place text h = omega (arith, length-drop place texts, ap length (some_at texts place text h))

takes : (words : List (List ℕ)) (slot : Slot) (slots : List Slot) (texts : Texts) (place : ℕ) (text : List ℕ) (counted : Option ℕ) → field_at texts place ≡ Some text → fields_counted words slot.first slot.line text ≡ counted
    → are_as_many words (slot ∷ slots) (drop place texts) ≡ go_on counted (length slots) (λ behind. are_as_many words slots behind) (drop (suc place) texts)
unfolding are_as_many
takes words slot slots texts place text counted h e = rw (some_at texts place text h, ← e) refl

left_is : (texts : Texts) (place : ℕ) (text : List ℕ) (left : ℕ) → IsAt texts place text left → left ≡ length (drop (suc place) texts)
left_is texts place text left at = omega (arith, length-drop (suc place) texts, at.behind)

-- it counts no rows that can be told
pub count_is_none : (words : List (List ℕ)) (slot : Slot) (slots : List Slot) (texts : Texts) (place : ℕ) (text : List ℕ) (left : ℕ) (counted : Option ℕ) → IsAt texts place text left → fields_counted words slot.first slot.line text ≡ counted
    → None ≡ option_map (λ n. min n (2 ^ 64 - 1)) counted → nat_le (length slots) left ≡ are_as_many words (slot ∷ slots) (drop place texts)
count_is_none words slot slots texts place text left None at e h =
    ap (λ k. nat_le (length slots) k) (left_is texts place text left at) ∙ sym (takes words slot slots texts place text None at.there e)
count_is_none words slot slots texts place text left (Some n) at e h = absurd cc

some_is : (n more : ℕ) → Some more ≡ option_map (λ n. min n (2 ^ 64 - 1)) (Some n) → more ≡ min n (2 ^ 64 - 1)
some_is n more h = cc

-- it counts rows that have no room in the texts
pub rows_are_short : (words : List (List ℕ)) (slot : Slot) (slots : List Slot) (texts : Texts) (place : ℕ) (text : List ℕ) (left more : ℕ) (counted : Option ℕ) → IsAt texts place text left → fields_counted words slot.first slot.line text ≡ counted
    → Some more ≡ option_map (λ n. min n (2 ^ 64 - 1)) counted → left < more → are_as_many words (slot ∷ slots) (drop place texts) ≡ false
rows_are_short words slot slots texts place text left more None at e h long = absurd cc
rows_are_short words slot slots texts place text left more (Some n) at e h long =
    let same = some_is n more h in
    let past : nat_le n (length (drop (suc place) texts)) ≡ false = lt-leb n (length (drop (suc place) texts)) (omega (arith, same, left_is texts place text left at)) in
    takes words slot slots texts place text (Some n) at.there e ∙ rw past refl

-- it counts rows that have
pub rows_fit : (words : List (List ℕ)) (slot : Slot) (slots : List Slot) (texts : Texts) (place : ℕ) (text : List ℕ) (left more : ℕ) (counted : Option ℕ) → IsAt texts place text left → fields_counted words slot.first slot.line text ≡ counted
    → Some more ≡ option_map (λ n. min n (2 ^ 64 - 1)) counted → length texts < 2 ^ 64 → more ≤ left → are_as_many words (slot ∷ slots) (drop place texts) ≡ are_as_many words slots (drop (place + 1 + more) texts)
rows_fit words slot slots texts place text left more None at e h small fit = absurd cc
rows_fit words slot slots texts place text left more (Some n) at e h small fit =
    let capped = some_is n more h in
    let here = at_most texts place text at.there in
    let same : n ≡ more = omega (arith, capped, at.behind, here) in
    let room : nat_le n (length (drop (suc place) texts)) ≡ true = le-leb n (length (drop (suc place) texts)) (omega (arith, same, left_is texts place text left at)) in
    let onward : suc place + n ≡ place + 1 + more = omega (arith, same) in
    takes words slot slots texts place text (Some n) at.there e ∙ rw room (ap (λ k. are_as_many words slots k) (drop-drop n (suc place) texts ∙ ap (λ k. drop k texts) onward))

-- ---- behind the key
one_on : (k n : ℕ) → nat_le (suc k) (suc n) ≡ nat_le k n
one_on k n = elim (cases_lt n k) [
  | inl lt ↦ lt-leb (suc k) (suc n) (omega (arith, lt)) ∙ sym (lt-leb k n lt)
  | inr le ↦ le-leb (suc k) (suc n) (omega (arith, le)) ∙ sym (le-leb k n le)
]

first_plain : (words : List (List ℕ)) (slot : Slot) (slots : List Slot) (text : List ℕ) (texts : Texts) → has_none slot.first ≡ true → are_as_many words (slot ∷ slots) (text ∷ texts) ≡ are_as_many words slots texts
unfolding are_as_many
first_plain words slot slots text texts none = by_lines slot.first none where
  by_lines : (first : List Line) → has_none first ≡ true → go_on (fields_counted words first slot.line text) (length slots) (λ behind. are_as_many words slots behind) texts ≡ are_as_many words slots texts
  by_lines [] h = rw (le-leb 0 (length texts) (omega arith)) refl
  by_lines (line ∷ lines) h = absurd cc

-- fields that count nothing come first, each with a text
behind_plain : (words : List (List ℕ)) (key slots : List Slot) (texts : Texts) → are_plain key ≡ true → are_as_many words (key ++ slots) texts ≡ (nat_le (length key) (length texts) && are_as_many words slots (drop (length key) texts))
unfolding are_as_many
behind_plain words [] slots texts plain = rw (le-leb 0 (length texts) (omega arith)) refl
behind_plain words (k ∷ key) slots [] plain = rw (lt-leb (length (k ∷ key)) 0 (omega arith)) refl
behind_plain words (k ∷ key) slots (text ∷ texts) plain =
    let both = and_parts (has_none k.first && (k.ends == 0)) (are_plain key) plain in
    first_plain words k (key ++ slots) text texts (and_parts (has_none k.first) (k.ends == 0) both.0).0 ∙ behind_plain words key slots texts both.1
    ∙ ap (λ b. b && are_as_many words slots (drop (length key) texts)) (sym (one_on (length key) (length texts)))

-- a row has texts for the kind and the key, and so many for the others
pub key_fits : (words : List (List ℕ)) (key slots : List Slot) (texts : Texts) (before : ℕ) → are_plain key ≡ true → before ≡ 1 + length key → before ≤ length texts
    → are_as_many words (key ++ slots) (drop 1 texts) ≡ are_as_many words slots (drop before texts)
key_fits words key slots texts before plain is fit =
    let room : nat_le (length key) (length (drop 1 texts)) ≡ true = le-leb (length key) (length (drop 1 texts)) (omega (arith, length-drop 1 texts, fit, is)) in
    behind_plain words key slots (drop 1 texts) plain ∙ rw room (ap (λ k. are_as_many words slots k) (drop-drop (length key) 1 texts ∙ ap (λ n. drop n texts) (sym is)))

-- it has too few
pub key_is_short : (words : List (List ℕ)) (key slots : List Slot) (texts : Texts) (before : ℕ) → are_plain key ≡ true → before ≡ 1 + length key → 1 ≤ length texts → length texts < before
    → are_as_many words (key ++ slots) (drop 1 texts) ≡ false
key_is_short words key slots texts before plain is named short =
    let past : nat_le (length key) (length (drop 1 texts)) ≡ false = lt-leb (length key) (length (drop 1 texts)) (omega (arith, length-drop 1 texts, short, is)) in
    behind_plain words key slots (drop 1 texts) plain ∙ rw past refl
