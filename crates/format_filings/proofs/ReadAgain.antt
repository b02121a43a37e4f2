-- The texts of numbers are read as these numbers.
use Rattle.std.proofs.Common.{◌≡◌, inl, inr, ℕ, zero, suc, ◌+◌, ◌-◌, ◌*◌, ◌^◌, ◌≤◌, ℤ, pos, neg_ℤ, ◌≤ℤ◌, ◌+ℤ◌, Bool, true, ◌&&◌, List, [], ◌∷◌, ◌++◌, All, length, drop, map, get_or, refl, sym, ap, subst, ◌∙◌, arith}
use Rattle.std.specs.Prelude.{◌==◌, int_le, nat_le, option_map, unsigned_abs, if◌then◌else◌, Option, Some, None, Result, Ok}
use Rattle.std.specs.List.{list_all}
use Rattle.std.specs.Result.{result_map_both}
use Rattle.std.proofs.lemmas.Bool.{and_from, and_parts, cases_lt, eqb-true, le-leb}
use Rattle.std.proofs.lemmas.Int.{ints}
use Rattle.std.proofs.lemmas.List.{length-append, map-append}
use Rattle.aid_types.specs.declared.text.Malformed.{Malformed}
use Rattle.aid_types.specs.Cents.{cents_text}
use Rattle.aid_types.specs.Whole.{whole_between, whole_of, whole_text}
use Rattle.aid_types.proofs.ReadLemmas.{IsCentsReading-cents_up_to, IsWholeReading-whole_between}
use Rattle.law_terms.specs.Days.{day_text}
use Rattle.format_rows.specs.Fields.{are_as_many, count_within, day_number, fields_counted, go_on, number_in}
use Rattle.format_rows.specs.Numbers.{cause_of, refused, row_source}
use Rattle.format_rows.specs.declared.error.RowError.{RowError}
use Rattle.format_table.proofs.Laws.{IsHeld-IsNarrow, IsSound-slot, fits-IsHeld}
use Rattle.format_table.proofs.LayoutLemmas.{cut-zero}
use Rattle.format_table.proofs.WalkLaws.{found_leads, led_to}
use Rattle.format_table.specs.Forms.{are_sound, is_sound_slot, limit_holds, line_holds, may_count}
use Rattle.format_table.specs.Layout.{AreNumbers, after, cut, plain, rows, rows_again}
use Rattle.format_table.specs.Limits.{IsNarrow, fits}
use Rattle.format_table.specs.Parts.{Line, Slot}
use Rattle.format_table.specs.Walk.{Found, number_first, numbers_from}
use Rattle.format_table.specs.declared.field.Form.{Form}
use Rattle.format_table.specs.declared.field.Form.TheVariants.{U8, U16, U32, U64, I64, Cents, Day, Flag, Word, Count}
use Rattle.format_table.specs.declared.field.Limit.{Limit}
use Rattle.format_table.specs.declared.field.Limit.TheVariants.{Between, UpToLast, AboveRow, Continues, Begins}
use Rattle.format_kinds.specs.Kinds.{words_of_programs}
use Rattle.format_filings.proofs.Days.{day_again}
use Rattle.format_filings.proofs.Kept.{are_kept, keeps, keeps_all, kept_one, spells}
use Rattle.format_filings.specs.WrittenRows.{number_text, texts_of}
use Rattle.format_filings.specs.Spelled.{are_spelled, is_spelled}

abbrev Texts : Type 0
Texts = List (List ℕ)

-- ---- one number
record IsFrom (low high z : ℤ) : Type 0 where
  least : low ≤ℤ z
  most : z ≤ℤ high

is_from : (low high z : ℤ) → (int_le low z && int_le z high) ≡ true → IsFrom low high z
is_from low high z h = let x = and_parts (int_le low z) (int_le z high) h in record { least = omega (arith, ints, x.0); most = omega (arith, ints, x.1) }

whole_again : (z : ℤ) → IsNarrow z → whole_between (neg_ℤ (pos (2 ^ 63))) (pos (2 ^ 63 - 1)) (whole_of (whole_text z)) ≡ Ok z
whole_again z narrow =
    ((IsWholeReading-whole_between (neg_ℤ (pos (2 ^ 63))) (pos (2 ^ 63 - 1)) (whole_text z)).ok z).1 (refl, omega (arith, ints, narrow), omega (arith, ints, narrow))

cents_again : (z : ℤ) → is_spelled Cents z ≡ true → number_in words_of_programs Cents (cents_text (unsigned_abs z)) ≡ Ok z
cents_again z h =
    let at = is_from (pos 0) (pos 99999999) z h in
    let n = unsigned_abs z in
    let most : n ≤ 99999999 = omega (arith, ints, at.least, at.most) in
    let is : pos n ≡ z = omega (arith, ints, at.least) in
    ap (result_map_both (λ n. pos n) (λ e. e)) (((IsCentsReading-cents_up_to 99999999 (cents_text n)).ok n).1 (refl, most)) ∙ ap Ok is

date_again : (z : ℤ) → is_spelled Day z ≡ true → number_in words_of_programs Day (day_text (unsigned_abs (z +ℤ pos 25567))) ≡ Ok z
date_again z h =
    let at = is_from (neg_ℤ (pos 25567)) (pos 2932896) z h in
    let n = unsigned_abs (z +ℤ pos 25567) in
    let most : n ≤ 2958463 = omega (arith, ints, at.least, at.most) in
    let is : day_number n ≡ z = omega (arith, ints, at.least, at.most) in
    ap (result_map_both day_number (λ e. e)) (day_again n most) ∙ ap Ok is

word_at : (n : ℕ) → n ≤ 5 → number_in words_of_programs Word (get_or words_of_programs n []) ≡ Ok (pos n)
word_at n few = elim (cases_lt n 1) [
  | inl lt ↦ subst Reads (sym (is 0 (omega arith) (omega (arith, lt)))) refl
  | inr from1 ↦ elim (cases_lt n 2) [
    | inl lt ↦ subst Reads (sym (is 1 from1 (omega (arith, lt)))) refl
    | inr from2 ↦ elim (cases_lt n 3) [
      | inl lt ↦ subst Reads (sym (is 2 from2 (omega (arith, lt)))) refl
      | inr from3 ↦ elim (cases_lt n 4) [
        | inl lt ↦ subst Reads (sym (is 3 from3 (omega (arith, lt)))) refl
        | inr from4 ↦ elim (cases_lt n 5) [
          | inl lt ↦ subst Reads (sym (is 4 from4 (omega (arith, lt)))) refl
          | inr from5 ↦ subst Reads (sym (is 5 from5 few)) refl
        ]
      ]
    ]
  ]
]
  where
    Reads : ℕ → Type 0
    Reads k = number_in words_of_programs Word (get_or words_of_programs k []) ≡ Ok (pos k)

    is : (k : ℕ) → k ≤ n → n ≤ k → n ≡ k
    is k from to = omega (arith, from, to)

word_again : (z : ℤ) → is_spelled Word z ≡ true → number_in words_of_programs Word (get_or words_of_programs (unsigned_abs z) []) ≡ Ok z
word_again z h =
    let at = is_from (pos 0) (pos 5) z h in
    let is : pos (unsigned_abs z) ≡ z = omega (arith, ints, at.least) in
    word_at (unsigned_abs z) (omega (arith, ints, at.least, at.most)) ∙ ap Ok is

pub number_again : (form : Form) (z : ℤ) → is_spelled form z ≡ true → IsNarrow z → number_in words_of_programs form (number_text words_of_programs form z) ≡ Ok z
number_again U8 z h n = whole_again z n
number_again U16 z h n = whole_again z n
number_again U32 z h n = whole_again z n
number_again U64 z h n = whole_again z n
number_again I64 z h n = whole_again z n
number_again Cents z h n = cents_again z h
number_again Day z h n = date_again z h
number_again Flag z h n = whole_again z n
number_again Word z h n = word_again z h
number_again Count z h n = whole_again z n

-- ---- as many texts as the fields have
-- the fields of rows are those of one long row
record AreInRow (slots : List Slot) (count : ℕ) : Type 0 where
  lines : List Line
  are : slots ≡ map plain lines
  many : length lines ≡ count

in_row-again : (n : ℕ) (lines : List Line) → AreInRow (rows_again n lines) (n * length lines)
in_row-again zero lines = record { lines = []; are = refl; many = omega arith }
in_row-again (suc n) lines =
    let more = in_row-again n lines in
    record {
      lines = lines ++ more.lines;
      are = ap (λ (ss : List Slot). map plain lines ++ ss) more.are ∙ sym (map-append plain lines more.lines);
      many = omega (arith, length-append lines more.lines, more.many);
    }

in_row : (n : ℕ) (first later : List Line) → length first ≡ length later → AreInRow (rows n first later) (n * length first)
in_row n [] later even = record { lines = []; are = refl; many = omega arith }
in_row zero (line ∷ lines) later even = record { lines = []; are = refl; many = omega arith }
in_row (suc n) (line ∷ lines) later even =
    let more = in_row-again n later in
    let columns = length (line ∷ lines) in
    let count : columns + n * length later ≡ suc n * columns = ap (λ (k : ℕ). columns + n * k) (sym even) ∙ omega arith in
    record {
      lines = (line ∷ lines) ++ more.lines;
      are = ap (λ (ss : List Slot). map plain (line ∷ lines) ++ ss) more.are ∙ sym (map-append plain (line ∷ lines) more.lines);
      many = length-append (line ∷ lines) more.lines ∙ ap (λ (k : ℕ). columns + k) more.many ∙ count;
    }

-- the texts of a long row, and those behind it
record AreBehind (lines : List Line) (slots : List Slot) (zs : List ℤ) : Type 0 where
  few : length lines ≤ length (texts_of words_of_programs (map plain lines ++ slots) zs)
  texts : drop (length lines) (texts_of words_of_programs (map plain lines ++ slots) zs) ≡ texts_of words_of_programs slots (drop (length lines) zs)
  before : List ℤ
  are : AreNumbers slots before (drop (length lines) zs)

are_behind : (lines : List Line) (slots : List Slot) (earlier zs : List ℤ) → AreNumbers (map plain lines ++ slots) earlier zs → AreBehind lines slots zs
are_behind [] slots earlier zs are = record { few = omega arith; texts = refl; before = earlier; are = are }
are_behind (line ∷ lines) slots earlier [] are = absurd are
are_behind (line ∷ lines) slots earlier (z ∷ zs) are =
    let more = are_behind lines slots (z ∷ earlier) zs are.1 in
    record { few = omega (arith, more.few); texts = more.texts; before = more.before; are = more.are }

-- all rows that a field counts have as many fields, and it leaves all that is behind it
abbrev pub is_even : Slot → Bool
is_even slot = (length slot.first == length slot.later) && (slot.ends == 0)

no_number : (k : ℕ) → All IsNarrow []
no_number k i d below = absurd (omega arith)

is_read : (column : Line) (columns : List Line) (form : Form) (limit : Limit) (earlier : List ℤ) (z : ℤ) → limit_holds form limit ≡ true → may_count (column ∷ columns) limit ≡ true → spells form limit ≡ true → fits limit earlier z ≡ true
    → (fits limit [] z ≡ true) × (number_in words_of_programs form (number_text words_of_programs form z) ≡ Ok z)
is_read column columns form (Between low high) earlier z holds counts kept fit =
    let narrow = IsHeld-IsNarrow form z (fits-IsHeld form (Between low high) [] z holds (no_number 0) fit) in
    (fit, number_again form z (kept_one form (Between low high) [] z kept fit) narrow)
is_read column columns form (UpToLast low) earlier z holds counts kept fit = absurd cc
is_read column columns form (AboveRow high) earlier z holds counts kept fit = absurd cc
is_read column columns form (Continues high) earlier z holds counts kept fit = absurd cc
is_read column columns form (Begins high) earlier z holds counts kept fit = absurd cc

counted : (first : List Line) (line : Line) (earlier : List ℤ) (z : ℤ) → line_holds line ≡ true → may_count first line.limit ≡ true → keeps line ≡ true → fits line.limit earlier z ≡ true
    → fields_counted words_of_programs first line (number_text words_of_programs line.form z) ≡ Some (unsigned_abs z * length first)
counted [] line earlier z holds counts kept fit = let none : 0 ≡ unsigned_abs z * 0 = omega arith in ap (λ (n : ℕ). Some n) none
counted (column ∷ columns) line earlier z holds counts kept fit =
    let read = is_read column columns line.form line.limit earlier z holds counts kept fit in
    ap (λ (r : Result ℤ Malformed). option_map (λ n. n * length (column ∷ columns)) (count_within line r)) read.1
    ∙ ap (λ (b : Bool). option_map (λ n. n * length (column ∷ columns)) (if b then Some (unsigned_abs z) else None)) read.0

pub as_many : (slots : List Slot) (earlier zs : List ℤ) → are_sound slots ≡ true → are_kept slots ≡ true → list_all is_even slots ≡ true → AreNumbers slots earlier zs
    → are_as_many words_of_programs slots (texts_of words_of_programs slots zs) ≡ true
unfolding are_as_many
as_many [] earlier [] sound kept even are = refl
as_many [] earlier (z ∷ zs) sound kept even are = absurd are
as_many (slot ∷ slots) earlier [] sound kept even are = absurd are
as_many (slot ∷ slots) earlier (z ∷ zs) sound kept even are =
    let sounds = and_parts (is_sound_slot slot) (are_sound slots) sound in
    let its = IsSound-slot slot sounds.0 in
    let keep = and_parts (keeps_all slot) (are_kept slots) kept in
    let line_kept = (and_parts (keeps slot.line) (list_all keeps slot.first && list_all keeps slot.later) keep.0).0 in
    let evens = and_parts (is_even slot) (list_all is_even slots) even in
    let alike = and_parts (length slot.first == length slot.later) (slot.ends == 0) evens.0 in
    let row = in_row (unsigned_abs z) slot.first slot.later (eqb-true (length slot.first) (length slot.later) alike.0) in
    let left : cut slot.ends z slots ≡ slots = cut-zero slot.ends z slots (eqb-true slot.ends 0 alike.1) in
    let behind : after (slot ∷ slots) z ≡ map plain row.lines ++ slots = λ i. row.are i ++ left i in
    let b = are_behind row.lines slots (z ∷ earlier) zs (subst (λ (ss : List Slot). AreNumbers ss (z ∷ earlier) zs) behind are.1) in
    let texts = texts_of words_of_programs (map plain row.lines ++ slots) zs in
    let rest = as_many slots b.before (drop (length row.lines) zs) sounds.1 keep.1 evens.1 b.are in
    ap (λ (o : Option ℕ). go_on o (length slots) (λ behind. are_as_many words_of_programs slots behind) (texts_of words_of_programs (after (slot ∷ slots) z) zs))
    (counted slot.first slot.line earlier z its.line its.counts line_kept are.0 ∙ ap (λ (n : ℕ). Some n) (sym row.many))
    ∙ ap (λ (ss : List Slot). nat_le (length row.lines) (length (texts_of words_of_programs ss zs)) && are_as_many words_of_programs slots (drop (length row.lines) (texts_of words_of_programs ss zs))) behind
    ∙ and_from (nat_le (length row.lines) (length texts)) (are_as_many words_of_programs slots (drop (length row.lines) texts)) (le-leb (length row.lines) (length texts) b.few)
    (ap (are_as_many words_of_programs slots) b.texts ∙ rest)

-- ---- the numbers
abbrev found_text : ℤ → Texts → Found Texts
found_text z texts = record { number = z; rest = texts }

abbrev with_rest : ℕ → ℕ → Texts → Result ℤ Malformed → Result (Found Texts) RowError
with_rest number place texts r = result_map_both (λ z. found_text z texts) (λ e. refused number place (cause_of e)) r

narrow_rest : (z : ℤ) (zs : List ℤ) → All IsNarrow (z ∷ zs) → All IsNarrow zs
narrow_rest z zs h i d below = h (suc i) d (omega arith)

pub numbers_again : (number most : ℕ) (slots : List Slot) (earlier zs : List ℤ) → length zs ≤ most → are_spelled slots zs ≡ true → All IsNarrow zs → AreNumbers slots earlier zs
    → numbers_from (row_source words_of_programs number) most slots earlier (texts_of words_of_programs slots zs) ≡ Ok zs
unfolding numbers_from
numbers_again number most [] earlier [] few spelled narrow are = refl
numbers_again number most [] earlier (z ∷ zs) few spelled narrow are = absurd are
numbers_again number most (slot ∷ slots) earlier [] few spelled narrow are = absurd are
numbers_again number zero (slot ∷ slots) earlier (z ∷ zs) few spelled narrow are = absurd (omega (arith, few))
numbers_again number (suc most) (slot ∷ slots) earlier (z ∷ zs) few spelled narrow are =
    let both = and_parts (is_spelled slot.line.form z) (are_spelled (after (slot ∷ slots) z) zs) spelled in
    let text = number_text words_of_programs slot.line.form z in
    let texts = texts_of words_of_programs (after (slot ∷ slots) z) zs in
    let reads = number_again slot.line.form z both.0 (narrow 0 (pos 0) (omega arith)) in
    let rest = numbers_again number most (after (slot ∷ slots) z) (z ∷ earlier) zs (omega (arith, few)) both.1 (narrow_rest z zs narrow) are.1 in
    found_leads (row_source words_of_programs number) most slot slots earlier (text ∷ texts) (found_text z texts) (ap (with_rest number (length earlier + 2) texts) reads)
    ∙ ap (led_to (row_source words_of_programs number) most (slot ∷ slots) earlier (text ∷ texts) (found_text z texts)) are.0 ∙ ap (number_first z) rest
