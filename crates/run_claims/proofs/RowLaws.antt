-- A row is read as a filing just where it files it.
use Rattle.std.proofs.Common.{◌≡◌, ◌↔◌, inl, inr, ℕ, zero, suc, ◌+◌, ◌*◌, ◌≤◌, ◌<◌, ℤ, pos, ◌≤ℤ◌, Bool, true, false, ◌&&◌, List, [], ◌∷◌, ◌++◌, length, drop, map, cond, bytes_eq, refl, sym, ap, subst, ◌∙◌, append_assoc, arith}
use Rattle.std.specs.Prelude.{◌==◌, flat_map, int_le, nat_le, option_and_then, option_map, unsigned_abs, if◌then◌else◌, Option, Some, None, Result, Ok, Err, IfErr}
use Rattle.std.specs.List.{find}
use Rattle.std.specs.Result.{result_map_both}
use Rattle.std.proofs.lemmas.Bool.{and_parts, eqb-true, le-leb, lt-leb, cases_lt, true≢false}
use Rattle.std.proofs.lemmas.Int.{ints}
use Rattle.std.proofs.lemmas.List.{append-nil, drop-drop, length-drop, length-map}
use Rattle.std.proofs.lemmas.Slice.Eq.{bytes_eq-Decides}
use Rattle.aid_types.specs.declared.text.Malformed.{Malformed}
use Rattle.aid_filings.specs.declared.filing.Filing.{Filing}
use Rattle.aid_filings.specs.declared.filing.What.{What}
use Rattle.aid_filings.specs.declared.filing.What.TheVariants.{Book, School, Calendar, Prior, Apply, Enroll, Originate, Pay, Withdraw, Repay, Adjust, Cost, Sent, Amend}
use Rattle.csv.specs.Records.{field_at}
use Rattle.format_filings.proofs.RowsLemmas.{of_kind, read-are, right_count, with_kind}
use Rattle.format_rows.specs.Fields.{are_as_many, count_within, fields_counted, go_on, number_in}
use Rattle.format_rows.specs.Numbers.{cause_of, first_number, refused, row_source}
use Rattle.format_filings.specs.Rows.{has_rows, row_meaning, row_of, row_of_kind}
use Rattle.format_rows.specs.declared.error.Cause.TheVariants.{UnknownKind, WrongCount}
use Rattle.format_rows.specs.declared.error.RowError.{RowError}
use Rattle.format_kinds.proofs.Laws.{few_numbers}
use Rattle.format_table.proofs.LayoutLemmas.{cut-zero}
use Rattle.format_table.proofs.WalkLaws.{firsts, found_leads, led_to}
use Rattle.format_table.specs.Forms.{most_numbers}
use Rattle.format_kinds.specs.Kinds.{first_and_last, kind_named, kinds, name_of, slots_of_kind, table_row_of, withdraw_slots, words_of_programs}
use Rattle.format_table.specs.Layout.{AreNumbers, after, plain, rows, rows_again}
use Rattle.format_table.specs.Limits.{fits}
use Rattle.format_table.specs.Parts.{Line, Slot}
use Rattle.format_table.specs.Walk.{Found, and_then, number_first, numbers_from}
use Rattle.format_kinds.specs.Drafts.{numbers_of_kind}
use Rattle.format_table.specs.declared.field.Form.{Form}
use Rattle.format_table.specs.declared.field.Limit.{Limit}
use Rattle.format_table.specs.declared.field.Limit.TheVariants.{Between, UpToLast, AboveRow, Continues, Begins}
use Rattle.format_kinds.specs.declared.kind.Kind.{Kind}
use Rattle.format_kinds.specs.declared.kind.Kind.TheVariants as kinds_are
use Rattle.format_bytes.proofs.Slots.{rows-again}
use Rattle.format_bytes.specs.Numbers.{IsFiling, break_days, day_number, facts_of, flag_number, kind_of, numbers_of}
use Rattle.run_claims.specs.Written.{CanBeFiled, Files, HasLists, Number, Spell, numbers_of as plain_numbers, written, whole, money, day}
use Rattle.format_bytes.proofs.Same.{same_filing}
use Rattle.run_claims.proofs.FilingRanges.{can_be_filed, is_filing}
use Rattle.run_claims.proofs.Texts.{greatest, has_form, least, read_spells, spelled_reads}
use Rattle.run_claims.proofs.KeptBytes.{value}

abbrev Texts : Type 0
Texts = List (List ℕ)

-- ---- what fields take these numbers
-- a limit from one number to another, within these
abbrev reaches : ℤ → ℤ → Limit → Bool
reaches low high (Between least greatest) = int_le low least && int_le greatest high
reaches low high _ = false

abbrev takes : Line → Number → Bool
takes line n = has_form n line.form && reaches (least n) (greatest n) line.limit

-- all rows that a field counts have as many fields, and it leaves all that is behind it
abbrev is_even : Slot → Bool
is_even slot = (length slot.first == length slot.later) && (slot.ends == 0)

-- whether these numbers are those of the fields to come
abbrev take_all : List Slot → List Number → Bool
take_all [] [] = true
take_all (slot ∷ slots) (n ∷ ns) = takes slot.line n && (is_even slot && take_all (after (slot ∷ slots) (value n)) ns)
take_all _ _ = false

record Takes (slot : Slot) (slots : List Slot) (n : Number) (ns : List Number) : Type 0 where
  form : has_form n slot.line.form ≡ true
  reach : reaches (least n) (greatest n) slot.line.limit ≡ true
  even : length slot.first ≡ length slot.later
  ends : slot.ends ≡ 0
  rest : take_all (after (slot ∷ slots) (value n)) ns ≡ true

takes_first : (slot : Slot) (slots : List Slot) (n : Number) (ns : List Number) → take_all (slot ∷ slots) (n ∷ ns) ≡ true → Takes slot slots n ns
takes_first slot slots n ns h =
    let x = and_parts (takes slot.line n) (is_even slot && take_all (after (slot ∷ slots) (value n)) ns) h in
    let y = and_parts (has_form n slot.line.form) (reaches (least n) (greatest n) slot.line.limit) x.0 in
    let z = and_parts (is_even slot) (take_all (after (slot ∷ slots) (value n)) ns) x.1 in
    let both = and_parts (length slot.first == length slot.later) (slot.ends == 0) z.0 in
    record { form = y.0; reach = y.1; even = eqb-true (length slot.first) (length slot.later) both.0; ends = eqb-true slot.ends 0 both.1; rest = z.1 }

-- a number within such a limit, whatever stands before it
record Reached (low high : ℤ) (limit : Limit) (z : ℤ) : Type 0 where
  above : low ≤ℤ z
  below : z ≤ℤ high
  alone : fits limit [] z ≡ true

reached : (low high : ℤ) (limit : Limit) (earlier : List ℤ) (z : ℤ) → reaches low high limit ≡ true → fits limit earlier z ≡ true → Reached low high limit z
reached low high (Between least greatest) earlier z r f =
    let x = and_parts (int_le low least) (int_le greatest high) r in
    let y = and_parts (int_le least z) (int_le z greatest) f in
    record { above = omega (arith, ints, x.0, y.0); below = omega (arith, ints, x.1, y.1); alone = f }
reached low high (UpToLast least) earlier z r f = absurd cc
reached low high (AboveRow greatest) earlier z r f = absurd cc
reached low high (Continues greatest) earlier z r f = absurd cc
reached low high (Begins greatest) earlier z r f = absurd cc

-- ---- how many texts
-- so many texts, and behind them as the fields behind
abbrev with_front : ℕ → List Slot → Texts → Bool
with_front n slots texts = nat_le n (length texts) && are_as_many words_of_programs slots (drop n texts)

none_in_front : (slots : List Slot) (texts : Texts) → are_as_many words_of_programs slots texts ≡ with_front 0 slots texts
none_in_front slots texts = let least = le-leb 0 (length texts) (omega arith) in rw least refl

-- so many, and so many more
front_twice : (a b : ℕ) (slots : List Slot) (texts : Texts) → (nat_le a (length texts) && with_front b slots (drop a texts)) ≡ with_front (a + b) slots texts
front_twice a b slots texts = elim (cases_lt (length texts) (a + b)) [
  | inl short ↦ too_short a b slots texts short
  | inr room ↦
      let first = le-leb a (length texts) (omega arith) in
      let more = le-leb b (length (drop a texts)) (omega (arith, length-drop a texts)) in
      let both = le-leb (a + b) (length texts) room in
      rw (first, more, both) (ap (are_as_many words_of_programs slots) (drop-drop b a texts))
]
  where
    too_short : (a b : ℕ) (slots : List Slot) (texts : Texts) → length texts < a + b → (nat_le a (length texts) && with_front b slots (drop a texts)) ≡ with_front (a + b) slots texts
    too_short a b slots texts short =
        let both = lt-leb (a + b) (length texts) short in
        elim (cases_lt (length texts) a) [
          | inl few ↦ let first = lt-leb a (length texts) few in rw (first, both) refl
          | inr room ↦
              let first = le-leb a (length texts) room in
              let more = lt-leb b (length (drop a texts)) (omega (arith, length-drop a texts)) in
              rw (first, more, both) refl
        ]

one_longer : (n m : ℕ) → nat_le n m ≡ nat_le (suc n) (suc m)
one_longer n m = elim (cases_lt m n) [
  | inl short ↦ lt-leb n m short ∙ sym (lt-leb (suc n) (suc m) (omega arith))
  | inr room ↦ le-leb n m room ∙ sym (le-leb (suc n) (suc m) (omega arith))
]

-- the fields of a row
plain_front : (lines : List Line) (slots : List Slot) (texts : Texts) → are_as_many words_of_programs (map plain lines ++ slots) texts ≡ with_front (length lines) slots texts
unfolding are_as_many
plain_front [] slots texts = none_in_front slots texts
plain_front (line ∷ lines) slots [] = let none = lt-leb (length (line ∷ lines)) 0 (omega arith) in rw none refl
plain_front (line ∷ lines) slots (text ∷ texts) =
    sym (none_in_front (map plain lines ++ slots) texts) ∙ plain_front lines slots texts
    ∙ ap (λ (b : Bool). b && are_as_many words_of_programs slots (drop (length lines) texts)) (one_longer (length lines) (length texts))

-- the fields of rows that are alike, and those of rows the first of which is of its own
rows_again_front : (n : ℕ) (lines : List Line) (slots : List Slot) (texts : Texts) → are_as_many words_of_programs (rows_again n lines ++ slots) texts ≡ with_front (n * length lines) slots texts
rows_again_front zero lines slots texts = let none : 0 ≡ 0 * length lines = omega arith in none_in_front slots texts ∙ ap (λ (n : ℕ). with_front n slots texts) none
rows_again_front (suc n) lines slots texts =
    let more : length lines + n * length lines ≡ suc n * length lines = omega arith in
    ap (λ (ss : List Slot). are_as_many words_of_programs ss texts) (append_assoc (map plain lines) (rows_again n lines) slots)
    ∙ plain_front lines (rows_again n lines ++ slots) texts
    ∙ ap (λ (b : Bool). nat_le (length lines) (length texts) && b) (rows_again_front n lines slots (drop (length lines) texts))
    ∙ front_twice (length lines) (n * length lines) slots texts
    ∙ ap (λ (n : ℕ). with_front n slots texts) more

rows_front : (n : ℕ) (first later : List Line) (slots : List Slot) (texts : Texts) → length first ≡ length later → are_as_many words_of_programs (rows n first later ++ slots) texts ≡ with_front (n * length first) slots texts
rows_front n [] later slots texts e = let none : 0 ≡ n * 0 = omega arith in none_in_front slots texts ∙ ap (λ (n : ℕ). with_front n slots texts) none
rows_front zero (line ∷ lines) later slots texts e =
    let none : 0 ≡ 0 * length (line ∷ lines) = omega arith in none_in_front slots texts ∙ ap (λ (n : ℕ). with_front n slots texts) none
rows_front (suc n) (line ∷ lines) later slots texts e =
    let columns = length (line ∷ lines) in
    let more : columns + n * length later ≡ suc n * columns = ap (λ (k : ℕ). columns + n * k) (sym e) ∙ omega arith in
    ap (λ (ss : List Slot). are_as_many words_of_programs ss texts) (append_assoc (map plain (line ∷ lines)) (rows_again n later) slots)
    ∙ plain_front (line ∷ lines) (rows_again n later ++ slots) texts
    ∙ ap (λ (b : Bool). nat_le columns (length texts) && b) (rows_again_front n later slots (drop columns texts))
    ∙ front_twice columns (n * length later) slots texts
    ∙ ap (λ (n : ℕ). with_front n slots texts) more

-- how many fields the rows have that a text counts
counted : (first : List Line) (line : Line) (text : List ℕ) (z : ℤ) → fits line.limit [] z ≡ true → number_in words_of_programs line.form text ≡ Ok z → fields_counted words_of_programs first line text ≡ Some (unsigned_abs z * length first)
counted [] line text z fit is = let none : 0 ≡ unsigned_abs z * 0 = omega arith in ap (λ (n : ℕ). Some n) none
counted (column ∷ columns) line text z fit is =
    ap (λ (r : Result ℤ Malformed). option_map (λ n. n * length (column ∷ columns)) (count_within line r)) is
    ∙ ap (λ (b : Bool). option_map (λ n. n * length (column ∷ columns)) (if b then Some (unsigned_abs z) else None)) fit

-- one text more
one_text : (slot : Slot) (slots : List Slot) (text : List ℕ) (texts : Texts) (z : ℤ) → length slot.first ≡ length slot.later → slot.ends ≡ 0 → fits slot.line.limit [] z ≡ true → number_in words_of_programs slot.line.form text ≡ Ok z
    → are_as_many words_of_programs (slot ∷ slots) (text ∷ texts) ≡ are_as_many words_of_programs (after (slot ∷ slots) z) texts
unfolding are_as_many
one_text slot slots text texts z even none fit is =
    ap (λ (o : Option ℕ). go_on o (length slots) (λ behind. are_as_many words_of_programs slots behind) texts) (counted slot.first slot.line text z fit is)
    ∙ sym (rows_front (unsigned_abs z) slot.first slot.later slots texts even)
    ∙ ap (λ (s : List Slot). are_as_many words_of_programs (rows (unsigned_abs z) slot.first slot.later ++ s) texts) (sym (cut-zero slot.ends z slots none))

-- ---- numbers that are read are spelled
abbrev found_text : ℤ → Texts → Found Texts
found_text z texts = record { number = z; rest = texts }

abbrev with_rest : ℕ → ℕ → Texts → Result ℤ Malformed → Result (Found Texts) RowError
with_rest number place texts r = result_map_both (λ z. found_text z texts) (λ e. refused number place (cause_of e)) r

found_in : (number place : ℕ) (texts : Texts) (r : Result ℤ Malformed) (found : Found Texts) → with_rest number place texts r ≡ Ok found → (r ≡ Ok found.number) × (found.rest ≡ texts)
found_in number place texts (Ok z) found h =
    let same : found_text z texts ≡ found = cc in
    (ap (λ (f : Found Texts). Ok f.number) same, sym (ap (λ (f : Found Texts). f.rest) same))
found_in number place texts (Err e) found h = absurd cc

record FirstRead (number most : ℕ) (slot : Slot) (slots : List Slot) (earlier : List ℤ) (text : List ℕ) (texts : Texts) (z : ℤ) (zs : List ℤ) : Type 0 where
  reads : number_in words_of_programs slot.line.form text ≡ Ok z
  within : fits slot.line.limit earlier z ≡ true
  rest : numbers_from (row_source words_of_programs number) most (after (slot ∷ slots) z) (z ∷ earlier) texts ≡ Ok zs

-- the number of the first text, and those behind it
first_read : (number most : ℕ) (slot : Slot) (slots : List Slot) (earlier : List ℤ) (text : List ℕ) (texts : Texts) (z : ℤ) (zs : List ℤ)
    → numbers_from (row_source words_of_programs number) (suc most) (slot ∷ slots) earlier (text ∷ texts) ≡ Ok (z ∷ zs) → FirstRead number most slot slots earlier text texts z zs
first_read number most slot slots earlier text texts z zs h =
    let f = firsts (row_source words_of_programs number) most slot slots earlier (text ∷ texts) (z ∷ zs) h in
    let at = found_in number (length earlier + 2) texts (number_in words_of_programs slot.line.form text) f.found f.found_is in
    let all = f.numbers_are in
    let is : f.found.number ≡ z = cc all in
    let others : f.others ≡ zs = cc all in
    let from = λ (x : ℤ) (ts : Texts). numbers_from (row_source words_of_programs number) most (after (slot ∷ slots) x) (x ∷ earlier) ts in
    record {
      reads = at.0 ∙ ap (λ (x : ℤ). Ok x) is;
      within = subst (λ (x : ℤ). fits slot.line.limit earlier x ≡ true) is f.within;
      rest = (λ i. from (sym is i) (sym at.1 i)) ∙ (f.others_are ∙ ap (λ (ys : List ℤ). Ok ys) others);
    }

none_read : (number : ℕ) (slot : Slot) (slots : List Slot) (earlier : List ℤ) (texts : Texts) (zs : List ℤ) → numbers_from (row_source words_of_programs number) zero (slot ∷ slots) earlier texts ≡ Ok zs → ⊥
unfolding numbers_from
none_read number slot slots earlier texts zs h = cc

too_many : (text : List ℕ) (texts : Texts) → are_as_many words_of_programs [] (text ∷ texts) ≡ true → ⊥
unfolding are_as_many
too_many text texts many = omega (arith, eqb-true (length (text ∷ texts)) 0 many)

-- each text spells the number that was read of it
spelled : (number most : ℕ) (slots : List Slot) (earlier : List ℤ) (texts : Texts) (ns : List Number) → take_all slots ns ≡ true → are_as_many words_of_programs slots texts ≡ true
    → numbers_from (row_source words_of_programs number) most slots earlier texts ≡ Ok (map value ns) → Spell ns texts
unfolding are_as_many
spelled number most [] earlier [] [] t many h = tt
spelled number most [] earlier (text ∷ texts) [] t many h = absurd (too_many text texts many)
spelled number most (slot ∷ slots) earlier texts [] t many h = absurd (true≢false (sym t))
spelled number most [] earlier texts (n ∷ ns) t many h = absurd (true≢false (sym t))
spelled number most (slot ∷ slots) earlier [] (n ∷ ns) t many h = absurd (true≢false (sym many))
spelled number zero (slot ∷ slots) earlier (text ∷ texts) (n ∷ ns) t many h = absurd (none_read number slot slots earlier (text ∷ texts) (map value (n ∷ ns)) h)
spelled number (suc most) (slot ∷ slots) earlier (text ∷ texts) (n ∷ ns) t many h =
    let taken = takes_first slot slots n ns t in
    let first = first_read number most slot slots earlier text texts (value n) (map value ns) h in
    let near = reached (least n) (greatest n) slot.line.limit earlier (value n) taken.reach first.within in
    let more = sym (one_text slot slots text texts (value n) taken.even taken.ends near.alone first.reads) ∙ many in
    (read_spells n slot.line.form text taken.form first.reads, spelled number most (after (slot ∷ slots) (value n)) (value n ∷ earlier) texts ns taken.rest more first.rest)

-- ---- and spelled ones are read
record AreRead (number most : ℕ) (slots : List Slot) (earlier : List ℤ) (texts : Texts) (zs : List ℤ) : Type 0 where
  many : are_as_many words_of_programs slots texts ≡ true
  numbers : numbers_from (row_source words_of_programs number) most slots earlier texts ≡ Ok zs

read_first : (number most : ℕ) (slot : Slot) (slots : List Slot) (earlier : List ℤ) (text : List ℕ) (texts : Texts) (z : ℤ) (zs : List ℤ) → number_in words_of_programs slot.line.form text ≡ Ok z → fits slot.line.limit earlier z ≡ true
    → numbers_from (row_source words_of_programs number) most (after (slot ∷ slots) z) (z ∷ earlier) texts ≡ Ok zs → numbers_from (row_source words_of_programs number) (suc most) (slot ∷ slots) earlier (text ∷ texts) ≡ Ok (z ∷ zs)
read_first number most slot slots earlier text texts z zs reads within rest =
    found_leads (row_source words_of_programs number) most slot slots earlier (text ∷ texts) (found_text z texts) (ap (with_rest number (length earlier + 2) texts) reads)
    ∙ ap (led_to (row_source words_of_programs number) most (slot ∷ slots) earlier (text ∷ texts) (found_text z texts)) within ∙ ap (number_first z) rest

-- texts that spell numbers of these fields are as many, and are read as them
are_read : (number most : ℕ) (slots : List Slot) (earlier : List ℤ) (texts : Texts) (ns : List Number) → length ns ≤ most → take_all slots ns ≡ true → AreNumbers slots earlier (map value ns) → Spell ns texts
    → AreRead number most slots earlier texts (map value ns)
unfolding are_as_many numbers_from
are_read number most [] earlier [] [] few t are s = record { many = refl; numbers = refl }
are_read number most [] earlier (text ∷ texts) [] few t are s = absurd s
are_read number most (slot ∷ slots) earlier texts [] few t are s = absurd (true≢false (sym t))
are_read number most [] earlier texts (n ∷ ns) few t are s = absurd (true≢false (sym t))
are_read number most (slot ∷ slots) earlier [] (n ∷ ns) few t are s = absurd s
are_read number zero (slot ∷ slots) earlier (text ∷ texts) (n ∷ ns) few t are s = absurd (omega arith)
are_read number (suc most) (slot ∷ slots) earlier (text ∷ texts) (n ∷ ns) few t are s =
    let taken = takes_first slot slots n ns t in
    let near = reached (least n) (greatest n) slot.line.limit earlier (value n) taken.reach are.0 in
    let reads = spelled_reads n slot.line.form text taken.form near.above near.below s.0 in
    let more = are_read number most (after (slot ∷ slots) (value n)) (value n ∷ earlier) texts ns (omega arith) taken.rest are.1 s.1 in
    record {
      many = one_text slot slots text texts (value n) taken.even taken.ends near.alone reads ∙ more.many;
      numbers = read_first number most slot slots earlier text texts (value n) (map value ns) reads are.0 more.numbers;
    }

-- ---- the numbers of a filing, as the table of kinds has them
break_numbers : (breaks : List (ℕ × ℕ)) → map value (flat_map (λ days. day days.0 ∷ day days.1 ∷ []) breaks) ≡ flat_map break_days breaks
break_numbers [] = refl
break_numbers (b ∷ breaks) = ap (λ (zs : List ℤ). day_number b.0 ∷ day_number b.1 ∷ zs) (break_numbers breaks)

money_numbers : (cents : List ℕ) → map value (map money cents) ≡ map (λ n. pos n) cents
money_numbers [] = refl
money_numbers (n ∷ ns) = ap (λ (zs : List ℤ). pos n ∷ zs) (money_numbers ns)

-- the values are the numbers behind those of the key
values : (what : What) → 1 < (written what).0 → map value (written what).2 ≡ facts_of what
unfolding facts_of
values (Book x) has = absurd (omega arith)
values (School x) has = refl
values (Calendar x) has =
    ap (λ (zs : List ℤ). pos x.year ∷ pos x.term ∷ value (whole 1 (flag_number x.extra)) ∷ day_number x.first ∷ day_number x.last ∷ pos (length x.breaks) ∷ zs) (break_numbers x.breaks)
values (Prior x) has = refl
values (Apply x) has = refl
values (Enroll x) has = refl
values (Originate x) has = refl
values (Pay x) has = refl
values (Withdraw x) has = ap (λ (zs : List ℤ). pos x.student ∷ pos x.year ∷ pos x.term ∷ day_number x.last ∷ day_number x.determined ∷ pos x.charges ∷ zs) (money_numbers x.could)
values (Repay x) has = refl
values (Adjust x) has = refl
values (Cost x) has = refl
values (Sent x) has = refl
values (Amend x) has = refl

-- each number stands in its field
breaks_taken : (breaks : List (ℕ × ℕ)) → take_all (rows_again (length breaks) first_and_last) (flat_map (λ days. day days.0 ∷ day days.1 ∷ []) breaks) ≡ true
breaks_taken [] = refl
breaks_taken (b ∷ breaks) = breaks_taken breaks

counted_taken : (breaks : List (ℕ × ℕ)) → take_all (rows (length breaks) first_and_last first_and_last ++ []) (flat_map (λ days. day days.0 ∷ day days.1 ∷ []) breaks) ≡ true
counted_taken breaks =
    ap (λ (slots : List Slot). take_all slots (flat_map (λ days. day days.0 ∷ day days.1 ∷ []) breaks)) (append-nil (rows (length breaks) first_and_last first_and_last) ∙ rows-again (length breaks) first_and_last refl)
    ∙ breaks_taken breaks

could_taken : (could : List ℕ) → length could ≡ 6 → take_all (drop 6 withdraw_slots) (map money could) ≡ true
could_taken (a ∷ b ∷ c ∷ d ∷ e ∷ f ∷ []) len = refl
could_taken could len = absurd (omega arith)

taken : (what : What) → HasLists what → 1 < (written what).0 → take_all (table_row_of (kind_of what)).slots (written what).2 ≡ true
unfolding table_row_of
taken (Book x) lists has = absurd (omega arith)
taken (School x) lists has = refl
taken (Calendar x) lists has = counted_taken x.breaks
taken (Prior x) lists has = refl
taken (Apply x) lists has = refl
taken (Enroll x) lists has = refl
taken (Originate x) lists has = refl
taken (Pay x) lists has = refl
taken (Withdraw x) lists has = could_taken x.could lists
taken (Repay x) lists has = refl
taken (Adjust x) lists has = refl
taken (Cost x) lists has = refl
taken (Sent x) lists has = refl
taken (Amend x) lists has = refl

name_is : (what : What) → (written what).1 ≡ name_of (kind_of what)
unfolding table_row_of
name_is (Book x) = refl
name_is (School x) = refl
name_is (Calendar x) = refl
name_is (Prior x) = refl
name_is (Apply x) = refl
name_is (Enroll x) = refl
name_is (Originate x) = refl
name_is (Pay x) = refl
name_is (Withdraw x) = refl
name_is (Repay x) = refl
name_is (Adjust x) = refl
name_is (Cost x) = refl
name_is (Sent x) = refl
name_is (Amend x) = refl

-- a filing has a row unless it is a book
has_row : (what : What) → has_rows (kind_of what) ≡ true → 1 < (written what).0
has_row (Book x) h = absurd cc
has_row (School x) h = omega arith
has_row (Calendar x) h = omega arith
has_row (Prior x) h = omega arith
has_row (Apply x) h = omega arith
has_row (Enroll x) h = omega arith
has_row (Originate x) h = omega arith
has_row (Pay x) h = omega arith
has_row (Withdraw x) h = omega arith
has_row (Repay x) h = omega arith
has_row (Adjust x) h = omega arith
has_row (Cost x) h = omega arith
has_row (Sent x) h = omega arith
has_row (Amend x) h = omega arith

is_row : (what : What) → 1 < (written what).0 → has_rows (kind_of what) ≡ true
is_row (Book x) h = absurd (omega arith)
is_row (School x) h = refl
is_row (Calendar x) h = refl
is_row (Prior x) h = refl
is_row (Apply x) h = refl
is_row (Enroll x) h = refl
is_row (Originate x) h = refl
is_row (Pay x) h = refl
is_row (Withdraw x) h = refl
is_row (Repay x) h = refl
is_row (Adjust x) h = refl
is_row (Cost x) h = refl
is_row (Sent x) h = refl
is_row (Amend x) h = refl

all_values : (f : Filing) → 1 < (written f.what).0 → map value (plain_numbers f) ≡ numbers_of f
all_values f has = ap (λ (zs : List ℤ). pos f.key.school ∷ pos f.key.number ∷ zs) (values f.what has)

all_taken : (f : Filing) → HasLists f.what → 1 < (written f.what).0 → take_all (slots_of_kind (kind_of f.what)) (plain_numbers f) ≡ true
all_taken f lists has = taken f.what lists has

-- ---- a row
-- what a row that is read says
record Means (number : ℕ) (name : List ℕ) (texts : Texts) (kind : Kind) (zs : List ℤ) : Type 0 where
  named : kind_named name ≡ Some kind
  has : has_rows kind ≡ true
  many : are_as_many words_of_programs (slots_of_kind kind) texts ≡ true
  numbers : numbers_of_kind (row_source words_of_programs number) kind texts ≡ Ok zs

means_read : (number : ℕ) (name : List ℕ) (texts : Texts) (kind k : Kind) (zs : List ℤ) (r : Result (List ℤ) RowError) → kind_named name ≡ Some k → has_rows k ≡ true → are_as_many words_of_programs (slots_of_kind k) texts ≡ true
    → numbers_of_kind (row_source words_of_programs number) k texts ≡ r → with_kind k r ≡ Ok (kind, zs) → Means number name texts kind zs
means_read number name texts kind k zs (Err e) named has many numbers h = absurd cc
means_read number name texts kind k zs (Ok ys) named has many numbers h =
    let both : (k, ys) ≡ (kind, zs) = cc in
    let is : k ≡ kind = ap (λ (row : Kind × List ℤ). row.0) both in
    let all : ys ≡ zs = ap (λ (row : Kind × List ℤ). row.1) both in
    record {
      named = named ∙ ap (λ (x : Kind). Some x) is;
      has = ap has_rows (sym is) ∙ has;
      many = ap (λ (x : Kind). are_as_many words_of_programs (slots_of_kind x) texts) (sym is) ∙ many;
      numbers = ap (λ (x : Kind). numbers_of_kind (row_source words_of_programs number) x texts) (sym is) ∙ (numbers ∙ ap (λ (xs : List ℤ). Ok xs) all);
    }

means_counted : (number : ℕ) (name : List ℕ) (texts : Texts) (kind k : Kind) (zs : List ℤ) (b : Bool) → kind_named name ≡ Some k → has_rows k ≡ true → are_as_many words_of_programs (slots_of_kind k) texts ≡ b
    → (if b then with_kind k (numbers_of_kind (row_source words_of_programs number) k texts) else Err (refused number 0 WrongCount)) ≡ Ok (kind, zs) → Means number name texts kind zs
means_counted number name texts kind k zs true named has many h = means_read number name texts kind k zs (numbers_of_kind (row_source words_of_programs number) k texts) named has many refl h
means_counted number name texts kind k zs false named has many h = absurd cc

means_of_kind : (number : ℕ) (name : List ℕ) (texts : Texts) (kind k : Kind) (zs : List ℤ) (b : Bool) → kind_named name ≡ Some k → has_rows k ≡ b
    → (if b then row_of_kind number k texts else Err (refused number 1 UnknownKind)) ≡ Ok (kind, zs) → Means number name texts kind zs
unfolding row_of_kind
means_of_kind number name texts kind k zs true named has h = means_counted number name texts kind k zs (are_as_many words_of_programs (slots_of_kind k) texts) named has refl h
means_of_kind number name texts kind k zs false named has h = absurd cc

means_named : (number : ℕ) (name : List ℕ) (texts : Texts) (kind : Kind) (zs : List ℤ) (o : Option Kind) → kind_named name ≡ o → row_of number (name ∷ texts) o ≡ Ok (kind, zs) → Means number name texts kind zs
means_named number name texts kind zs None named h = absurd cc
means_named number name texts kind zs (Some k) named h = means_of_kind number name texts kind k zs (has_rows k) named refl h

means : (number : ℕ) (name : List ℕ) (texts : Texts) (kind : Kind) (zs : List ℤ) → row_meaning number (name ∷ texts) ≡ Ok (kind, zs) → Means number name texts kind zs
unfolding field_at
means number name texts kind zs h = means_named number name texts kind zs (kind_named name) refl h

no_meaning : (number : ℕ) (kind : Kind) (zs : List ℤ) → row_meaning number [] ≡ Ok (kind, zs) → ⊥
unfolding field_at
no_meaning number kind zs h = cc

-- the name of a kind
found_passes : (p : Kind → Bool) (ks : List Kind) (k : Kind) → find p ks ≡ Some k → p k ≡ true
found_passes p [] k h = absurd cc
found_passes p (x ∷ ks) k h = by (p x) refl h (found_passes p ks k)
  where
    by : (b : Bool) → p x ≡ b → cond b (Some x) (find p ks) ≡ Some k → (find p ks ≡ Some k → p k ≡ true) → p k ≡ true
    by true e h more = let same : x ≡ k = cc in ap p (sym same) ∙ e
    by false e h more = more h

kind_is : (name : List ℕ) (kind : Kind) → kind_named name ≡ Some kind → name_of kind ≡ name
kind_is name kind h = (bytes_eq-Decides (name_of kind) name).0 (found_passes (λ kind. bytes_eq (name_of kind) name) kinds kind h)

its_name : (kind : Kind) → kind_named (name_of kind) ≡ Some kind
unfolding table_row_of
its_name kinds_are.Book = refl
its_name kinds_are.School = refl
its_name kinds_are.Calendar = refl
its_name kinds_are.Prior = refl
its_name kinds_are.Apply = refl
its_name kinds_are.Enroll = refl
its_name kinds_are.Originate = refl
its_name kinds_are.Pay = refl
its_name kinds_are.Withdraw = refl
its_name kinds_are.Repay = refl
its_name kinds_are.Adjust = refl
its_name kinds_are.Cost = refl
its_name kinds_are.Sent = refl
its_name kinds_are.Amend = refl

-- ---- the laws
row_filed : (number : ℕ) (row : Texts) (f : Filing) → CanBeFiled f → row_meaning number row ≡ Ok (kind_of f.what, numbers_of f) → Files row f
row_filed number [] f can h = absurd (no_meaning number (kind_of f.what) (numbers_of f) h)
row_filed number (name ∷ texts) f can h =
    let m = means number name texts (kind_of f.what) (numbers_of f) h in
    let has = has_row f.what m.has in
    let read = m.numbers ∙ ap (λ (zs : List ℤ). Ok zs) (sym (all_values f has)) in (
      can,
      has,
      sym (kind_is name (kind_of f.what) m.named) ∙ sym (name_is f.what),
      spelled number most_numbers (slots_of_kind (kind_of f.what)) [] texts (plain_numbers f) (all_taken f can.1 has) m.many read,
    )

filed_row : (number : ℕ) (row : Texts) (f : Filing) → IsFiling f → Files row f → row_meaning number row ≡ Ok (kind_of f.what, numbers_of f)
unfolding field_at
filed_row number [] f is files = absurd files
filed_row number (name ∷ texts) f is files =
    let has = files.1 in
    let kind = kind_of f.what in
    let all = all_values f has in
    let named : kind_named name ≡ Some kind = ap kind_named (files.2 ∙ name_is f.what) ∙ its_name kind in
    let are : AreNumbers (slots_of_kind kind) [] (map value (plain_numbers f)) = subst (λ (zs : List ℤ). AreNumbers (slots_of_kind kind) [] zs) (sym all) is in
    let few : length (plain_numbers f) ≤ most_numbers = omega (arith, few_numbers kind (numbers_of f) is, ap length all, length-map (plain_numbers f) value) in
    let read = are_read number most_numbers (slots_of_kind kind) [] texts (plain_numbers f) few (all_taken f files.0.1 has) are files.3 in
    ap (row_of number (name ∷ texts)) named ∙ of_kind number (name ∷ texts) kind (is_row f.what has)
    ∙ right_count number kind texts (Ok (map value (plain_numbers f))) read.many read.numbers ∙ ap (λ (zs : List ℤ). Ok (kind, zs)) all

pub meaning_in_range : (number : ℕ) (row : Texts) (f : Filing) → row_meaning number row ≡ Ok (kind_of f.what, numbers_of f) → IsFiling f
meaning_in_range number [] f h = absurd (no_meaning number (kind_of f.what) (numbers_of f) h)
meaning_in_range number (name ∷ texts) f h =
    read-are number (kind_of f.what) texts (numbers_of f) (means number name texts (kind_of f.what) (numbers_of f) h).numbers

-- what a row files can be filed
pub files_can : (row : Texts) (f : Filing) → Files row f → CanBeFiled f
files_can [] f files = absurd files
files_can (name ∷ texts) f files = files.0

pub row_means : (number : ℕ) (row : Texts) (f : Filing) → (row_meaning number row ≡ Ok (kind_of f.what, numbers_of f)) ↔ Files row f
row_means number row f = (λ h. row_filed number row f (can_be_filed f (meaning_in_range number row f h)) h, λ files. filed_row number row f (is_filing f (files_can row f files)) files)

-- a row files one filing at most
pub one_filing : (row : Texts) (f g : Filing) → Files row f → Files row g → f ≡ g
one_filing row f g one other =
    let same : (kind_of f.what, numbers_of f) ≡ (kind_of g.what, numbers_of g) = cc ((row_means 1 row f).1 one, (row_means 1 row g).1 other) in
    same_filing f g (ap (λ (m : Kind × List ℤ). m.0) same) (ap (λ (m : Kind × List ℤ). m.1) same)

-- ---- the number of a row that isn't read
abbrev IsNamed : {A : Type 0} → ℕ → Result A RowError → Type 0
IsNamed number r = IfErr r (λ e. e.row ≡ number)

rest_named : (number place : ℕ) (texts : Texts) (r : Result ℤ Malformed) → IsNamed number (with_rest number place texts r)
rest_named number place texts (Ok z) = tt
rest_named number place texts (Err e) = refl

first_named : (number place : ℕ) (form : Form) (texts : Texts) → IsNamed number (first_number words_of_programs number place form texts)
first_named number place form [] = refl
first_named number place form (text ∷ texts) = rest_named number place texts (number_in words_of_programs form text)

then_named : {A B : Type 0} (number : ℕ) (first : Result A RowError) (more : A → Result B RowError) → IsNamed number first → ((x : A) → IsNamed number (more x)) → IsNamed number (and_then first more)
then_named number (Ok x) more h k = k x
then_named number (Err e) more h k = h

led_named : (number most : ℕ) (slot : Slot) (slots : List Slot) (earlier : List ℤ) (texts : Texts) (found : Found Texts) (b : Bool)
    → IsNamed number (numbers_from (row_source words_of_programs number) most (after (slot ∷ slots) found.number) (found.number ∷ earlier) found.rest)
    → IsNamed number (led_to (row_source words_of_programs number) most (slot ∷ slots) earlier texts found b)
led_named number most slot slots earlier texts found false h = refl
led_named number most slot slots earlier texts found true h =
    then_named number (numbers_from (row_source words_of_programs number) most (after (slot ∷ slots) found.number) (found.number ∷ earlier) found.rest) (λ zs. Ok (found.number ∷ zs)) h (λ zs. tt)

numbers_named : (number most : ℕ) (slots : List Slot) (earlier : List ℤ) (texts : Texts) → IsNamed number (numbers_from (row_source words_of_programs number) most slots earlier texts)
unfolding numbers_from
numbers_named number most [] earlier texts = tt
numbers_named number zero (slot ∷ slots) earlier texts = refl
numbers_named number (suc most) (slot ∷ slots) earlier texts =
    then_named number (first_number words_of_programs number (length earlier + 2) slot.line.form texts) (λ found. led_to (row_source words_of_programs number) most (slot ∷ slots) earlier texts found (fits slot.line.limit earlier found.number))
    (first_named number (length earlier + 2) slot.line.form texts)
    (λ found. led_named number most slot slots earlier texts found (fits slot.line.limit earlier found.number) (numbers_named number most (after (slot ∷ slots) found.number) (found.number ∷ earlier) found.rest))

with_kind_named : (number : ℕ) (kind : Kind) (r : Result (List ℤ) RowError) → IsNamed number r → IsNamed number (with_kind kind r)
with_kind_named number kind (Ok zs) h = tt
with_kind_named number kind (Err e) h = h

counted_named : (number : ℕ) (kind : Kind) (texts : Texts) (b : Bool)
    → IsNamed number (if b then with_kind kind (numbers_of_kind (row_source words_of_programs number) kind texts) else Err (refused number 0 WrongCount))
counted_named number kind texts true =
    with_kind_named number kind (numbers_of_kind (row_source words_of_programs number) kind texts) (numbers_named number most_numbers (slots_of_kind kind) [] texts)
counted_named number kind texts false = refl

of_kind_named : (number : ℕ) (kind : Kind) (texts : Texts) (b : Bool) → IsNamed number (if b then row_of_kind number kind texts else Err (refused number 1 UnknownKind))
unfolding row_of_kind
of_kind_named number kind texts true = counted_named number kind texts (are_as_many words_of_programs (slots_of_kind kind) texts)
of_kind_named number kind texts false = refl

row_of_named : (number : ℕ) (row : Texts) (o : Option Kind) → IsNamed number (row_of number row o)
row_of_named number row None = refl
row_of_named number row (Some kind) = of_kind_named number kind (drop 1 row) (has_rows kind)

pub error_named : (number : ℕ) (row : Texts) (e : RowError) → row_meaning number row ≡ Err e → e.row ≡ number
error_named number row e h =
    subst (λ (r : Result (Kind × List ℤ) RowError). IsNamed number r) h (row_of_named number row (option_and_then kind_named (field_at row 0)))
