-- Rows of plain texts, each with a line feed behind it, are the records of their text.
use Rattle.std.proofs.Common.{◌≡◌, ◌≤◌, ◌+◌, ℕ, zero, suc, List, [], ◌∷◌, ◌++◌, length, Bool, true, false, nat_le, refl, sym, ap, ◌∙◌, length-append, arith}
use Rattle.std.specs.Prelude.{codes, flat_map, ◌||◌}
use Rattle.std.specs.List.{list_all, list_any}
use Rattle.std.proofs.lemmas.Bool.{and_parts, leb-true, ne_eqb}
use Rattle.csv.specs.Machine.{next_record}
use Rattle.csv.specs.Reading.{default_config, records, records_from, records_next}
use Rattle.csv.specs.Writing.{default_writer, field_text, fields_text, is_blank, needs_byte, row_text as written_row}
use Rattle.csv.specs.declared.parser.State.TheVariants as st
use Rattle.csv.proofs.RoundTrip.{read-write-many}
use Rattle.format_filings.specs.WrittenRows.{behind_commas, joined}
use Rattle.format_filings.proofs.Plain.{is_plain}

abbrev pub are_plain : List (List ℕ) → Bool
are_plain texts = list_all is_plain texts

-- two texts or more, each plain
abbrev pub is_row : List (List ℕ) → Bool
is_row [] = false
is_row (text ∷ []) = false
is_row (text ∷ next ∷ texts) = are_plain (text ∷ next ∷ texts)

abbrev pub line_of : List (List ℕ) → List ℕ
line_of texts = joined texts ++ codes "\n"

abbrev pub lines_of : List (List (List ℕ)) → List ℕ
lines_of rows = flat_map line_of rows

no_mark : (b : ℕ) → nat_le 45 b ≡ true → needs_byte default_writer b ≡ false
no_mark b h =
    let large = leb-true 45 b h in
    let comma = ne_eqb b 44 (λ e. absurd (omega (arith, e, large))) in
    let quote = ne_eqb b 34 (λ e. absurd (omega (arith, e, large))) in
    let return = ne_eqb b 13 (λ e. absurd (omega (arith, e, large))) in
    let feed = ne_eqb b 10 (λ e. absurd (omega (arith, e, large))) in
    rw (comma, quote, return, feed) refl

no_marks : (text : List ℕ) → is_plain text ≡ true → list_any (needs_byte default_writer) text ≡ false
no_marks [] h = refl
no_marks (b ∷ text) h =
    let x = and_parts (nat_le 45 b) (is_plain text) h in
    ap (λ (c : Bool). c || list_any (needs_byte default_writer) text) (no_mark b x.0) ∙ no_marks text x.1

as_it_is : (text : List ℕ) → is_plain text ≡ true → field_text default_writer text ≡ text
as_it_is text h = rw (no_marks text h) refl

behind : (texts : List (List ℕ)) → are_plain texts ≡ true → fields_text default_writer texts ≡ behind_commas texts
unfolding fields_text
behind [] h = refl
behind (text ∷ texts) h =
    let x = and_parts (is_plain text) (are_plain texts) h in
    ap (λ (bs : List ℕ). 44 ∷ (bs ++ fields_text default_writer texts)) (as_it_is text x.0) ∙ ap (λ (bs : List ℕ). 44 ∷ (text ++ bs)) (behind texts x.1)

-- the line of a row is what a writer writes
line_written : (text next : List ℕ) (texts : List (List ℕ)) → is_row (text ∷ next ∷ texts) ≡ true → written_row default_writer (text ∷ next ∷ texts) ≡ line_of (text ∷ next ∷ texts)
unfolding is_blank
line_written text next texts h =
    let x = and_parts (is_plain text) (are_plain (next ∷ texts)) h in
    (λ i. (as_it_is text x.0 i ++ behind (next ∷ texts) x.1 i) ++ 10 ∷ [])

-- any count from that of the rows on reads them
read_rows : (rows : List (List (List ℕ))) (n : ℕ) → length rows ≤ n → list_all is_row rows ≡ true → records_from default_config n st.StartRecord (lines_of rows) ≡ rows
unfolding records_from next_record
read_rows [] zero few h = refl
read_rows [] (suc n) few h = refl
read_rows (row ∷ rows) zero few h = absurd (omega (arith, few))
read_rows ([] ∷ rows) (suc n) few h = absurd cc
read_rows ((text ∷ []) ∷ rows) (suc n) few h = absurd cc
read_rows ((text ∷ next ∷ texts) ∷ rows) (suc n) few h =
    let x = and_parts (is_row (text ∷ next ∷ texts)) (list_all is_row rows) h in
    ap (λ (bs : List ℕ). records_from default_config (suc n) st.StartRecord (bs ++ lines_of rows)) (sym (line_written text next texts x.0))
    ∙ ap (records_next (records_from default_config n)) (read-write-many text next texts (lines_of rows))
    ∙ ap (λ (rs : List (List (List ℕ))). (text ∷ next ∷ texts) ∷ rs) (read_rows rows n (omega (arith, few)) x.1)

-- each line has a byte
few_rows : (rows : List (List (List ℕ))) → length rows ≤ length (lines_of rows)
few_rows [] = omega arith
few_rows (row ∷ rows) = omega (arith, few_rows rows, length-append (line_of row) (lines_of rows), length-append (joined row) (codes "\n"))

pub rows_again : (rows : List (List (List ℕ))) → list_all is_row rows ≡ true → records default_config (lines_of rows) ≡ rows
rows_again rows h = read_rows rows (length (lines_of rows) + 1) (omega (arith, few_rows rows)) h
