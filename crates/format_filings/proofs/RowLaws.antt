-- The row of a filing, and the text of many, mean these filings.
use Rattle.std.proofs.Common.{◌≡◌, ℕ, zero, suc, ◌≤◌, ℤ, pos, nat_le, Bool, true, List, [], ◌∷◌, ◌++◌, All, length, map, get_or, refl, sym, ap, ◌∙◌, append_assoc, arith}
use Rattle.std.specs.Prelude.{codes, unsigned_abs, Some, Ok}
use Rattle.std.specs.List.{list_all}
use Rattle.std.proofs.lemmas.Bool.{and_from, and_parts, le-leb, leb-true}
use Rattle.std.proofs.lemmas.List.Folds.{flat_map-map, list_all-append}
use Rattle.csv.specs.Reading.{default_config, records, strip_bom}
use Rattle.csv.specs.Records.{field_at}
use Rattle.aid_books.specs.declared.book.Book.{Book as YearBook}
use Rattle.aid_filings.specs.declared.filing.Filing.{Filing}
use Rattle.aid_filings.specs.declared.filing.What.{What}
use Rattle.aid_filings.specs.declared.filing.What.TheVariants as what_is
use Rattle.format_filings.proofs.RowsLemmas.{of_kind, right_count}
use Rattle.format_filings.specs.Rows.{filing_said, has_rows, meanings, meanings_from, row_meaning, row_of}
use Rattle.format_table.specs.Forms.{most_numbers}
use Rattle.format_table.specs.Layout.{after}
use Rattle.format_table.specs.Parts.{Slot}
use Rattle.format_table.specs.declared.field.Form.{Form}
use Rattle.format_table.specs.declared.field.Form.TheVariants.{U8, U16, U32, U64, I64, Cents, Day, Flag, Word, Count}
use Rattle.format_kinds.proofs.Laws.{are_sound-kind, few_numbers, narrow_numbers}
use Rattle.format_kinds.specs.Kinds.{kind_named, name_of, slots_of_kind, table_row_of, words_of_programs}
use Rattle.format_kinds.specs.declared.kind.Kind.{Kind}
use Rattle.format_kinds.specs.declared.kind.Kind.TheVariants.{Book, School, Calendar, Prior, Apply, Enroll, Originate, Pay, Withdraw, Repay, Adjust, Cost, Sent, Amend}
use Rattle.aid_types.specs.Whole.{whole_text}
use Rattle.format_bytes.specs.Numbers.{IsFiling, key_numbers, kind_of, numbers_of}
use Rattle.format_filings.proofs.Kept.{kept-kind, numbers_spelled}
use Rattle.format_filings.proofs.Plain.{cents_plain, day_plain, is_plain, whole_plain}
use Rattle.format_filings.proofs.ReadAgain.{as_many, is_even, numbers_again}
use Rattle.format_filings.proofs.Records.{are_plain, is_row, line_of, lines_of, rows_again}
use Rattle.format_filings.specs.WrittenRows.{behind_commas, number_text, row_text, row_texts, rows_text, texts_behind, texts_of}

-- ---- one row
-- the texts of a filing that is no book
pub texts_are : (f : Filing) (what : What) → has_rows (kind_of what) ≡ true → texts_behind f what ≡ texts_of words_of_programs (slots_of_kind (kind_of what)) (numbers_of f)
texts_are f (what_is.Book x) h = absurd cc
texts_are f (what_is.School x) h = refl
texts_are f (what_is.Calendar x) h = refl
texts_are f (what_is.Prior x) h = refl
texts_are f (what_is.Apply x) h = refl
texts_are f (what_is.Enroll x) h = refl
texts_are f (what_is.Originate x) h = refl
texts_are f (what_is.Pay x) h = refl
texts_are f (what_is.Withdraw x) h = refl
texts_are f (what_is.Repay x) h = refl
texts_are f (what_is.Adjust x) h = refl
texts_are f (what_is.Cost x) h = refl
texts_are f (what_is.Sent x) h = refl
texts_are f (what_is.Amend x) h = refl

-- a filing that is no book has a row of all its numbers
pub no_book : (what : What) → ((b : YearBook) → what ≡ what_is.Book b → ⊥) → has_rows (kind_of what) ≡ true
no_book (what_is.Book x) h = absurd (h x refl)
no_book (what_is.School x) h = refl
no_book (what_is.Calendar x) h = refl
no_book (what_is.Prior x) h = refl
no_book (what_is.Apply x) h = refl
no_book (what_is.Enroll x) h = refl
no_book (what_is.Originate x) h = refl
no_book (what_is.Pay x) h = refl
no_book (what_is.Withdraw x) h = refl
no_book (what_is.Repay x) h = refl
no_book (what_is.Adjust x) h = refl
no_book (what_is.Cost x) h = refl
no_book (what_is.Sent x) h = refl
no_book (what_is.Amend x) h = refl

-- a kind's name and the texts of its numbers are the row
pub row_put : (f : Filing) (kind : Kind) (zs : List ℤ) (name old front new : List ℕ) → has_rows (kind_of f.what) ≡ true → kind ≡ kind_of f.what → zs ≡ numbers_of f → name ≡ name_of kind → front ≡ old ++ name
    → new ≡ front ++ behind_commas (texts_of words_of_programs (slots_of_kind kind) zs) → new ≡ old ++ row_text f
row_put f kind zs name old front new has is numbers named front_is e =
    let texts = texts_of words_of_programs (slots_of_kind (kind_of f.what)) (numbers_of f) in
    e ∙ (λ i. front_is i ++ behind_commas (texts_of words_of_programs (slots_of_kind (is i)) (numbers i))) ∙ append_assoc old name (behind_commas texts)
    ∙ (λ i. old ++ ((named ∙ ap name_of is) i ++ behind_commas (sym (texts_are f f.what has) i)))

even-kind : (kind : Kind) → has_rows kind ≡ true → list_all is_even (slots_of_kind kind) ≡ true
unfolding table_row_of
even-kind Book h = absurd cc
even-kind School h = refl
even-kind Calendar h = refl
even-kind Prior h = refl
even-kind Apply h = refl
even-kind Enroll h = refl
even-kind Originate h = refl
even-kind Pay h = refl
even-kind Withdraw h = refl
even-kind Repay h = refl
even-kind Adjust h = refl
even-kind Cost h = refl
even-kind Sent h = refl
even-kind Amend h = refl

its_name : (kind : Kind) → kind_named (name_of kind) ≡ Some kind
unfolding table_row_of
its_name Book = refl
its_name School = refl
its_name Calendar = refl
its_name Prior = refl
its_name Apply = refl
its_name Enroll = refl
its_name Originate = refl
its_name Pay = refl
its_name Withdraw = refl
its_name Repay = refl
its_name Adjust = refl
its_name Cost = refl
its_name Sent = refl
its_name Amend = refl

pub row_again : (row : ℕ) (f : Filing) → IsFiling f → has_rows (kind_of f.what) ≡ true → row_meaning row (row_texts f) ≡ Ok (filing_said f)
unfolding field_at
row_again row f is has =
    let kind = kind_of f.what in
    let texts = texts_of words_of_programs (slots_of_kind kind) (numbers_of f) in
    let many = as_many (slots_of_kind kind) [] (numbers_of f) (are_sound-kind kind) (kept-kind kind) (even-kind kind has) is in
    let read = numbers_again row most_numbers (slots_of_kind kind) [] (numbers_of f) (few_numbers kind (numbers_of f) is) (numbers_spelled kind (numbers_of f) is) (narrow_numbers kind (numbers_of f) is) is in
    ap (λ (ts : List (List ℕ)). row_meaning row (name_of kind ∷ ts)) (texts_are f f.what has)
    ∙ ap (row_of row (name_of kind ∷ texts)) (its_name kind) ∙ of_kind row (name_of kind ∷ texts) kind has
    ∙ right_count row kind texts (Ok (numbers_of f)) many read

-- ---- the texts of a row are plain
word_plain : (words : List (List ℕ)) (i : ℕ) → are_plain words ≡ true → is_plain (get_or words i []) ≡ true
word_plain [] i h = refl
word_plain (word ∷ words) zero h = (and_parts (is_plain word) (are_plain words) h).0
word_plain (word ∷ words) (suc i) h = word_plain words i (and_parts (is_plain word) (are_plain words) h).1

number_plain : (form : Form) (z : ℤ) → is_plain (number_text words_of_programs form z) ≡ true
number_plain U8 z = whole_plain z
number_plain U16 z = whole_plain z
number_plain U32 z = whole_plain z
number_plain U64 z = whole_plain z
number_plain I64 z = whole_plain z
number_plain Cents z = cents_plain (unsigned_abs z)
number_plain Day z = day_plain _
number_plain Flag z = whole_plain z
number_plain Word z = word_plain words_of_programs (unsigned_abs z) refl
number_plain Count z = whole_plain z

numbers_plain : (slots : List Slot) (zs : List ℤ) → are_plain (texts_of words_of_programs slots zs) ≡ true
numbers_plain slots [] = refl
numbers_plain [] (z ∷ zs) = refl
numbers_plain (slot ∷ slots) (z ∷ zs) =
    and_from (is_plain (number_text words_of_programs slot.line.form z)) (are_plain (texts_of words_of_programs (after (slot ∷ slots) z) zs))
    (number_plain slot.line.form z) (numbers_plain (after (slot ∷ slots) z) zs)

name_plain : (kind : Kind) → is_plain (name_of kind) ≡ true
unfolding table_row_of
name_plain Book = refl
name_plain School = refl
name_plain Calendar = refl
name_plain Prior = refl
name_plain Apply = refl
name_plain Enroll = refl
name_plain Originate = refl
name_plain Pay = refl
name_plain Withdraw = refl
name_plain Repay = refl
name_plain Adjust = refl
name_plain Cost = refl
name_plain Sent = refl
name_plain Amend = refl

is_row_of : (name : List ℕ) (texts : List (List ℕ)) → is_plain name ≡ true → are_plain texts ≡ true → 1 ≤ length texts → is_row (name ∷ texts) ≡ true
is_row_of name [] h k some = absurd (omega (arith, some))
is_row_of name (text ∷ texts) h k some = and_from (is_plain name) (are_plain (text ∷ texts)) h k

is_filing_row : (f : Filing) → has_rows (kind_of f.what) ≡ true → is_row (row_texts f) ≡ true
is_filing_row f has =
    let kind = kind_of f.what in
    ap (λ (ts : List (List ℕ)). is_row (name_of kind ∷ ts)) (texts_are f f.what has)
    ∙ is_row_of (name_of kind) (texts_of words_of_programs (slots_of_kind kind) (numbers_of f)) (name_plain kind) (numbers_plain (slots_of_kind kind) (numbers_of f)) (omega arith)

-- ---- no byte of a row comes before the comma
abbrev are_from_comma : List ℕ → Bool
are_from_comma text = list_all (λ b. nat_le 44 b) text

from_hyphen : (text : List ℕ) → is_plain text ≡ true → are_from_comma text ≡ true
from_hyphen [] h = refl
from_hyphen (b ∷ text) h =
    let x = and_parts (nat_le 45 b) (is_plain text) h in
    and_from (nat_le 44 b) (are_from_comma text) (le-leb 44 b (omega (arith, leb-true 45 b x.0))) (from_hyphen text x.1)

both_from_comma : (xs ys : List ℕ) → are_from_comma xs ≡ true → are_from_comma ys ≡ true → are_from_comma (xs ++ ys) ≡ true
both_from_comma xs ys h k = list_all-append (λ b. nat_le 44 b) xs ys ∙ and_from (are_from_comma xs) (are_from_comma ys) h k

commas_from_comma : (texts : List (List ℕ)) → are_plain texts ≡ true → are_from_comma (behind_commas texts) ≡ true
commas_from_comma [] h = refl
commas_from_comma (text ∷ texts) h =
    let x = and_parts (is_plain text) (are_plain texts) h in
    both_from_comma text (behind_commas texts) (from_hyphen text x.0) (commas_from_comma texts x.1)

wholes_plain : (zs : List ℤ) → are_plain (map whole_text zs) ≡ true
wholes_plain [] = refl
wholes_plain (z ∷ zs) = and_from (is_plain (whole_text z)) (are_plain (map whole_text zs)) (whole_plain z) (wholes_plain zs)

behind_plain : (f : Filing) (what : What) → are_plain (texts_behind f what) ≡ true
behind_plain f (what_is.Book b) = wholes_plain (key_numbers f.key ++ pos b.year ∷ [])
behind_plain f (what_is.School x) = numbers_plain (slots_of_kind (kind_of (what_is.School x))) (numbers_of f)
behind_plain f (what_is.Calendar x) = numbers_plain (slots_of_kind (kind_of (what_is.Calendar x))) (numbers_of f)
behind_plain f (what_is.Prior x) = numbers_plain (slots_of_kind (kind_of (what_is.Prior x))) (numbers_of f)
behind_plain f (what_is.Apply x) = numbers_plain (slots_of_kind (kind_of (what_is.Apply x))) (numbers_of f)
behind_plain f (what_is.Enroll x) = numbers_plain (slots_of_kind (kind_of (what_is.Enroll x))) (numbers_of f)
behind_plain f (what_is.Originate x) = numbers_plain (slots_of_kind (kind_of (what_is.Originate x))) (numbers_of f)
behind_plain f (what_is.Pay x) = numbers_plain (slots_of_kind (kind_of (what_is.Pay x))) (numbers_of f)
behind_plain f (what_is.Withdraw x) = numbers_plain (slots_of_kind (kind_of (what_is.Withdraw x))) (numbers_of f)
behind_plain f (what_is.Repay x) = numbers_plain (slots_of_kind (kind_of (what_is.Repay x))) (numbers_of f)
behind_plain f (what_is.Adjust x) = numbers_plain (slots_of_kind (kind_of (what_is.Adjust x))) (numbers_of f)
behind_plain f (what_is.Cost x) = numbers_plain (slots_of_kind (kind_of (what_is.Cost x))) (numbers_of f)
behind_plain f (what_is.Sent x) = numbers_plain (slots_of_kind (kind_of (what_is.Sent x))) (numbers_of f)
behind_plain f (what_is.Amend x) = numbers_plain (slots_of_kind (kind_of (what_is.Amend x))) (numbers_of f)

pub row_from_comma : (f : Filing) → list_all (λ b. nat_le 44 b) (row_text f) ≡ true
row_from_comma f =
    both_from_comma (name_of (kind_of f.what)) (behind_commas (texts_behind f f.what)) (from_hyphen (name_of (kind_of f.what)) (name_plain (kind_of f.what)))
    (commas_from_comma (texts_behind f f.what) (behind_plain f f.what))

-- ---- the text of rows
abbrev pub has_row : Filing → Bool
has_row f = has_rows (kind_of f.what)

are_rows : (fs : List Filing) → list_all has_row fs ≡ true → list_all is_row (map row_texts fs) ≡ true
are_rows [] h = refl
are_rows (f ∷ fs) h =
    let x = and_parts (has_row f) (list_all has_row fs) h in
    and_from (is_row (row_texts f)) (list_all is_row (map row_texts fs)) (is_filing_row f x.0) (are_rows fs x.1)

-- no name begins with a byte order mark
name_stays : (kind : Kind) (rest : List ℕ) → strip_bom (name_of kind ++ rest) ≡ name_of kind ++ rest
unfolding table_row_of strip_bom
name_stays Book rest = refl
name_stays School rest = refl
name_stays Calendar rest = refl
name_stays Prior rest = refl
name_stays Apply rest = refl
name_stays Enroll rest = refl
name_stays Originate rest = refl
name_stays Pay rest = refl
name_stays Withdraw rest = refl
name_stays Repay rest = refl
name_stays Adjust rest = refl
name_stays Cost rest = refl
name_stays Sent rest = refl
name_stays Amend rest = refl

text_stays : (fs : List Filing) → strip_bom (rows_text fs) ≡ rows_text fs
unfolding strip_bom
text_stays [] = refl
text_stays (f ∷ fs) =
    let name = name_of (kind_of f.what) in
    let texts = behind_commas (texts_behind f f.what) in
    let split : rows_text (f ∷ fs) ≡ name ++ (texts ++ (codes "\n" ++ rows_text fs)) =
    append_assoc (name ++ texts) (codes "\n") (rows_text fs) ∙ append_assoc name texts (codes "\n" ++ rows_text fs) in
    ap strip_bom split ∙ name_stays (kind_of f.what) (texts ++ (codes "\n" ++ rows_text fs)) ∙ sym split

each_means : (fs : List Filing) (row : ℕ) → All IsFiling fs → list_all has_row fs ≡ true → meanings_from row (map row_texts fs) ≡ map (λ f. Ok (filing_said f)) fs
each_means [] row are h = refl
each_means (f ∷ fs) row are h =
    let x = and_parts (has_row f) (list_all has_row fs) h in
    λ i. row_again row f (are 0 f (omega arith)) x.0 i ∷ each_means fs (suc row) (λ k d below. are (suc k) d (omega arith)) x.1 i

pub text_means : (fs : List Filing) → All IsFiling fs → list_all has_row fs ≡ true → meanings (rows_text fs) ≡ map (λ f. Ok (filing_said f)) fs
text_means fs are h =
    let lines : rows_text fs ≡ lines_of (map row_texts fs) = sym (flat_map-map line_of row_texts fs) in
    ap (λ (bs : List ℕ). meanings_from 1 (records default_config bs)) (text_stays fs ∙ lines)
    ∙ ap (meanings_from 1) (rows_again (map row_texts fs) (are_rows fs h)) ∙ each_means fs 1 are h
