-- The row of comma-separated values that files a filing. Own format.
use Rattle.std.specs.Prelude.{ℕ, ℤ, pos, ◌+ℤ◌, unsigned_abs, List, [], ◌∷◌, ◌++◌, codes, flat_map, map, slice_index_or}
use Rattle.aid_types.specs.Cents.{cents_text}
use Rattle.aid_types.specs.Whole.{whole_text}
use Rattle.aid_filings.specs.declared.filing.Filing.{Filing}
use Rattle.aid_filings.specs.declared.filing.What.{What}
use Rattle.aid_filings.specs.declared.filing.What.TheVariants.{Book}
use Rattle.law_terms.specs.Days.{day_text}
use Rattle.format_table.specs.Layout.{after}
use Rattle.format_table.specs.Parts.{Slot}
use Rattle.format_table.specs.declared.field.Form.{Form}
use Rattle.format_table.specs.declared.field.Form.TheVariants.{Cents, Day, Word}
use Rattle.format_kinds.specs.Kinds.{name_of, slots_of_kind, words_of_programs}
use Rattle.format_bytes.specs.Numbers.{key_numbers, kind_of, numbers_of}

-- The text of a number in a form: dollars with two decimals; a civil day, of the days since 1970-01-01; the word of the
-- table at that place; and otherwise a whole number. It is the one text that `number_in` reads as that number.
abbrev pub number_text : List (List ℕ) → Form → ℤ → List ℕ
number_text words Cents z = cents_text (unsigned_abs z)
number_text words Day z = day_text (unsigned_abs (z +ℤ pos 25567))
number_text words Word z = slice_index_or words (unsigned_abs z) []
number_text words _ z = whole_text z

-- the texts of numbers, each by its field
abbrev pub texts_of : List (List ℕ) → List Slot → List ℤ → List (List ℕ)
texts_of words slots [] = []
texts_of words [] (z ∷ zs) = []
texts_of words (slot ∷ slots) (z ∷ zs) = number_text words slot.line.form z ∷ texts_of words (after (slot ∷ slots) z) zs

-- The texts behind a kind's name: those of all numbers. Of a book, whose tables are a text of their own, only those of its
-- key and its year.
abbrev pub texts_behind : Filing → What → List (List ℕ)
texts_behind f (Book b) = map whole_text (key_numbers f.key ++ pos b.year ∷ [])
texts_behind f what = texts_of words_of_programs (slots_of_kind (kind_of what)) (numbers_of f)

-- the texts of a filing's row, its kind's name first
abbrev pub row_texts : Filing → List (List ℕ)
row_texts f = name_of (kind_of f.what) ∷ texts_behind f f.what

-- texts, each behind a comma
abbrev pub behind_commas : List (List ℕ) → List ℕ
behind_commas texts = flat_map (λ text. codes "," ++ text) texts

-- texts with a comma between each two
abbrev pub joined : List (List ℕ) → List ℕ
joined [] = []
joined (text ∷ texts) = text ++ behind_commas texts

-- the row of a filing
abbrev pub row_text : Filing → List ℕ
row_text f = joined (row_texts f)

-- the rows of filings, each with a line feed behind it
abbrev pub rows_text : List Filing → List ℕ
rows_text filings = flat_map (λ f. row_text f ++ codes "\n") filings
