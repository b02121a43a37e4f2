-- How the lines of a worksheet are written: a letter in two columns, the words in 28, then seven columns of eleven. Own format.
use Rattle.std.specs.Prelude.{ℕ, List, ◌++◌, codes, decimal, sum}
use Rattle.std.specs.List.{flat_map}
use Rattle.aid_types.specs.Cents.{cents_text}
use Rattle.aid_types.specs.Percents.{percent_text}
use Rattle.office_reports.specs.Columns.{left, right}
use Rattle.sheet_r2t4.specs.declared.entry.Entry.{Entry}
use Rattle.sheet_r2t4.specs.declared.entry.Figure.{Figure}
use Rattle.sheet_r2t4.specs.declared.entry.Figure.TheVariants.{ByProgram, Cents, Days, Percent}
use Rattle.sheet_r2t4.specs.ReturnWords.{letter_text, words_text}

-- amounts, each in its column
unfoldable pub amounts_text : List ℕ → List ℕ
amounts_text amounts = flat_map (λ cents. right 11 (cents_text cents)) amounts

-- amounts by program and their sum, or one value under the sums
abbrev pub figure_text : Figure → List ℕ
figure_text (ByProgram amounts) = amounts_text amounts ++ right 11 (cents_text (sum amounts))
figure_text (Cents cents) = right 77 (cents_text cents)
figure_text (Days days) = right 77 (decimal days)
figure_text (Percent tenths) = right 77 (percent_text tenths)

-- a line: its letter, its words to the left, and what it tells
abbrev pub line_text : Entry → List ℕ
line_text e = letter_text e.label ++ left 28 (words_text e.label) ++ figure_text e.figure ++ codes "\n"

-- lines
unfoldable pub lines_text : List Entry → List ℕ
lines_text es = flat_map line_text es
