-- How the lines of a worksheet are written: a mark of three signs, the words in 44, the figure in 12. Own format.
use Rattle.std.specs.Prelude.{ℕ, pos, Bool, true, not, List, [], ◌++◌, codes, if◌then◌else◌}
use Rattle.std.specs.List.{flat_map}
use Rattle.std.specs.Ordering.{int_eq}
use Rattle.aid_types.specs.Whole.{whole_text}
use Rattle.office_reports.specs.Columns.{left, right}
use Rattle.sheet_need.specs.declared.entry.Entry.{Entry}
use Rattle.sheet_need.specs.declared.entry.Figure.{Figure}
use Rattle.sheet_need.specs.declared.entry.Figure.TheVariants.{Worked, Dollars, Answer}
use Rattle.sheet_need.specs.NeedWords.{mark_text, words_text}

abbrev pub figure_text : Figure → List ℕ
figure_text (Worked n) = whole_text n
figure_text (Dollars n) = whole_text n
figure_text (Answer b) = if b then codes "yes" else codes "no"

-- dollars of an application or a book, an adjusted business and a ceiling have no line where they are 0
abbrev pub is_shown : Figure → Bool
is_shown (Worked n) = true
is_shown (Dollars n) = not (int_eq n (pos 0))
is_shown (Answer b) = true

abbrev pub line_text : Entry → List ℕ
line_text e = mark_text e.mark ++ left 44 (words_text e.label e.part) ++ right 12 (figure_text e.figure) ++ codes "\n"

abbrev pub entry_text : Entry → List ℕ
entry_text e = if is_shown e.figure then line_text e else []

unfoldable pub entries_text : List Entry → List ℕ
entries_text es = flat_map entry_text es
