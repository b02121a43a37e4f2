-- The fields of a year book, in order: where each stands, and what stands there.
use Rattle.std.specs.Prelude.{ℕ, List, [], ◌∷◌, ◌++◌, codes, take}
use Rattle.format_books.specs.declared.table.BookField.{BookField}
use Rattle.format_books.specs.declared.table.Holds.{Holds}
use Rattle.format_books.specs.declared.table.Holds.TheVariants.{Integer, Integers, Tables, Column}

-- a field: its number, its section or array of tables (nothing at the top), its key, its name in the table of kinds, and what
-- stands there
pub record BookLine : Type 0 where
  pub number : ℕ
  pub section : List ℕ
  pub key : List ℕ
  pub name : List ℕ
  pub kind : Holds

-- a key behind its section, with a dot between them
abbrev pub filed_name : List ℕ → List ℕ → List ℕ
filed_name [] key = key
filed_name (s ∷ section) key = (s ∷ section) ++ (46 ∷ key)

abbrev pub book_line : ℕ → List ℕ → List ℕ → Holds → BookLine
book_line number section key kind = record { number = number; section = section; key = key; name = filed_name section key; kind = kind }

-- a field of the program as such a line
abbrev pub field_line : BookField → BookLine
field_line f = record { number = f.number; section = f.section.now; key = f.key.now; name = f.name.now; kind = f.kind }

-- the fields 1 to 56, the last of which stands in form 2 alone
abbrev pub table_fields : List BookLine
table_fields =
    book_line 1 [] (codes "form") Integer
    ∷ book_line 2 [] (codes "year") Integer
    ∷ book_line 3 (codes "pell") (codes "maximum") Integer
    ∷ book_line 4 (codes "pell") (codes "minimum") Integer
    ∷ book_line 5 (codes "percent") (codes "maximum_single") Integer
    ∷ book_line 6 (codes "percent") (codes "maximum_other") Integer
    ∷ book_line 7 (codes "percent") (codes "minimum_dependent_single") Integer
    ∷ book_line 8 (codes "percent") (codes "minimum_dependent_other") Integer
    ∷ book_line 9 (codes "percent") (codes "minimum_single_parent") Integer
    ∷ book_line 10 (codes "percent") (codes "minimum_parent") Integer
    ∷ book_line 11 (codes "percent") (codes "minimum_no_dependents") Integer
    ∷ book_line 12 (codes "poverty") (codes "contiguous") (Integers 8)
    ∷ book_line 13 (codes "poverty") (codes "contiguous_extra") Integer
    ∷ book_line 14 (codes "poverty") (codes "alaska") (Integers 8)
    ∷ book_line 15 (codes "poverty") (codes "alaska_extra") Integer
    ∷ book_line 16 (codes "poverty") (codes "hawaii") (Integers 8)
    ∷ book_line 17 (codes "poverty") (codes "hawaii_extra") Integer
    ∷ book_line 18 (codes "payroll") (codes "oasdi_cap") Integer
    ∷ book_line 19 (codes "payroll") (codes "oasdi_rate") Integer
    ∷ book_line 20 (codes "payroll") (codes "medicare_rate") Integer
    ∷ book_line 21 (codes "payroll") (codes "medicare_high") Integer
    ∷ book_line 22 (codes "payroll") (codes "threshold_single") Integer
    ∷ book_line 23 (codes "payroll") (codes "threshold_married") Integer
    ∷ book_line 24 (codes "protection") (codes "parents") (Integers 5)
    ∷ book_line 25 (codes "protection") (codes "parents_extra") Integer
    ∷ book_line 26 (codes "protection") (codes "dependent_student") Integer
    ∷ book_line 27 (codes "protection") (codes "single_student") Integer
    ∷ book_line 28 (codes "protection") (codes "married_student") Integer
    ∷ book_line 29 (codes "protection") (codes "single_parent") (Integers 5)
    ∷ book_line 30 (codes "protection") (codes "single_parent_extra") Integer
    ∷ book_line 31 (codes "protection") (codes "married_parent") (Integers 5)
    ∷ book_line 32 (codes "protection") (codes "married_parent_extra") Integer
    ∷ book_line 33 (codes "employment") (codes "cap") Integer
    ∷ book_line 34 (codes "employment") (codes "rate") Integer
    ∷ book_line 35 (codes "assets") (codes "parents_rate") Integer
    ∷ book_line 36 (codes "assets") (codes "dependent_rate") Integer
    ∷ book_line 37 (codes "assets") (codes "no_dependents_rate") Integer
    ∷ book_line 38 (codes "assets") (codes "with_dependents_rate") Integer
    ∷ book_line 39 [] (codes "business") Tables
    ∷ book_line 40 (codes "business") (codes "over") Column
    ∷ book_line 41 (codes "business") (codes "base") Column
    ∷ book_line 42 (codes "business") (codes "rate") Column
    ∷ book_line 43 [] (codes "age") Tables
    ∷ book_line 44 (codes "age") (codes "from") Column
    ∷ book_line 45 (codes "age") (codes "single") Column
    ∷ book_line 46 (codes "age") (codes "married") Column
    ∷ book_line 47 (codes "schedule") (codes "low_at") Integer
    ∷ book_line 48 (codes "schedule") (codes "low") Integer
    ∷ book_line 49 (codes "schedule") (codes "first_rate") Integer
    ∷ book_line 50 (codes "schedule") (codes "student_rate") Integer
    ∷ book_line 51 (codes "schedule") (codes "lowest_student") Integer
    ∷ book_line 52 [] (codes "bracket") Tables
    ∷ book_line 53 (codes "bracket") (codes "over") Column
    ∷ book_line 54 (codes "bracket") (codes "base") Column
    ∷ book_line 55 (codes "bracket") (codes "rate") Column
    ∷ book_line 56 (codes "ceiling") (codes "percent") Integer
    ∷ []

abbrev pub first_fields : List BookLine
first_fields = take 55 table_fields
