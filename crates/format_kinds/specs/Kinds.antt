-- The kinds of filings: the code and the name of each, and its fields behind those of the key. Own format.
use Rattle.std.specs.Prelude.{ℕ, ◌==◌, ℤ, pos, neg_ℤ, List, [], ◌∷◌, ◌++◌, map, replicate, codes, bytes_eq, find, Option}
use Rattle.std.specs.List.{slice_split}
use Rattle.format_table.specs.Columns.{cents, counted, day, fields, flags, line, one, student, term, year}
use Rattle.format_table.specs.Layout.{plain}
use Rattle.format_table.specs.Parts.{Line, Slot}
use Rattle.format_table.specs.declared.field.Form.{Form}
use Rattle.format_table.specs.declared.field.Form.TheVariants.{U8, U16, U32, U64, I64, Cents, Day, Flag, Word, Count}
use Rattle.format_table.specs.declared.field.Limit.{Limit}
use Rattle.format_table.specs.declared.field.Limit.TheVariants.{Between, UpToLast, AboveRow, Continues, Begins}
use Rattle.format_kinds.specs.declared.kind.Kind.{Kind}
use Rattle.format_kinds.specs.declared.kind.Kind.TheVariants.{Book, School, Calendar, Prior, Apply, Enroll, Originate, Pay, Withdraw, Repay, Adjust, Cost, Sent, Amend}

abbrev pub first_and_last : List Line
first_and_last = day (codes "first") ∷ day (codes "last") ∷ []

-- dollars, and those of a household that may be negative
abbrev pub dollars : List ℕ → List ℕ → List Slot
dollars start words = fields start words I64 (pos 0) (pos 99999999)

abbrev pub signed_dollars : List ℕ → List ℕ → List Slot
signed_dollars start words = fields start words I64 (neg_ℤ (pos 99999999)) (pos 99999999)

-- ---- the key's school, 0 at the office's own desk, and its number
abbrev pub key_slots : List Slot
key_slots = one (codes "school") U32 (pos 0) (pos 999999) ∷ one (codes "number") U64 (pos 1) (pos 999999999999) ∷ []

abbrev pub school_slots : List Slot
school_slots = one (codes "code") U32 (pos 1) (pos 999999) ∷ one (codes "terms") U8 (pos 2) (pos 3) ∷ one (codes "full") U8 (pos 1) (pos 40) ∷ []

abbrev pub calendar_slots : List Slot
calendar_slots = year ∷ term ∷ flags (codes "extra") ++ map plain first_and_last ++ counted (codes "breaks") (pos 0) (pos 8) first_and_last first_and_last ∷ []

abbrev pub prior_slots : List Slot
prior_slots = student ∷ one (codes "units") U32 (pos 0) (pos 4294967295) ∷ []

-- the amounts of a household, the student's or, by the beginning of their names, the parents'
abbrev pub household_slots : List ℕ → List Slot
household_slots start =
    signed_dollars start (codes "agi") ++ dollars start (codes "ira interest ira_untaxed pension foreign grants credits work_study")
    ++ signed_dollars start (codes "tax") ++ dollars start (codes "earned_first earned_second support cash investments business")

abbrev pub apply_slots : List Slot
apply_slots =
    student ∷ year ∷ one (codes "transaction") U8 (pos 1) (pos 99) ∷ one (codes "birth_year") U16 (pos 1900) (pos 2099) ∷ one (codes "region") U8 (pos 0) (pos 2)
    ∷ one (codes "family") U8 (pos 1) (pos 30) ∷ flags (codes "married graduate bachelor veteran dependents orphan ward foster emancipated homeless student_file")
    ++ household_slots [] ++ flags (codes "parents_married parents_file") ++ one (codes "parent_age") U8 (pos 0) (pos 120) ∷ household_slots (codes "parent_")

abbrev pub enroll_slots : List Slot
enroll_slots = student ∷ year ∷ term ∷ one (codes "credits") U8 (pos 0) (pos 255) ∷ []

abbrev pub originate_slots : List Slot
originate_slots = student ∷ year ∷ one (codes "cost") U32 (pos 0) (pos 999999) ∷ []

abbrev pub amount_slots : List Slot
amount_slots = student ∷ year ∷ term ∷ one (codes "program") Word (pos 0) (pos 5) ∷ cents (codes "cents")

abbrev pub withdraw_slots : List Slot
withdraw_slots =
    student ∷ year ∷ term ∷ plain (day (codes "last")) ∷ plain (day (codes "determined"))
    ∷ cents (codes "charges could_unsub could_sub could_plus could_pell could_fseog could_teach")

-- a number by which a school finds a paper
abbrev pub reference : Slot
reference = one (codes "reference") U64 (pos 0) (pos 999999999999)

abbrev pub sent_slots : List Slot
sent_slots =
    student ∷ year ∷ term ∷ one (codes "program") Word (pos 0) (pos 5) ∷ cents (codes "cents") ++ plain (day (codes "day")) ∷ reference ∷ []

abbrev pub amend_slots : List Slot
amend_slots =
    one (codes "of_school") U32 (pos 0) (pos 999999) ∷ one (codes "of_number") U64 (pos 1) (pos 999999999999)
    ∷ one (codes "change") U8 (pos 1) (pos 3) ∷ one (codes "reason") U8 (pos 1) (pos 7) ∷ reference ∷ []

-- ---- the numbers of a book: amounts, rates and percents, and three tables by rows after their counts
abbrev pub rates : List ℕ → List ℕ → List Slot
rates start words = fields start words I64 (pos 0) (pos 10000)

abbrev pub floors : List ℕ → List ℕ → List Slot
floors start words = fields start words I64 (neg_ℤ (pos 999999)) (pos 0)

-- amounts for so many sizes of family, and one for each person more
abbrev pub by_size : ℕ → List ℕ → List Slot
by_size count name = replicate count (one name I64 (pos 0) (pos 99999999)) ++ dollars name (codes "_extra")

abbrev pub amount : Limit
amount = Between (pos 0) (pos 99999999)

-- the columns of a table by amount, by what a row may begin at and may have there
abbrev pub amount_columns : List ℕ → Limit → Limit → List Line
amount_columns name over base = line (name ++ codes ".over") I64 over ∷ line (name ++ codes ".base") I64 base ∷ line (name ++ codes ".rate") I64 (Between (pos 0) (pos 10000)) ∷ []

-- such a table, by that of its first row; each later row begins above the one before it, with the value that that one has there
abbrev pub by_amount : List ℕ → Limit → Limit → Slot
by_amount name over base = counted name (pos 1) (pos 16) (amount_columns name over base) (amount_columns name (AboveRow (pos 99999999)) (Continues (pos 99999999)))

-- the columns of the table by age, by the age that a row may begin at
abbrev pub age_columns : Limit → List Line
age_columns from = line (codes "age.from") I64 from ∷ line (codes "age.single") I64 amount ∷ line (codes "age.married") I64 amount ∷ []

-- The form of a book is 1 or 2, and the last field stands in form 2 alone. The first row of `business` is at 0 with 0, and that
-- of `age` at 0; each later one of `age` begins at a greater age. The first row of `bracket` begins with what the first rate gives
-- there.
abbrev pub book_slots : List Slot
book_slots =
    record { line = line (codes "form") I64 (Between (pos 1) (pos 2)); first = []; later = []; ends = 1 } ∷ one (codes "year") I64 (pos 2000) (pos 2099)
    ∷ one (codes "pell.maximum") I64 (pos 1) (pos 99999) ∷ plain (line (codes "pell.minimum") I64 (UpToLast (pos 1)))
    ∷ fields (codes "percent.maximum_") (codes "single other") I64 (pos 1) (pos 9999)
    ++ fields (codes "percent.minimum_") (codes "dependent_single dependent_other single_parent parent no_dependents") I64 (pos 1) (pos 9999)
    ++ by_size 8 (codes "poverty.contiguous") ++ by_size 8 (codes "poverty.alaska") ++ by_size 8 (codes "poverty.hawaii")
    ++ dollars (codes "payroll.") (codes "oasdi_cap") ++ rates (codes "payroll.") (codes "oasdi_rate medicare_rate medicare_high")
    ++ dollars (codes "payroll.") (codes "threshold_single threshold_married")
    ++ by_size 5 (codes "protection.parents") ++ dollars (codes "protection.") (codes "dependent_student single_student married_student")
    ++ by_size 5 (codes "protection.single_parent") ++ by_size 5 (codes "protection.married_parent")
    ++ dollars (codes "employment.") (codes "cap") ++ rates (codes "employment.") (codes "rate")
    ++ rates (codes "assets.") (codes "parents_rate dependent_rate no_dependents_rate with_dependents_rate")
    ++ by_amount (codes "business") (Between (pos 0) (pos 0)) (Between (pos 0) (pos 0)) ∷ []
    ++ counted (codes "age") (pos 1) (pos 64) (age_columns (Between (pos 0) (pos 0))) (age_columns (AboveRow (pos 120))) ∷ []
    ++ floors (codes "schedule.") (codes "low_at low") ++ rates (codes "schedule.") (codes "first_rate student_rate")
    ++ floors (codes "schedule.") (codes "lowest_student") ++ by_amount (codes "bracket") amount (Begins (pos 99999999))
    ∷ one (codes "ceiling.percent") I64 (pos 1) (pos 9999) ∷ []

-- ---- the kinds, in the order of their codes
pub record KindRow : Type 0 where
  pub code : ℕ
  pub name : List ℕ
  pub slots : List Slot

unfoldable pub table_row_of : Kind → KindRow
table_row_of Book = record { code = 1; name = codes "book"; slots = book_slots }
table_row_of School = record { code = 2; name = codes "school"; slots = school_slots }
table_row_of Calendar = record { code = 3; name = codes "calendar"; slots = calendar_slots }
table_row_of Prior = record { code = 4; name = codes "prior"; slots = prior_slots }
table_row_of Apply = record { code = 5; name = codes "apply"; slots = apply_slots }
table_row_of Enroll = record { code = 6; name = codes "enrol"; slots = enroll_slots }
table_row_of Originate = record { code = 7; name = codes "originate"; slots = originate_slots }
table_row_of Pay = record { code = 8; name = codes "pay"; slots = amount_slots }
table_row_of Withdraw = record { code = 9; name = codes "withdraw"; slots = withdraw_slots }
table_row_of Repay = record { code = 10; name = codes "repay"; slots = amount_slots }
table_row_of Adjust = record { code = 11; name = codes "adjust"; slots = amount_slots }
table_row_of Cost = record { code = 12; name = codes "cost"; slots = originate_slots }
table_row_of Sent = record { code = 13; name = codes "sent"; slots = sent_slots }
table_row_of Amend = record { code = 14; name = codes "amend"; slots = amend_slots }

abbrev pub kinds : List Kind
kinds = Book ∷ School ∷ Calendar ∷ Prior ∷ Apply ∷ Enroll ∷ Originate ∷ Pay ∷ Withdraw ∷ Repay ∷ Adjust ∷ Cost ∷ Sent ∷ Amend ∷ []

abbrev pub code_of : Kind → ℕ
code_of kind = (table_row_of kind).code

abbrev pub name_of : Kind → List ℕ
name_of kind = (table_row_of kind).name

-- all fields of a filing of a kind, those of its key first
abbrev pub slots_of_kind : Kind → List Slot
slots_of_kind kind = key_slots ++ (table_row_of kind).slots

-- the kind that has a code, and the one that has a name
abbrev pub kind_at : ℕ → Option Kind
kind_at code = find (λ kind. code_of kind == code) kinds

abbrev pub kind_named : List ℕ → Option Kind
kind_named name = find (λ kind. bytes_eq (name_of kind) name) kinds

-- the words of the programs of aid, in the order of returns (34 CFR 668.22(i))
abbrev pub words_of_programs : List (List ℕ)
words_of_programs = codes "unsub" ∷ codes "sub" ∷ codes "plus" ∷ codes "pell" ∷ codes "fseog" ∷ codes "teach" ∷ []
