-- The kinds of loan filings: the code and the name of each, and its fields behind those of the key. Own format.
use Rattle.std.specs.Prelude.{ℕ, pos, List, [], ◌∷◌, ◌++◌, codes}
use Rattle.format_table.specs.Columns.{cents, fields, flags, one, student, year}
use Rattle.format_table.specs.Parts.{Slot}
use Rattle.format_table.specs.Tables.{KindRow}
use Rattle.format_table.specs.declared.field.Form.TheVariants.{U8, U32, Word}

-- amounts of dollars below a million
abbrev pub dollars : List ℕ → List Slot
dollars words = fields [] words U32 (pos 0) (pos 999999)

-- the annual limits of each level of study, and the aggregate limits
abbrev pub limit_slots : List Slot
limit_slots =
    dollars (codes "sub_1 sub_2 sub_3 sub_4 dependent_1 dependent_2 dependent_3 independent_1 independent_2 independent_3")
    ++ dollars (codes "graduate aggregate_sub_1 aggregate_sub_2 aggregate_1 aggregate_2 aggregate_3")

abbrev pub limits_slots : List Slot
limits_slots = year ∷ limit_slots

abbrev pub borrower_slots : List Slot
borrower_slots =
    student ∷ year ∷ one (codes "transaction") U8 (pos 1) (pos 99) ∷ one (codes "level") U8 (pos 1) (pos 4) ∷ flags (codes "independent")
    ++ dollars (codes "need cost")

abbrev pub before_slots : List Slot
before_slots = student ∷ dollars (codes "sub total")

-- of a loan, and of a cancellation
abbrev pub loan_slots : List Slot
loan_slots = student ∷ year ∷ one (codes "program") Word (pos 0) (pos 1) ∷ cents (codes "cents")

-- the words of a loan's program, by its place
abbrev pub loan_words : List (List ℕ)
loan_words = codes "unsub" ∷ codes "sub" ∷ []

abbrev pub loan_kinds : List KindRow
loan_kinds =
    record { code = 101; name = codes "limits"; slots = limits_slots } ∷ record { code = 102; name = codes "borrower"; slots = borrower_slots }
    ∷ record { code = 103; name = codes "before"; slots = before_slots } ∷ record { code = 104; name = codes "lend"; slots = loan_slots }
    ∷ record { code = 105; name = codes "cancel"; slots = loan_slots } ∷ []
