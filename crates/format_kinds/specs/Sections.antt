-- What is known of numbers of which a part is read next.
use Rattle.std.specs.Prelude.{ℕ, zero, suc, ℤ, pos, int_lt, if◌then◌else◌, Bool, true, false, ◌&&◌, List, [], ◌∷◌, ◌++◌, drop, take, ◌≡◌, IsTrue}
use Rattle.aid_types.specs.Ranges.{IsWithin, is_amount}
use Rattle.format_kinds.specs.Kinds.{book_slots}
use Rattle.format_table.specs.Layout.{AreNumbers}
use Rattle.format_table.specs.Limits.{before}
use Rattle.format_table.specs.Parts.{Slot}

-- the fields of each part of a book behind its form
abbrev pub year_slots : List Slot
year_slots = take 1 (drop 1 book_slots)

abbrev pub pell_slots : List Slot
pell_slots = take 2 (drop 2 book_slots)

abbrev pub percent_slots : List Slot
percent_slots = take 7 (drop 4 book_slots)

abbrev pub poverty_slots : List Slot
poverty_slots = take 27 (drop 11 book_slots)

abbrev pub payroll_slots : List Slot
payroll_slots = take 6 (drop 38 book_slots)

abbrev pub protection_slots : List Slot
protection_slots = take 21 (drop 44 book_slots)

abbrev pub employment_slots : List Slot
employment_slots = take 2 (drop 65 book_slots)

abbrev pub asset_slots : List Slot
asset_slots = take 4 (drop 67 book_slots)

abbrev pub business_slots : List Slot
business_slots = take 1 (drop 71 book_slots)

abbrev pub age_slots : List Slot
age_slots = take 1 (drop 72 book_slots)

abbrev pub schedule_slots : List Slot
schedule_slots = take 5 (drop 73 book_slots)

abbrev pub bracket_slots : List Slot
bracket_slots = take 1 (drop 78 book_slots)

abbrev pub ceiling_slots : List Slot
ceiling_slots = drop 79 book_slots

-- what stands behind `bracket` in a book of this form
abbrev pub last_slots : ℤ → List Slot
last_slots form = if int_lt (pos 1) form then ceiling_slots else []

-- they begin with numbers for these fields, after some others, and are numbers for what comes later too
pub record IsNext (slots : List Slot) (zs : List ℤ) : Type 0 where
  pub earlier : List ℤ
  pub later : List Slot
  pub numbers : AreNumbers (slots ++ later) earlier zs

-- so many of them come next, and are amounts in dollars
abbrev pub are_amounts : ℕ → List ℤ → Bool
are_amounts zero zs = true
are_amounts (suc n) [] = false
are_amounts (suc n) (z ∷ zs) = is_amount z && are_amounts n zs

abbrev pub AreAmounts : ℕ → List ℤ → Type 0
AreAmounts n zs = IsTrue (are_amounts n zs)

-- they are numbers for these fields, after some others, and none is left over
pub record AreLeft (slots : List Slot) (zs : List ℤ) : Type 0 where
  pub earlier : List ℤ
  pub numbers : AreNumbers slots earlier zs

-- they begin with the numbers of `bracket`, the last table of a book, whose schedule has this first rate
pub record AreLast (first_rate : ℤ) (zs : List ℤ) : Type 0 where
  pub earlier : List ℤ
  pub rate : before earlier 2 ≡ first_rate
  pub later : List Slot
  pub numbers : AreNumbers (bracket_slots ++ later) earlier zs

-- they are the numbers behind `bracket` in a book of this form, and none is left over
pub record AreEnd (form : ℤ) (zs : List ℤ) : Type 0 where
  pub of_book : IsWithin (pos 1) (pos 2) form
  pub left : AreLeft (last_slots form) zs
