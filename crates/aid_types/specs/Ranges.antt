-- The ranges of the numbers that filings hold.
use Rattle.std.specs.Prelude.{ℕ, ◌*◌, ◌≤◌, nat_le, ℤ, pos, neg_ℤ, ◌≤ℤ◌, int_le, unsigned_abs, Bool, ◌&&◌, List, IsTrue}
use Rattle.std.specs.List.{list_all}

-- low to high
abbrev pub IsBetween : ℕ → ℕ → ℕ → Type 0
IsBetween low high n = (low ≤ n) × (n ≤ high)

-- the same for a number that may be negative
abbrev pub IsWithin : ℤ → ℤ → ℤ → Type 0
IsWithin low high z = (low ≤ℤ z) × (z ≤ℤ high)

-- an amount of a household or of a book, in dollars
abbrev pub IsAmount : ℤ → Type 0
IsAmount z = IsWithin (pos 0) (pos 99999999) z

-- an amount that may be negative, as an adjusted gross income
abbrev pub IsSignedAmount : ℤ → Type 0
IsSignedAmount z = IsWithin (neg_ℤ (pos 99999999)) (pos 99999999) z

-- a sum of at most n amounts, each of less than a hundred million dollars either way
abbrev pub IsSumOf : ℕ → ℤ → Type 0
IsSumOf n z = unsigned_abs z ≤ n * 100000000

-- an amount of a book that is at most 0
abbrev pub IsFloor : ℤ → Type 0
IsFloor z = IsWithin (neg_ℤ (pos 999999)) (pos 0) z

-- a rate in ten-thousandths, and a percent
abbrev pub IsRate : ℤ → Type 0
IsRate z = IsWithin (pos 0) (pos 10000) z

abbrev pub IsPercent : ℤ → Type 0
IsPercent z = IsWithin (pos 1) (pos 9999) z

-- a Student Aid Index: -1,500, the statute's least (HEA 473(b)(2)), to 999,999 (SAI and Pell Grant Eligibility Guide)
abbrev pub IsIndex : ℤ → Type 0
IsIndex z = IsWithin (neg_ℤ (pos 1500)) (pos 999999) z

-- the test of an amount
abbrev pub is_amount : ℤ → Bool
is_amount z = int_le (pos 0) z && int_le z (pos 99999999)

-- each of a list is an amount: a test, so that it computes at a literal
abbrev pub EachIsAmount : List ℤ → Type 0
EachIsAmount zs = IsTrue (list_all is_amount zs)

-- cents of one filing, below a million dollars: a test of each of a list
abbrev pub is_cents : ℕ → Bool
is_cents n = nat_le n 99999999

abbrev pub EachIsCents : List ℕ → Type 0
EachIsCents ns = IsTrue (list_all is_cents ns)
