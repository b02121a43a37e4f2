-- The ranges of the numbers that loan filings hold.
use Rattle.std.specs.Prelude.{◌≡◌, ℕ, Bool, true, false, nat_le, List, IsTrue, length}
use Rattle.std.specs.List.{list_all}
use Rattle.aid_types.specs.declared.number.Program.{Program}
use Rattle.aid_types.specs.declared.number.Program.TheVariants.{Unsub, Sub}

-- dollars of one limit, below a million: a test of each of a list
abbrev pub is_dollars : ℕ → Bool
is_dollars n = nat_le n 999999

abbrev pub EachIsDollars : List ℕ → Type 0
EachIsDollars ns = IsTrue (list_all is_dollars ns)

-- a year has so many limits of each sort: one at each level that they are for
abbrev pub HaveLevels : List ℕ → List ℕ → List ℕ → List ℕ → List ℕ → Type 0
HaveLevels sub dependent independent aggregate_sub aggregate =
    (length sub ≡ 4) × (length dependent ≡ 3) × (length independent ≡ 3) × (length aggregate_sub ≡ 2) × (length aggregate ≡ 3)

-- a program of Direct Loans to students (HEA 455(a)(2))
abbrev pub is_loan : Program → Bool
is_loan Unsub = true
is_loan Sub = true
is_loan _ = false
