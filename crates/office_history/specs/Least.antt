-- The least and the first of a list, the cells of a sum, and an enrollment that stands: said by what they are, and not by how
-- they are found.
use Rattle.std.specs.Prelude.{◌+◌, ◌≡◌, ◌≢◌, ℕ, ◌<◌, ◌==◌, ◌&&◌, ◌||◌, nat_lt, Bool, true, false, List, Some, slice_get}
use Rattle.std.specs.List.{All, AllPairs, Contains}
use Rattle.aid_types.specs.declared.number.Key.{Key}
use Rattle.aid_filings.specs.declared.filing.EnrollFacts.{EnrollFacts}
use Rattle.aid_filings.specs.declared.filing.Filing.{Filing}
use Rattle.aid_filings.specs.declared.filing.What.TheVariants.{Enroll}
use Rattle.office_history.specs.Past.{FiledTerm, on_file}
use Rattle.office_history.specs.Net.{Cell, is_cell, paid}

-- nothing in the list passes the test
abbrev pub NonePasses : {A : Type 0} → (A → Bool) → List A → Type 0
NonePasses passes xs = All (λ x. passes x ≡ false) xs

-- this one is in the list and passes, and none that passes comes before it
pub record IsLeastBy {A : Type 0} (is_before : A → A → Bool) (passes : A → Bool) (xs : List A) (x : A) : Type 0 where
  pub among : Contains xs x
  pub accepted : passes x ≡ true
  pub least : All (λ y. passes y ≡ true → is_before y x ≡ false) xs

-- the number that one of the list has which passes, and none that passes has a lesser one
pub record IsLeastNumber {A : Type 0} (number : A → ℕ) (passes : A → Bool) (xs : List A) (n : ℕ) : Type 0 where
  pub thing : A
  pub least : IsLeastBy (λ x y. nat_lt (number x) (number y)) passes xs thing
  pub own : number thing ≡ n

-- of two different things of the list that pass, one comes before the other
abbrev pub AreOrdered : {A : Type 0} → (A → A → Bool) → (A → Bool) → List A → Type 0
AreOrdered {A} is_before passes xs = (x y : A) → Contains xs x → Contains xs y → passes x ≡ true → passes y ≡ true →
    is_before x y ≡ false → is_before y x ≡ false → x ≡ y

-- a lesser school code, or the same code and a lesser term number
abbrev pub is_before : FiledTerm → FiledTerm → Bool
is_before t u = nat_lt t.school u.school || (t.school == u.school && nat_lt t.term.number u.term.number)

-- the filing at this index, counted from 0 from the oldest on, passes, and none before it does
pub record IsFirst (passes : Filing → Bool) (history : List Filing) (index : ℕ) : Type 0 where
  pub filing : Filing
  pub here : slice_get history index ≡ Some filing
  pub accepted : passes filing ≡ true
  pub first : (earlier : ℕ) (other : Filing) → earlier < index → slice_get history earlier ≡ Some other → passes other ≡ false

-- the filing at a term's position is its calendar
pub record IsFiledTerm (history : List Filing) (t : FiledTerm) : Type 0 where
  pub index : ℕ
  pub filing : Filing
  pub place : t.position ≡ index + 1
  pub here : slice_get history index ≡ Some filing
  pub calendar : on_file filing.key.school t.position filing.what ≡ Some t

-- a list of cells, none twice, that has each cell at which anything was paid
pub record HoldsPaid (past : List Filing) (cells : List Cell) : Type 0 where
  pub once : AllPairs (λ c d. c ≢ d) cells
  pub each : (c : Cell) → 0 < paid past (is_cell c) → Contains cells c

-- the cell's school has filed an enrollment of its student in its term
pub record IsEnrolled (history : List Filing) (c : Cell) : Type 0 where
  pub key : Key
  pub facts : EnrollFacts
  pub stands : Contains history (record { key = key; what = Enroll facts })
  pub school : key.school ≡ c.school
  pub student : facts.student ≡ c.student
  pub year : facts.year ≡ c.year
  pub term : facts.term ≡ c.term
