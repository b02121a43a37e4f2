-- Where a key stands among rows in the order of their keys, and when two lists of such rows are one table.
use Rattle.std.specs.Prelude.{◌≡◌, ℕ, ◌+◌, ◌-◌, ◌<◌, ◌≤◌, ◌⊎◌, List, Option, Some, None, cond, length}
use Rattle.std.specs.BTreeMap.{is_at}
use Rattle.std.specs.Map.{keys_of, lookup}
use Rattle.std.specs.Ordering.{is_eq}
use Rattle.std.specs.List.{slice_get}
use Rattle.std.specs.List.Sorted.{IsStrictlySortedBy}
use Rattle.std.specs.declared.cmp.Ordering.{Ordering}
use Rattle.std.specs.declared.cmp.Ordering.TheVariants.{Less, Equal, Greater}

-- the value of the row with a key
abbrev pub value_at : {K V : Type 0} → (K → K → Ordering) → K → List (K × V) → Option V
value_at {K} {V} cmp key rows = lookup (is_at (cmp key)) rows

-- each key has the value that it had
abbrev pub AreAlike : {K V : Type 0} → (K → K → Ordering) → List (K × V) → List (K × V) → Type 0
AreAlike {K} {V} cmp old new = (q : K) → value_at cmp q new ≡ value_at cmp q old

-- the key has the value, and each other key the value that it had
abbrev pub IsWritten : {K V : Type 0} → (K → K → Ordering) → K → V → List (K × V) → List (K × V) → Type 0
IsWritten {K} {V} cmp key value old new = (q : K) → value_at cmp q new ≡ cond (is_eq (cmp key q)) (Some value) (value_at cmp q old)

-- the row at place i has the key
pub record IsHere {K V : Type 0} (cmp : K → K → Ordering) (key : K) (rows : List (K × V)) (i : ℕ) : Type 0 where
  pub in_range : i < length rows
  pub same : (e : K × V) → slice_get rows i ≡ Some e → cmp key e.0 ≡ Equal

-- the row before place i has a smaller key
abbrev pub IsAfterSmaller : {K V : Type 0} → (K → K → Ordering) → K → List (K × V) → ℕ → Type 0
IsAfterSmaller {K} {V} cmp key rows i = (j : ℕ) (e : K × V) → j + 1 ≡ i → slice_get rows j ≡ Some e → cmp key e.0 ≡ Greater

-- the row at place i has a greater key
abbrev pub IsBeforeGreater : {K V : Type 0} → (K → K → Ordering) → K → List (K × V) → ℕ → Type 0
IsBeforeGreater {K} {V} cmp key rows i = (e : K × V) → slice_get rows i ≡ Some e → cmp key e.0 ≡ Less

-- no row has the key, and a row with it would go to place i
pub record IsGap {K V : Type 0} (cmp : K → K → Ordering) (key : K) (rows : List (K × V)) (i : ℕ) : Type 0 where
  pub in_range : i ≤ length rows
  pub before : IsAfterSmaller cmp key rows i
  pub after : IsBeforeGreater cmp key rows i

-- there is a row before place i, and the key is below its key
pub record IsBelowPrior {K V : Type 0} (cmp : K → K → Ordering) (key : K) (rows : List (K × V)) (i : ℕ) : Type 0 where
  pub prior : 0 < i
  pub below : (e : K × V) → slice_get rows (i - 1) ≡ Some e → cmp key e.0 ≡ Less

-- tail and main rows, each in the order of their keys, and no key in both
pub record AreApart {K V : Type 0} (cmp : K → K → Ordering) (tail main : List (K × V)) : Type 0 where
  pub tail_sorted : IsStrictlySortedBy cmp (keys_of tail)
  pub main_sorted : IsStrictlySortedBy cmp (keys_of main)
  pub apart : (q : K) → (lookup (is_at (cmp q)) tail ≡ None) ⊎ (lookup (is_at (cmp q)) main ≡ None)

-- the rows of a table of slots by key, and the rows that stand at these slots: each key's slot is the place of a row with
-- that key, and the place of each row is the slot of its key, so that no key stands twice
pub record ArePlaced {K V : Type 0} (cmp : K → K → Ordering) (slots : List (K × ℕ)) (rows : List (K × V)) : Type 0 where
  pub count : length slots ≡ length rows
  pub here : (q : K) (slot : ℕ) → value_at cmp q slots ≡ Some slot → IsHere cmp q rows slot
  pub once : (slot : ℕ) (row : K × V) → slice_get rows slot ≡ Some row → value_at cmp row.0 slots ≡ Some slot

-- each old row keeps its slot and its key; its value may be another
abbrev pub AreStaying : {K V : Type 0} → List (K × V) → List (K × V) → Type 0
AreStaying {K} {V} old new = (slot : ℕ) (row : K × V) → slice_get old slot ≡ Some row → (v : V) × (slice_get new slot ≡ Some (row.0, v))

-- the looks that a search of the tail takes at most, and the rows at which it is merged at the latest: 2 to the power of the looks
abbrev pub tail_looks : ℕ
tail_looks = 10

abbrev pub tail_size : ℕ
tail_size = 1024
