-- What the tests of tables say of rows that are next to one another, and the row that a table has at an amount.
use Rattle.std.proofs.Common.{◌≡◌, ℕ, zero, suc, ◌≤◌, true, ◌&&◌, ℤ, ◌<ℤ◌, int_lt, List, [], ◌∷◌, length, slice_get, Some, option_map, sym, subst, arith}
use Rattle.std.specs.Ordering.{int_eq}
use Rattle.std.proofs.lemmas.Bool.{and_parts, true≢false}
use Rattle.std.proofs.lemmas.Bool.Decides.{Decides-int_eq}
use Rattle.std.proofs.lemmas.Int.{ints}
use Rattle.std.proofs.lemmas.Option.{none-some}
use Rattle.aid_books.specs.Ages.{IsByAge, rises_from}
use Rattle.aid_books.specs.Marginal.{IsMarginal, goes_on, row_value}
use Rattle.aid_books.specs.ValidBook.{AreNeighbours}
use Rattle.aid_books.specs.declared.ages.AgeRow.{AgeRow}
use Rattle.aid_books.specs.declared.marginal.Bracket.{Bracket}

some_same : {A : Type 0} (x y : A) → Some x ≡ Some y → x ≡ y
some_same x y e = cc

-- two rows of a table by amount
pub record Follows (row next : Bracket) : Type 0 where
  pub rises : row.over <ℤ next.over
  pub goes_on : next.base ≡ row_value row next.over

follows : (row next : Bracket) → (int_lt row.over next.over && int_eq next.base (row_value row next.over)) ≡ true → Follows row next
follows row next h =
    let k = and_parts (int_lt row.over next.over) (int_eq next.base (row_value row next.over)) h in
    record { rises = omega (arith, ints, k.0); goes_on = (Decides-int_eq next.base (row_value row next.over)).0 k.1 }

goes_on-Follows : (first : Bracket) (rows : List Bracket) → goes_on first rows ≡ true → (k : ℕ) (row next : Bracket) → AreNeighbours (first ∷ rows) k row next → Follows row next
goes_on-Follows first [] h zero row next n = absurd (none-some next n.1)
goes_on-Follows first [] h (suc k) row next n = absurd (none-some row n.0)
goes_on-Follows first (second ∷ rows) h zero row next n =
    let parts = and_parts (int_lt first.over second.over && int_eq second.base (row_value first second.over)) (goes_on second rows) h in
    let row_is = some_same first row n.0 in
    let next_is = some_same second next n.1 in
    subst (λ (r : Bracket). Follows r next) row_is (subst (λ (r : Bracket). Follows first r) next_is (follows first second parts.0))
goes_on-Follows first (second ∷ rows) h (suc k) row next n =
    let parts = and_parts (int_lt first.over second.over && int_eq second.base (row_value first second.over)) (goes_on second rows) h in
    goes_on-Follows second rows parts.1 k row next n

pub IsMarginal-Follows : (rows : List Bracket) → IsMarginal rows → (k : ℕ) (row next : Bracket) → AreNeighbours rows k row next → Follows row next
IsMarginal-Follows [] h k row next n = absurd (none-some row n.0)
IsMarginal-Follows (first ∷ rows) h k row next n = goes_on-Follows first rows h k row next n

pub IsMarginal-length : (rows : List Bracket) → IsMarginal rows → 1 ≤ length rows
IsMarginal-length [] h = absurd (true≢false (sym h))
IsMarginal-length (first ∷ rows) h = omega arith

-- two rows of a table by age
rises_from-rises : (first : AgeRow) (rows : List AgeRow) → rises_from first rows ≡ true → (k : ℕ) (row next : AgeRow) → AreNeighbours (first ∷ rows) k row next → row.start <ℤ next.start
rises_from-rises first [] h zero row next n = absurd (none-some next n.1)
rises_from-rises first [] h (suc k) row next n = absurd (none-some row n.0)
rises_from-rises first (second ∷ rows) h zero row next n =
    let parts = and_parts (int_lt first.start second.start) (rises_from second rows) h in
    let rises : first.start <ℤ second.start = omega (arith, ints, parts.0) in
    subst (λ (r : AgeRow). r.start <ℤ next.start) (some_same first row n.0) (subst (λ (r : AgeRow). first.start <ℤ r.start) (some_same second next n.1) rises)
rises_from-rises first (second ∷ rows) h (suc k) row next n =
    rises_from-rises second rows (and_parts (int_lt first.start second.start) (rises_from second rows) h).1 k row next n

pub IsByAge-rises : (rows : List AgeRow) → IsByAge rows → (k : ℕ) (row next : AgeRow) → AreNeighbours rows k row next → row.start <ℤ next.start
IsByAge-rises [] h k row next n = absurd (none-some row n.0)
IsByAge-rises (first ∷ rows) h k row next n = rises_from-rises first rows h k row next n

pub IsByAge-length : (rows : List AgeRow) → IsByAge rows → 1 ≤ length rows
IsByAge-length [] h = absurd (true≢false (sym h))
IsByAge-length (first ∷ rows) h = omega arith

-- a first row of which an equation of optional figures speaks
pub first_row : {A : Type 0} (figure value : A → ℤ) (rows : List A) (row : A) → option_map figure (slice_get rows 0) ≡ option_map value (slice_get rows 0) → slice_get rows 0 ≡ Some row → figure row ≡ value row
first_row figure value rows row e is = some_same (figure row) (value row) (rw is at e)

pub first_row_at : {A : Type 0} (figure : A → ℤ) (at : ℤ) (rows : List A) (row : A) → option_map figure (slice_get rows 0) ≡ Some at → slice_get rows 0 ≡ Some row → figure row ≡ at
first_row_at figure at rows row e is = some_same (figure row) at (rw is at e)
