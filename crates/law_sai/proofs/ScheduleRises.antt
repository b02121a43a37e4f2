-- The value of a rising table, row by row, and that a greater amount has no lesser value.
use Rattle.std.proofs.Common.{◌≡◌, zero, suc, negsuc, Bool, true, false, ◌&&◌, ℤ, pos, ◌-ℤ◌, ◌<ℤ◌, ◌≤ℤ◌, int_lt, List, [], ◌∷◌, reverse, find, Option, Some, None, option_map, unwrap_or, slice_get, arith, refl, sym, ap, ◌∙◌, subst}
use Rattle.std.specs.Prelude.{if◌then◌else◌}
use Rattle.std.specs.List.{All}
use Rattle.std.specs.Ordering.{int_eq}
use Rattle.std.proofs.lemmas.Bool.{and_parts}
use Rattle.std.proofs.lemmas.Bool.Decides.{Decides-int_eq}
use Rattle.std.proofs.lemmas.Grind.{reverse_onto}
use Rattle.std.proofs.lemmas.List.Folds.{find-append}
use Rattle.std.proofs.lemmas.Int.{ints}
use Rattle.std.specs.Option.{option_or}
use Rattle.aid_types.specs.Nearest.{half_up, share}
use Rattle.aid_books.specs.Marginal.{IsBracket, IsMarginal, goes_on, row_at, row_value, value_at}
use Rattle.aid_books.specs.declared.book.Book.{Book}
use Rattle.aid_books.specs.declared.marginal.Bracket.{Bracket}
use Rattle.law_sai.specs.Household.{IsRisingSchedule, schedule_value}
use Rattle.law_sai.proofs.NearestOrder.{share-rises}

lt_from_test : (x y : ℤ) → int_lt x y ≡ true → x <ℤ y
lt_from_test x y h = grind (arith, ints)

le_from_test : (x y : ℤ) → int_lt x y ≡ false → y ≤ℤ x
le_from_test x y h = grind (arith, ints)

-- the last of the rows that begins below x, or else the first
row_at-cons : (row : Bracket) (rows : List Bracket) (x : ℤ)
    → row_at (row ∷ rows) x ≡ option_or (row_at rows x) (if int_lt row.over x then Some row else None)
row_at-cons row rows x =
    ap (find (λ (r : Bracket). int_lt r.over x)) (reverse_onto rows row []) ∙ find-append (λ (r : Bracket). int_lt r.over x) (reverse rows) (row ∷ [])

-- what the rows after a row say of it
record GoesOn (row next : Bracket) (rows : List Bracket) : Type 0 where
  above : row.over <ℤ next.over
  base : next.base ≡ row_value row next.over
  rest : goes_on next rows ≡ true

goes_on-parts : (row next : Bracket) (rows : List Bracket) → goes_on row (next ∷ rows) ≡ true → GoesOn row next rows
goes_on-parts row next rows h =
    let k = and_parts (int_lt row.over next.over && int_eq next.base (row_value row next.over)) (goes_on next rows) h in
    let l = and_parts (int_lt row.over next.over) (int_eq next.base (row_value row next.over)) k.0 in
    record { above = lt_from_test row.over next.over l.0; base = (Decides-int_eq next.base (row_value row next.over)).0 l.1; rest = k.1 }

-- where a row doesn't begin below x, none after it does
none_past : (row : Bracket) (rows : List Bracket) (x : ℤ) → goes_on row rows ≡ true → x ≤ℤ row.over → row_at rows x ≡ None
none_past row [] x h k = refl
none_past row (next ∷ rows) x h k =
    let g = goes_on-parts row next rows h in
    let past : int_lt next.over x ≡ false = grind (arith, ints, g.above) in
    row_at-cons next rows x ∙ (λ i. option_or (none_past next rows x g.rest (omega (arith, ints, g.above)) i) (if past i then Some next else None))

-- the value at x of a row and those after it, where the row begins below x
abbrev value_from : Bracket → List Bracket → ℤ → ℤ
value_from row [] x = row_value row x
value_from row (next ∷ rows) x = if int_lt next.over x then value_from next rows x else row_value row x

contradiction : (over x y : ℤ) → x ≤ℤ y → int_lt over x ≡ true → int_lt over y ≡ false → ⊥
contradiction over x y k e f =
    let p = lt_from_test over x e in
    let q = le_from_test over y f in
    omega (arith, ints)

-- two values of a rule that changes at `over`, where `base` stands between the values below and those above
pub joined : {base : ℤ} (over x y : ℤ) → x ≤ℤ y → (below_x below_y above_x above_y : ℤ) → below_x ≤ℤ below_y
    → (x ≤ℤ over → below_x ≤ℤ base) → (over ≤ℤ y → base ≤ℤ above_y) → above_x ≤ℤ above_y
    → (b c : Bool) → int_lt over x ≡ b → int_lt over y ≡ c → (if b then above_x else below_x) ≤ℤ (if c then above_y else below_y)
joined over x y k below_x below_y above_x above_y below to_base from_base above true true e f = above
joined over x y k below_x below_y above_x above_y below to_base from_base above false false e f = below
joined over x y k below_x below_y above_x above_y below to_base from_base above true false e f = absurd (contradiction over x y k e f)
joined over x y k below_x below_y above_x above_y below to_base from_base above false true e f =
    let p = to_base (le_from_test over x e) in
    let l = lt_from_test over y f in
    let q = from_base (omega (arith, ints)) in
    omega (arith, ints)

-- what the row found gives, where the next row begins below x
or_next : (next : Bracket) (x d : ℤ) (o : Option Bracket)
    → unwrap_or (option_map (λ r. row_value r x) (option_or o (Some next))) d ≡ unwrap_or (option_map (λ r. row_value r x) o) (row_value next x)
or_next next x d None = refl
or_next next x d (Some r) = refl

from_test : (next : Bracket) (rows : List Bracket) (x d : ℤ) (b : Bool) → int_lt next.over x ≡ b → goes_on next rows ≡ true
    → unwrap_or (value_at rows x) (row_value next x) ≡ value_from next rows x
    → unwrap_or (value_at (next ∷ rows) x) d ≡ (if b then value_from next rows x else d)
from_test next rows x d true e h k =
    ap (λ o. unwrap_or (option_map (λ r. row_value r x) o) d) (row_at-cons next rows x ∙ (λ i. option_or (row_at rows x) (if e i then Some next else None)))
    ∙ or_next next x d (row_at rows x) ∙ k
from_test next rows x d false e h k =
    ap (λ o. unwrap_or (option_map (λ r. row_value r x) o) d) (row_at-cons next rows x ∙ (λ i. option_or (none_past next rows x h (le_from_test next.over x e) i) (if e i then Some next else None)))

value_at-from : (row : Bracket) (rows : List Bracket) (x : ℤ) → goes_on row rows ≡ true → unwrap_or (value_at rows x) (row_value row x) ≡ value_from row rows x
value_at-from row [] x h = refl
value_at-from row (next ∷ rows) x h =
    let g = goes_on-parts row next rows h in
    from_test next rows x (row_value row x) (int_lt next.over x) refl g.rest (value_at-from next rows x g.rest)

-- ---- what rises
share-zero : (rate : ℤ) → pos 0 ≤ℤ rate → share (pos 0) rate ≡ pos 0
unfolding half_up
share-zero (pos n) h = grind arith
share-zero (negsuc n) h = absurd (omega (arith, ints))

row_value-rises : (row : Bracket) (x y : ℤ) → pos 0 ≤ℤ row.rate → x ≤ℤ y → row_value row x ≤ℤ row_value row y
row_value-rises row x y h k =
    let r = share-rises (x -ℤ row.over) (y -ℤ row.over) row.rate h (omega (arith, ints)) in
    omega (arith, ints)

row_value-least : (row : Bracket) (y : ℤ) → pos 0 ≤ℤ row.rate → row.over ≤ℤ y → row.base ≤ℤ row_value row y
row_value-least row y rate k =
    let s = share-rises (pos 0) (y -ℤ row.over) row.rate rate (omega (arith, ints)) in
    let z = share-zero row.rate rate in
    omega (arith, ints)

tail : (row : Bracket) (rows : List Bracket) → All IsBracket (row ∷ rows) → All IsBracket rows
tail row rows q = λ k d l. q (suc k) d (omega arith)

-- a row's base is the least value from its beginning on
base-least : (row : Bracket) (rows : List Bracket) (y : ℤ) → goes_on row rows ≡ true → All IsBracket (row ∷ rows) → row.over ≤ℤ y → row.base ≤ℤ value_from row rows y
base-least row [] y h q k = row_value-least row y (q zero row (omega arith)).rate.0 k
base-least row (next ∷ rows) y h q k =
    let g = goes_on-parts row next rows h in
    let rate = (q zero row (omega arith)).rate.0 in
    let base : row.base ≤ℤ next.base = subst (λ z. row.base ≤ℤ z) (sym g.base) (row_value-least row next.over rate (omega (arith, ints, g.above))) in
    past row next rows y k rate base (λ below. base-least next rows y g.rest (tail row (next ∷ rows) q) below) (int_lt next.over y) refl
  where
    past : (row next : Bracket) (rows : List Bracket) (y : ℤ) → row.over ≤ℤ y → pos 0 ≤ℤ row.rate → row.base ≤ℤ next.base
        → (next.over ≤ℤ y → next.base ≤ℤ value_from next rows y) → (b : Bool) → int_lt next.over y ≡ b
        → row.base ≤ℤ (if b then value_from next rows y else row_value row y)
    past row next rows y k rate base further true e = let f = further (grind (arith, ints)) in omega (arith, ints)
    past row next rows y k rate base further false e = row_value-least row y rate k

-- a greater amount has no lesser value, from one row on
value_from-rises : (row : Bracket) (rows : List Bracket) (x y : ℤ) → goes_on row rows ≡ true → All IsBracket (row ∷ rows) → x ≤ℤ y → value_from row rows x ≤ℤ value_from row rows y
value_from-rises row [] x y h q k = row_value-rises row x y (q zero row (omega arith)).rate.0 k
value_from-rises row (next ∷ rows) x y h q k =
    let g = goes_on-parts row next rows h in
    joined next.over x y k (row_value row x) (row_value row y) (value_from next rows x) (value_from next rows y)
    (row_value-rises row x y (q zero row (omega arith)).rate.0 k)
    (λ reached. subst (λ z. row_value row x ≤ℤ z) (sym g.base) (row_value-rises row x next.over (q zero row (omega arith)).rate.0 reached))
    (base-least next rows y g.rest (tail row (next ∷ rows) q))
    (value_from-rises next rows x y g.rest (tail row (next ∷ rows) q) k)
    (int_lt next.over x) (int_lt next.over y) refl refl

-- ---- the schedule
-- the value at x of a table, or else a share of x
value_or : (first : Bracket) (rows : List Bracket) (rate x : ℤ) → goes_on first rows ≡ true
    → unwrap_or (value_at (first ∷ rows) x) (share x rate) ≡ (if int_lt first.over x then value_from first rows x else share x rate)
value_or first rows rate x h = from_test first rows x (share x rate) (int_lt first.over x) refl h (value_at-from first rows x h)

-- a table whose first row begins with the rate's share of its beginning
abbrev Continues : List Bracket → ℤ → Type 0
Continues rows rate = option_map (λ row. row.base) (slice_get rows 0) ≡ option_map (λ row. share row.over rate) (slice_get rows 0)

bracket-rises : (rows : List Bracket) (rate x y : ℤ) → All IsBracket rows → IsMarginal rows → Continues rows rate → pos 0 ≤ℤ rate → x ≤ℤ y
    → unwrap_or (value_at rows x) (share x rate) ≤ℤ unwrap_or (value_at rows y) (share y rate)
bracket-rises [] rate x y q h c r k = share-rises x y rate r k
bracket-rises (first ∷ rows) rate x y q h c r k =
    let base : first.base ≡ share first.over rate = cc c in
    let through = joined first.over x y k (share x rate) (share y rate) (value_from first rows x) (value_from first rows y)
    (share-rises x y rate r k)
    (λ reached. subst (λ z. share x rate ≤ℤ z) (sym base) (share-rises x first.over rate r reached))
    (base-least first rows y h q) (value_from-rises first rows x y h q k) (int_lt first.over x) (int_lt first.over y) refl refl in
    rw (value_or first rows rate x h, value_or first rows rate y h) through

-- below the first row, a table's value is the share
bracket-below : (rows : List Bracket) (rate x : ℤ) → All IsBracket rows → IsMarginal rows → x ≤ℤ pos 0 → unwrap_or (value_at rows x) (share x rate) ≡ share x rate
bracket-below [] rate x q h k = refl
bracket-below (first ∷ rows) rate x q h k =
    let over = (q zero first (omega arith)).over.0 in
    let below : int_lt first.over x ≡ false = test_false first.over x (omega (arith, ints)) in
    value_or first rows rate x h ∙ (λ i. if below i then value_from first rows x else share x rate)
  where
    test_false : (x y : ℤ) → y ≤ℤ x → int_lt x y ≡ false
    test_false x y h = grind (arith, ints)

by_low : (at low vx vy x y : ℤ) → x ≤ℤ y → vx ≤ℤ vy → (at ≤ℤ y → low ≤ℤ vy) → (b c : Bool) → int_lt x at ≡ b → int_lt y at ≡ c
    → (if b then low else vx) ≤ℤ (if c then low else vy)
by_low at low vx vy x y k h l true true e f = omega (arith, ints)
by_low at low vx vy x y k h l false false e f = h
by_low at low vx vy x y k h l true false e f = l (le_from_test y at f)
by_low at low vx vy x y k h l false true e f = absurd (let p = le_from_test x at e in let q = lt_from_test y at f in omega (arith, ints))

-- a greater adjusted available income has no lesser value in a rising schedule
pub schedule_value-rises : (b : Book) (x y : ℤ) → IsRisingSchedule b → x ≤ℤ y → schedule_value b x ≤ℤ schedule_value b y
unfolding schedule_value
schedule_value-rises b x y h k =
    let rate = b.schedule.first_rate in
    let at = b.schedule.low_at in
    let rises = λ (v w : ℤ) (l : v ≤ℤ w). bracket-rises b.bracket rate v w h.rows h.marginal b.bracket_base b.schedule.in_range.2.0 l in
    let least : b.schedule.low ≤ℤ unwrap_or (value_at b.bracket at) (share at rate) =
    subst (λ z. b.schedule.low ≤ℤ z) (sym (bracket-below b.bracket rate at h.rows h.marginal b.schedule.in_range.0.1)) h.low in
    by_low at b.schedule.low _ _ x y k (rises x y k) (λ l. let m = rises at y l in omega (arith, ints)) (int_lt x at) (int_lt y at) refl refl
