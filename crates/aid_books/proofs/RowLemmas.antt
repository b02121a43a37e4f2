-- In a table that rises, the last row that begins below an amount is the one that begins below it and whose successor
-- doesn't.
use Rattle.std.proofs.Common.{◌≡◌, inl, inr, ℕ, zero, suc, ◌<◌, Bool, true, false, ℤ, ◌<ℤ◌, ◌≤ℤ◌, int_lt, List, [], ◌∷◌, length, reverse, find, All, slice_get, get_or, Option, Some, None, IfSome, IfNone, if◌then◌else◌, refl, sym, ap, subst, ◌∙◌, arith}
use Rattle.std.specs.Option.{option_or}
use Rattle.std.proofs.lemmas.Bool.{cases_order}
use Rattle.std.proofs.lemmas.Grind.{reverse_onto}
use Rattle.std.proofs.lemmas.Int.{ints}
use Rattle.std.proofs.lemmas.List.Folds.{find-append}
use Rattle.std.proofs.lemmas.Option.{none-some, slice_get_within, slice_get-get_or}
use Rattle.aid_books.specs.Marginal.{IsMarginal, row_at}
use Rattle.aid_books.specs.RowAt.{IsRowAt}
use Rattle.aid_books.specs.declared.marginal.Bracket.{Bracket}
use Rattle.aid_books.proofs.TableLemmas.{IsMarginal-Follows}

-- a row, where it begins below x
own_row : Bracket → ℤ → Option Bracket
own_row row x = if int_lt row.over x then Some row else None

-- the row of a table is that of its later rows, where these have one
row_at-cons : (row : Bracket) (rows : List Bracket) (x : ℤ) → row_at (row ∷ rows) x ≡ option_or (row_at rows x) (own_row row x)
unfolding own_row
row_at-cons row rows x =
    let below : Bracket → Bool = λ r. int_lt r.over x in
    ap (find below) (reverse_onto rows row []) ∙ find-append below (reverse rows) (row ∷ [])

-- where no later row begins below x, the row is the first one, if that does
own_row-some : (row : Bracket) (x : ℤ) (found : Bracket) → own_row row x ≡ Some found → (row ≡ found) × (row.over <ℤ x)
unfolding own_row
own_row-some row x found e = by_test (int_lt row.over x) refl e where
  by_test : (b : Bool) → int_lt row.over x ≡ b → (if b then Some row else None) ≡ Some found → (row ≡ found) × (row.over <ℤ x)
  by_test true t k = let same : row ≡ found = cc in (same, omega (arith, ints, t))
  by_test false t k = absurd (none-some found k)

own_row-none : (row : Bracket) (x : ℤ) → own_row row x ≡ None → x ≤ℤ row.over
unfolding own_row
own_row-none row x e = by_test (int_lt row.over x) refl e where
  by_test : (b : Bool) → int_lt row.over x ≡ b → (if b then Some row else None) ≡ None → x ≤ℤ row.over
  by_test true t k = absurd (none-some row (sym k))
  by_test false t k = omega (arith, ints, t)

-- where there is no row, each begins at x or above
pub row_at-none : (rows : List Bracket) (x : ℤ) → row_at rows x ≡ None → (k : ℕ) (row : Bracket) → slice_get rows k ≡ Some row → x ≤ℤ row.over
row_at-none [] x e k row is = absurd (none-some row is)
row_at-none (first ∷ rows) x e k row is = by_later (row_at-none rows x) (row_at rows x) refl (sym (row_at-cons first rows x) ∙ e) k is where
  by_later : (row_at rows x ≡ None → (k : ℕ) (row : Bracket) → slice_get rows k ≡ Some row → x ≤ℤ row.over) → (o : Option Bracket) → row_at rows x ≡ o → option_or o (own_row first x) ≡ None → (k : ℕ) → slice_get (first ∷ rows) k ≡ Some row → x ≤ℤ row.over
  by_later among (Some later) f g k is = absurd (none-some later (sym g))
  by_later among None f g zero is = let same : first ≡ row = cc in subst (λ (r : Bracket). x ≤ℤ r.over) same (own_row-none first x g)
  by_later among None f g (suc k) is = among f k row is

-- a place and what stands there
pub record Found (rows : List Bracket) (x : ℤ) (row : Bracket) : Type 0 where
  pub place : ℕ
  pub is : IsRowAt rows x place row

pub row_at-found : (rows : List Bracket) (x : ℤ) (row : Bracket) → row_at rows x ≡ Some row → Found rows x row
row_at-found [] x row e = absurd (none-some row e)
row_at-found (first ∷ rows) x row e = by_later (row_at-found rows x row) (row_at rows x) refl (sym (row_at-cons first rows x) ∙ e) where
  by_later : (row_at rows x ≡ Some row → Found rows x row) → (o : Option Bracket) → row_at rows x ≡ o → option_or o (own_row first x) ≡ Some row → Found (first ∷ rows) x row
  by_later among (Some later) f g =
      let at = among (f ∙ g) in
      record { place = suc at.place; is = record { here = at.is.here; below = at.is.below; last = at.is.last } }
  by_later among None f g =
      let own = own_row-some first x row g in
      record {
        place = zero;
        is = record { here = ap Some own.0; below = subst (λ (r : Bracket). r.over <ℤ x) own.0 own.1; last = λ next is. row_at-none rows x f 0 next is };
      }

-- later rows begin above earlier ones
rises : (rows : List Bracket) → IsMarginal rows → (j k : ℕ) (row later : Bracket) → slice_get rows j ≡ Some row → slice_get rows k ≡ Some later → j < k → row.over <ℤ later.over
rises rows m j zero row later is at below = absurd (omega arith)
rises rows m j (suc k) row later is at below =
    let inside : suc k < length rows = slice_get_within rows (suc k) later at in
    let before = get_or rows k row in
    let here : slice_get rows k ≡ Some before = slice_get-get_or rows k row (omega arith) in
    let step = (IsMarginal-Follows rows m k before later (here, at)).rises in
    elim (cases_order j k) [
      | inl same ↦ let is_before : row ≡ before = let e : slice_get rows k ≡ Some row = subst (λ (i : ℕ). slice_get rows i ≡ Some row) same is in cc in subst (λ (r : Bracket). r.over <ℤ later.over) (sym is_before) step
      | inr rest ↦ elim rest [
        | inl less ↦ let earlier = rises rows m j k row before is here less in omega (arith, ints)
        | inr more ↦ absurd (omega arith)
      ]
    ]

not_before : (rows : List Bracket) (x : ℤ) → IsMarginal rows → (j k : ℕ) (row other : Bracket) → IsRowAt rows x j row → IsRowAt rows x k other → j < k → ⊥
not_before rows x m j k row other p q less =
    let inside : k < length rows = slice_get_within rows k other q.here in
    let next = get_or rows (suc j) row in
    let here : slice_get rows (suc j) ≡ Some next = slice_get-get_or rows (suc j) row (omega arith) in
    let above = p.last next here in
    let under = q.below in
    elim (cases_order (suc j) k) [
      | inl same ↦ let is_next : other ≡ next = let e : slice_get rows (suc j) ≡ Some other = subst (λ (i : ℕ). slice_get rows i ≡ Some other) (sym same) q.here in cc in let at : x ≤ℤ other.over = subst (λ (r : Bracket). x ≤ℤ r.over) (sym is_next) above in omega (arith, ints)
      | inr rest ↦ elim rest [
        | inl fewer ↦ let up = rises rows m (suc j) k next other here q.here fewer in omega (arith, ints)
        | inr more ↦ omega arith
      ]
    ]

-- there is only one such row, and the table has it
pub row_at-only : (rows : List Bracket) (x : ℤ) → IsMarginal rows → (k : ℕ) (row : Bracket) → IsRowAt rows x k row → row_at rows x ≡ Some row
row_at-only rows x m k row p = by_row (row_at rows x) refl where
  by_row : (o : Option Bracket) → row_at rows x ≡ o → o ≡ Some row
  by_row None e = let above = row_at-none rows x e k row p.here in let below = p.below in absurd (omega (arith, ints))
  by_row (Some other) e =
      let q = row_at-found rows x other e in
      elim (cases_order k q.place) [
        | inl same ↦ let at : slice_get rows k ≡ Some other = subst (λ (i : ℕ). slice_get rows i ≡ Some other) (sym same) q.is.here in sym at ∙ p.here
        | inr rest ↦ elim rest [
          | inl less ↦ absurd (not_before rows x m k q.place row other p q.is less)
          | inr more ↦ absurd (not_before rows x m q.place k other row q.is p more)
        ]
      ]

-- what the row of a table is
pub record TellsRow (rows : List Bracket) (x : ℤ) (o : Option Bracket) : Type 0 where
  pub found : IfSome o (λ row. (k : ℕ) × IsRowAt rows x k row)
  pub only : (k : ℕ) (row : Bracket) → IsRowAt rows x k row → o ≡ Some row
  pub none : IfNone o (All (λ row. x ≤ℤ row.over) rows)

pub TellsRow-row_at : (rows : List Bracket) (x : ℤ) → IsMarginal rows → TellsRow rows x (row_at rows x)
TellsRow-row_at rows x m = record { found = found (row_at rows x) refl; only = row_at-only rows x m; none = none (row_at rows x) refl } where
  found : (o : Option Bracket) → row_at rows x ≡ o → IfSome o (λ row. (k : ℕ) × IsRowAt rows x k row)
  found None e = tt
  found (Some row) e = let at = row_at-found rows x row e in (at.place, at.is)

  none : (o : Option Bracket) → row_at rows x ≡ o → IfNone o (All (λ row. x ≤ℤ row.over) rows)
  none None e = λ k d l. row_at-none rows x e k (get_or rows k d) (slice_get-get_or rows k d l)
  none (Some row) e = tt
