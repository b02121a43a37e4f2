-- The rows that are told of, one after the other.
use Rattle.std.proofs.Common.{◌≡◌, ℕ, Bool, zero, suc, ◌+◌, ◌<◌, List, [], ◌∷◌, length, get_or, refl, sym, ap, ap₂, ◌∙◌, arith}
use Rattle.log_desks.specs.Desks.{DeskView}
use Rattle.log_machine.specs.Names.{entries_of, rows_of}
use Rattle.log_machine.specs.declared.names.Filed.{Filed}
use Rattle.log_machine.specs.declared.names.RowName.{RowName}
use Rattle.log_desk_runs.specs.Names.{name_of, names_of}

module _ {Entry Lines : Type 0} (same : Entry → Entry → Bool) (desks : List (DeskView Entry Lines)) where
  pub names_at : (position : ℕ) (rows : List RowName) (k : ℕ) (d e : RowName) → k < length rows → get_or (names_of same desks position rows) k d ≡ name_of same desks (position + k) (get_or rows k e)
  names_at position [] k d e lt = absurd (omega (arith, lt))
  names_at position (by ∷ rows) zero d e lt = ap (λ (n : ℕ). name_of same desks n by) (let at : position ≡ position + 0 = omega arith in at)
  names_at position (by ∷ rows) (suc k) d e lt =
      names_at (position + 1) rows k d e (omega (arith, lt)) ∙ ap (λ (n : ℕ). name_of same desks n (get_or rows k e)) (let at : position + 1 + k ≡ position + suc k = omega arith in at)

  pub length-names : (position : ℕ) (rows : List RowName) → length (names_of same desks position rows) ≡ length rows
  length-names position [] = refl
  length-names position (by ∷ rows) = ap suc (length-names (position + 1) rows)

  -- the name at a place
  pub name_told : (position : ℕ) (rows : List RowName) (k at : ℕ) (by name : RowName) → k < length rows → by ≡ get_or rows k by → at ≡ position + k → name ≡ name_of same desks at by
      → name ≡ get_or (names_of same desks position rows) k name
  name_told position rows k at by name lt is here told =
      told ∙ (ap₂ (λ (n : ℕ) (r : RowName). name_of same desks n r) here is ∙ sym (names_at position rows k name by lt))

  -- an entry with the row that is told of for it
  abbrev pub told_by : ℕ → Filed Entry → Filed Entry
  told_by position f = record { entry = f.entry; by = name_of same desks position f.by }

  abbrev pub told_all : ℕ → List (Filed Entry) → List (Filed Entry)
  told_all position [] = []
  told_all position (f ∷ list) = told_by position f ∷ told_all (position + 1) list

  pub entries_told : (position : ℕ) (list : List (Filed Entry)) → entries_of (told_all position list) ≡ entries_of list
  entries_told position [] = refl
  entries_told position (f ∷ list) = ap (λ l. f.entry ∷ l) (entries_told (position + 1) list)

  pub rows_told : (position : ℕ) (list : List (Filed Entry)) → rows_of (told_all position list) ≡ names_of same desks position (rows_of list)
  rows_told position [] = refl
  rows_told position (f ∷ list) = ap (λ l. name_of same desks position f.by ∷ l) (rows_told (position + 1) list)

  pub length-told : (position : ℕ) (list : List (Filed Entry)) → length (told_all position list) ≡ length list
  length-told position [] = refl
  length-told position (f ∷ list) = ap suc (length-told (position + 1) list)

  pub told_at : (position : ℕ) (list : List (Filed Entry)) (k : ℕ) (d : Filed Entry) → k < length list → get_or (told_all position list) k d ≡ told_by (position + k) (get_or list k d)
  told_at position [] k d lt = absurd (omega (arith, lt))
  told_at position (f ∷ list) zero d lt = ap (λ (n : ℕ). told_by n f) (let at : position ≡ position + 0 = omega arith in at)
  told_at position (f ∷ list) (suc k) d lt =
      told_at (position + 1) list k d (omega (arith, lt)) ∙ ap (λ (n : ℕ). told_by n (get_or list k d)) (let at : position + 1 + k ≡ position + suc k = omega arith in at)
