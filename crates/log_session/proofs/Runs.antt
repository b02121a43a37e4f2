-- Rows that were answered, and one row more.
use Rattle.std.proofs.Common.{◌≡◌, ℕ, ◌+◌, List, [], ◌∷◌, ◌++◌, length, Result, refl, sym, ◌∙◌, ap, arith, append_assoc}
use Rattle.std.proofs.lemmas.List.{append-nil}
use Rattle.io_traits.specs.declared.disk.Disk.{Ghosts}
use Rattle.log_machine.specs.Scheme.{Scheme, Semantics}
use Rattle.log_machine.specs.Texts.{Texts, after_row, after_rows, lines_of, row_line}
use Rattle.log_session.specs.Links.{IsLink, Runs, begun, answered}

module _ {Entry Operation Response Error : Type 0} (semantics : Semantics Entry Operation Response) where
  -- the list after one row more
  pub after_rows-push : (past : List Entry) (rows : List (Result Operation Error)) (row : Result Operation Error)
      → after_rows semantics past (rows ++ row ∷ []) ≡ after_row semantics (after_rows semantics past rows) row
  after_rows-push past [] row = refl
  after_rows-push past (first ∷ rows) row = after_rows-push (after_row semantics past first) rows row

  -- the lines of one row more
  pub lines_of-push : (texts : Texts Operation Response Error) (past : List Entry) (number : ℕ) (rows : List (Result Operation Error)) (row : Result Operation Error)
      → lines_of semantics texts past number (rows ++ row ∷ []) ≡ lines_of semantics texts past number rows ++ row_line semantics texts (after_rows semantics past rows) (number + length rows) row
  lines_of-push texts past number [] row =
      append-nil (row_line semantics texts past number row) ∙ ap (λ (n : ℕ). row_line semantics texts past n row) (omega arith)
  lines_of-push texts past number (first ∷ rows) row =
      ap (λ (l : List ℕ). row_line semantics texts past number first ++ l) (lines_of-push texts (after_row semantics past first) (number + 1) rows row
      ∙ ap (λ (n : ℕ). lines_of semantics texts (after_row semantics past first) (number + 1) rows ++ row_line semantics texts (after_rows semantics (after_row semantics past first) rows) n row) (omega arith))
      ∙ sym (append_assoc (row_line semantics texts past number first) (lines_of semantics texts (after_row semantics past first) (number + 1) rows) _)

  module _ {D : Type 0} (disk : Ghosts D) (scheme : Scheme Entry) where
    -- a link more at the end of a chain
    pub runs-push : (past : List Entry) (old mid new : D) (rows : List (Result Operation Error)) (row : Result Operation Error)
        → Runs disk scheme semantics rows past old mid → IsLink disk scheme semantics row (after_rows semantics past rows) mid new
        → Runs disk scheme semantics (rows ++ row ∷ []) past old new
    runs-push past old mid new rows row (begun _ _) link = answered row [] past old new new link (begun (after_row semantics past row) new)
    runs-push past old mid new rows row (answered first rest _ _ at _ here later) link =
        answered first (rest ++ row ∷ []) past old at new here (runs-push (after_row semantics past first) at mid new rest row later link)

    -- a chain keeps honesty
    pub runs-honest : (past : List Entry) (old new : D) (rows : List (Result Operation Error)) → Runs disk scheme semantics rows past old new → (disk.tells new).honest ≡ (disk.tells old).honest
    runs-honest past old new rows (begun _ _) = refl
    runs-honest past old new rows (answered first rest _ _ at _ here later) = runs-honest (after_row semantics past first) at new rest later ∙ here.honest
