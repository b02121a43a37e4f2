-- How far rows were looked at.
use Rattle.std.proofs.Common.{◌≡◌, ℕ, ◌+◌, Bool, IsTrue, List, [], ◌∷◌, ◌++◌, length, map, Result, Ok, Err, refl, sym, ◌∙◌, ap, subst, arith, append_assoc}
use Rattle.std.proofs.lemmas.List.{append-nil, length_push}
use Rattle.io_traits.specs.Whole.{IsCutShort}
use Rattle.log_session.specs.Edges.{Output, HasWritten}
use Rattle.log_machine.specs.Texts.{Texts}
use Rattle.log_session.specs.Checks.{LooksAt, all, unwritten, starved, check_line, check_lines, errors_in}
use Rattle.log_session.specs.declared.checking.CheckStop.TheVariants.{Write, NoMemory}
use Rattle.log_session.specs.declared.checking.CheckTally.{CheckTally}
use Rattle.log_session.proofs.Filed.{split_push}

-- one row more that is no ask, or one that is
errors_in-push : {Operation Error : Type 0} (rows : List (Result Operation Error)) (row : Result Operation Error) → errors_in (rows ++ row ∷ []) ≡ errors_in rows + errors_in (row ∷ [])
errors_in-push [] row = omega arith
errors_in-push (Ok operation ∷ rows) row = errors_in-push rows row
errors_in-push (Err error ∷ rows) row = omega (arith, errors_in-push rows row)

-- the lines of one row more
check_lines-push : {Operation Response Error : Type 0} (texts : Texts Operation Response Error) (fine : ℕ → List ℕ) (number : ℕ) (rows : List (Result Operation Error)) (row : Result Operation Error)
    → check_lines texts fine number (rows ++ row ∷ []) ≡ check_lines texts fine number rows ++ check_line texts fine (number + length rows) row
check_lines-push texts fine number [] row = append-nil (check_line texts fine number row) ∙ ap (λ (n : ℕ). check_line texts fine n row) (omega arith)
check_lines-push texts fine number (first ∷ rows) row =
    ap (λ (l : List ℕ). check_line texts fine number first ++ l) (check_lines-push texts fine (number + 1) rows row
    ∙ ap (λ (n : ℕ). check_lines texts fine (number + 1) rows ++ check_line texts fine n row) (omega arith))
    ∙ sym (append_assoc (check_line texts fine number first) (check_lines texts fine (number + 1) rows) _)

-- of the rows that were left those in front were looked at, and these are left
pub record HasLooked {Operation Response Error : Type 0} (texts : Texts Operation Response Error) (fine : ℕ → List ℕ) (total left : List texts.Meaning) (output : Output) (tally : CheckTally) : Type 0 where
  pub front : List (Result Operation Error)
  pub split : total ≡ map texts.said front ++ left
  pub rows : tally.rows ≡ length front
  pub errors : tally.errors ≡ errors_in front
  pub written : HasWritten (check_lines texts fine 1 front) output

module _ {Operation Response Error : Type 0} {texts : Texts Operation Response Error} {fine : ℕ → List ℕ} {total : List texts.Meaning} where
  -- before the first row
  pub none_looked : (honest : Bool) (text : List ℕ) → HasLooked texts fine total total (record { honest = honest; before = text; after = text }) (record { rows = 0; errors = 0 })
  none_looked honest text = record { front = []; split = refl; rows = refl; errors = refl; written = λ is. sym (append-nil text) }

  module _ {left : List texts.Meaning} {output : Output} {tally : CheckTally} (looked : HasLooked texts fine total left output tally) where
    -- no row is left
    pub all_looked : left ≡ [] → LooksAt texts fine output total (Ok tally)
    all_looked none = record {
      rows = looked.front;
      rest = left;
      taken = looked.split;
      whole = λ is. none;
      looks = all looked.front tally looked.written looked.rows looked.errors;
    }

    -- there is no memory
    pub starved_here : LooksAt texts fine output total (Err NoMemory)
    starved_here = record {
      rows = looked.front;
      rest = left;
      taken = looked.split;
      whole = λ bad. absurd (let no : ⊥ = cc in no);
      looks = starved looked.front looked.written;
    }

    -- at the next row
    module _ (row : Result Operation Error) (rest : List texts.Meaning) (next : left ≡ texts.said row ∷ rest) (line text : List ℕ) (is : line ≡ check_line texts fine (tally.rows + 1) row) where
      line_is : line ≡ check_line texts fine (length looked.front + 1) row
      line_is = is ∙ ap (λ (n : ℕ). check_line texts fine (n + 1) row) looked.rows

      -- its line was cut short
      pub unwritten_here : (IsTrue output.honest → IsCutShort line output.after text)
          → LooksAt texts fine (record { honest = output.honest; before = output.before; after = text }) total (Err Write)
      unwritten_here cut = record {
        rows = looked.front ++ row ∷ [];
        rest = rest;
        taken = split_push texts.said total left rest looked.front row looked.split next;
        whole = λ bad. absurd (let no : ⊥ = cc in no);
        looks = unwritten looked.front row (λ honest.
            subst (λ (t : List ℕ). IsCutShort (check_line texts fine (length looked.front + 1) row) t text) (looked.written honest)
            (subst (λ (l : List ℕ). IsCutShort l output.after text) line_is (cut honest)));
      }

      -- it was looked at
      pub next_looked : (IsTrue output.honest → text ≡ output.after ++ line) → (counted : CheckTally) → counted.rows ≡ tally.rows + 1 → counted.errors ≡ tally.errors + errors_in (row ∷ [])
          → HasLooked texts fine total rest (record { honest = output.honest; before = output.before; after = text }) counted
      next_looked wrote counted more also = record {
        front = looked.front ++ row ∷ [];
        split = split_push texts.said total left rest looked.front row looked.split next;
        rows = omega (arith, length_push looked.front row, looked.rows, more);
        errors = omega (arith, errors_in-push looked.front row, looked.errors, also);
        written = λ honest.
            wrote honest ∙ ap (λ (t : List ℕ). t ++ line) (looked.written honest) ∙ append_assoc output.before (check_lines texts fine 1 looked.front) line
            ∙ ap (λ (t : List ℕ). output.before ++ t) (ap (λ (l : List ℕ). check_lines texts fine 1 looked.front ++ l)
            (line_is ∙ ap (λ (n : ℕ). check_line texts fine n row) (omega arith)) ∙ sym (check_lines-push texts fine 1 looked.front row));
      }
