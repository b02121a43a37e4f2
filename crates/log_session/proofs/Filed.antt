-- How far the rows of a session were filed.
use Rattle.std.proofs.Common.{◌≡◌, ℕ, ◌+◌, ◌<◌, Bool, IsTrue, List, [], ◌∷◌, ◌++◌, length, map, Option, Some, None, Result, Ok, Err, refl, sym, ◌∙◌, ap, subst, arith, append_assoc}
use Rattle.std.specs.Prelude.{IfOk, MatchOption}
use Rattle.std.specs.Result.{IsErrAnd}
use Rattle.std.proofs.lemmas.List.{append-nil, length_push, map-append}
use Rattle.io_traits.specs.declared.disk.Disk.{Ghosts}
use Rattle.io_traits.specs.Whole.{IsCutShort}
use Rattle.log_machine.specs.Scheme.{Scheme, Semantics}
use Rattle.log_session.specs.Edges.{Output, HasWritten}
use Rattle.log_machine.specs.Texts.{Texts, after_row, after_rows, lines_of, row_line}
use Rattle.log_session.specs.Links.{IsLink, Runs, begun}
use Rattle.log_session.specs.Sessions.{Files, StopsRow, Takes, all, unwritten, faulted, starved}
use Rattle.log_session.specs.declared.stop.FileStop.{FileStop}
use Rattle.log_session.specs.declared.stop.FileStop.TheVariants.{Write, DiskFault, NoMemory}
use Rattle.log_session.proofs.Runs.{after_rows-push, lines_of-push, runs-push}

-- at an exit with this error
pub at_err : {T E : Type 0} (r : Result T E) (x : E) (P : Result T E → Type 0) → IsErrAnd r (λ e. e ≡ x) → P (Err x) → P r
at_err (Ok v) x P is p = absurd is
at_err {T} {E} (Err e) x P is p = subst (λ (y : E). P (Err y)) (sym is) p

-- one row more was taken from those that were left
pub split_push : {A B : Type 0} (f : A → B) (total left rest : List B) (front : List A) (row : A) → total ≡ map f front ++ left → left ≡ f row ∷ rest → total ≡ map f (front ++ row ∷ []) ++ rest
split_push f total left rest front row split next =
    split ∙ ap (λ (l : List _). map f front ++ l) next ∙ sym (append_assoc (map f front) (f row ∷ []) rest) ∙ ap (λ (l : List _). l ++ rest) (sym (map-append f front (row ∷ [])))

-- a row was read ahead: what was left before is that row and what is left behind it, or nothing; where there was no memory, it may be anything
abbrev pub IsReadAhead : {Row E Meaning : Type 0} → (Row → Meaning) → Result (Option Row) E → List Meaning → List Meaning → Type 0
IsReadAhead said read left behind = IfOk read (λ next. MatchOption next ((left ≡ []) × (behind ≡ [])) (λ row. left ≡ said row ∷ behind))

-- how many rows are known to be left: the one that was read ahead, and those behind it
pub rows_ahead : {Row E : Type 0} → Result (Option Row) E → ℕ → ℕ
rows_ahead (Ok (Some row)) behind = behind + 1
rows_ahead (Ok None) behind = 0
rows_ahead (Err e) behind = 0

-- a row that was read ahead is taken, and the next one is read
pub fewer_ahead : {Row E Meaning : Type 0} (said : Row → Meaning) (held read : Result (Option Row) E) (row : Row) (left behind : List Meaning) → held ≡ Ok (Some row) → IsReadAhead said read left behind → rows_ahead read (length behind) < rows_ahead held (length left)
unfolding rows_ahead
fewer_ahead said held (Ok (Some next)) row left behind is ahead = rw is (omega (arith, ap length ahead))
fewer_ahead said held (Ok None) row left behind is ahead = rw is (omega arith)
fewer_ahead said held (Err e) row left behind is ahead = rw is (omega arith)

-- of the rows that were left those in front were filed, and these are left
pub record HasFiled {D Entry Operation Response Error : Type 0} (disk : Ghosts D) (scheme : Scheme Entry) (semantics : Semantics Entry Operation Response) (texts : Texts Operation Response Error) (total left : List texts.Meaning) (past now : List Entry) (old new : D) (output : Output) (number : ℕ) : Type 0 where
  pub front : List (Result Operation Error)
  pub split : total ≡ map texts.said front ++ left
  pub counted : number ≡ length front
  pub runs : Runs disk scheme semantics front past old new
  pub list : now ≡ after_rows semantics past front
  pub written : HasWritten (lines_of semantics texts past 1 front) output

module _ {D Entry Operation Response Error : Type 0} {disk : Ghosts D} {scheme : Scheme Entry} {semantics : Semantics Entry Operation Response} {texts : Texts Operation Response Error} {total : List texts.Meaning} {past : List Entry} {old : D} where
  -- before the first row
  pub none_filed : (honest : Bool) (text : List ℕ) → HasFiled disk scheme semantics texts total total past past old old (record { honest = honest; before = text; after = text }) 0
  none_filed honest text = record { front = []; split = refl; counted = refl; runs = begun past old; list = refl; written = λ is. sym (append-nil text) }

  module _ {left : List texts.Meaning} {now : List Entry} {mid : D} {output : Output} {number : ℕ} (filed : HasFiled disk scheme semantics texts total left past now old mid output number) where
    -- no row is left
    pub all_filed : left ≡ [] → Takes disk scheme semantics texts past now old mid output total (Ok tt)
    all_filed none = record {
      rows = filed.front;
      rest = left;
      taken = filed.split;
      whole = λ is. none;
      list = λ is. filed.list;
      files = all filed.front filed.runs filed.written;
    }

    -- there is no memory
    pub starved_here : (later : List Entry) → Takes disk scheme semantics texts past later old mid output total (Err NoMemory)
    starved_here later = record {
      rows = filed.front;
      rest = left;
      taken = filed.split;
      whole = λ bad. absurd (let no : ⊥ = cc in no);
      list = λ bad. absurd (let no : ⊥ = cc in no);
      files = starved filed.front filed.runs filed.written;
    }

    -- at the next row
    module _ (row : Result Operation Error) (rest : List texts.Meaning) (next : left ≡ texts.said row ∷ rest) (new : D) where
      split_at : total ≡ map texts.said (filed.front ++ row ∷ []) ++ rest
      split_at = split_push texts.said total left rest filed.front row filed.split next

      -- a session that ends here ends early
      ends_here : (later : List Entry) (text : Output) (stop : FileStop) → Files disk scheme semantics texts past old new text (filed.front ++ row ∷ []) (Err stop)
          → Takes disk scheme semantics texts past later old new text total (Err stop)
      ends_here later text stop files = record {
        rows = filed.front ++ row ∷ [];
        rest = rest;
        taken = split_at;
        whole = λ bad. absurd (let no : ⊥ = cc in no);
        list = λ bad. absurd (let no : ⊥ = cc in no);
        files = files;
      }

      pub stopped_here : (later : List Entry) (stop : FileStop) → StopsRow disk scheme semantics stop row now mid new → Takes disk scheme semantics texts past later old new output total (Err stop)
      stopped_here later Write s = absurd s
      stopped_here later (DiskFault undecided) s =
          ends_here later output (DiskFault undecided)
          (faulted filed.front row mid undecided filed.runs (subst (λ (h : List Entry). StopsRow disk scheme semantics (DiskFault undecided) row h mid new) filed.list s) filed.written)
      stopped_here later NoMemory s = subst (λ (d : D). Takes disk scheme semantics texts past later old d output total (Err NoMemory)) (sym s) (starved_here later)

      module _ (link : IsLink disk scheme semantics row now mid new) where
        runs_on : Runs disk scheme semantics (filed.front ++ row ∷ []) past old new
        runs_on = runs-push semantics disk scheme past old mid new filed.front row filed.runs (subst (λ (h : List Entry). IsLink disk scheme semantics row h mid new) filed.list link)

        module _ (line text : List ℕ) (is : line ≡ row_line semantics texts now (number + 1) row) where
          line_is : line ≡ row_line semantics texts (after_rows semantics past filed.front) (length filed.front + 1) row
          line_is = is ∙ ap (λ (h : List Entry). row_line semantics texts h (number + 1) row) filed.list
              ∙ ap (λ (n : ℕ). row_line semantics texts (after_rows semantics past filed.front) (n + 1) row) filed.counted

          -- its line was cut short
          pub unwritten_here : (later : List Entry) → (IsTrue output.honest → IsCutShort line output.after text)
              → Takes disk scheme semantics texts past later old new (record { honest = output.honest; before = output.before; after = text }) total (Err Write)
          unwritten_here later cut =
              ends_here later (record { honest = output.honest; before = output.before; after = text }) Write
              (unwritten filed.front row runs_on (λ honest.
              subst (λ (t : List ℕ). IsCutShort (row_line semantics texts (after_rows semantics past filed.front) (length filed.front + 1) row) t text) (filed.written honest)
              (subst (λ (l : List ℕ). IsCutShort l output.after text) line_is (cut honest))))

          -- it was filed
          pub next_filed : (IsTrue output.honest → text ≡ output.after ++ line) → (list : List Entry) → list ≡ after_row semantics now row
              → HasFiled disk scheme semantics texts total rest past list old new (record { honest = output.honest; before = output.before; after = text }) (number + 1)
          next_filed wrote list grown = record {
            front = filed.front ++ row ∷ [];
            split = split_at;
            counted = omega (arith, length_push filed.front row, filed.counted);
            runs = runs_on;
            list = grown ∙ ap (λ (h : List Entry). after_row semantics h row) filed.list ∙ sym (after_rows-push semantics past filed.front row);
            written = λ honest.
                wrote honest ∙ ap (λ (t : List ℕ). t ++ line) (filed.written honest) ∙ append_assoc output.before (lines_of semantics texts past 1 filed.front) line
                ∙ ap (λ (t : List ℕ). output.before ++ t) (ap (λ (l : List ℕ). lines_of semantics texts past 1 filed.front ++ l)
                (line_is ∙ ap (λ (n : ℕ). row_line semantics texts (after_rows semantics past filed.front) n row) (omega arith)) ∙ sym (lines_of-push semantics texts past 1 filed.front row));
          }
