-- A row's line, and a desk's rows one after the other.
use Rattle.std.proofs.Common.{◌≡◌, ⊎_elim, ℕ, suc, ◌+◌, List, [], ◌∷◌, ◌++◌, Option, None, Result, Err, length, map, refl, sym, ap, ◌∙◌, subst, arith, append_assoc}
use Rattle.std.specs.Prelude.{Contains}
use Rattle.std.proofs.lemmas.List.{append-nil, length_push, map-append}
use Rattle.log_machine.specs.Scheme.{Semantics}
use Rattle.log_machine.specs.Texts.{Texts, row_line, after_row}
use Rattle.log_lock.specs.Passes.{Known, IsOlder}
use Rattle.log_lock.proofs.Lists.{older_refl, older_trans}
use Rattle.log_machine.specs.declared.names.RowName.{RowName}
use Rattle.log_machine.specs.declared.names.Filed.{Filed}
use Rattle.log_desks.specs.declared.stop.DeskStop.{DeskStop}
use Rattle.log_desks.specs.declared.stop.DeskStop.TheVariants.{DiskFault, NoMemory}
use Rattle.log_desks.specs.declared.stop.DeskEnd.TheVariants.{Open, Done, Stopped}
use Rattle.log_machine.specs.Names.{entries_of}
use Rattle.log_desks.specs.Answered.{Answer, Follows, answer_lines, admitted_row, admitted_of, IsClean, Files, kept_row}
use Rattle.log_desks.specs.Rows.{IsWritten, StopsAt}

module _ {Entry Operation Response Error : Type 0} (semantics : Semantics Entry Operation Response) (texts : Texts Operation Response Error) (by : RowName) where
  -- a row that is no ask changes nothing
  pub error_row : (row : Result Operation Error) (error : Error) (text text' : List ℕ) (known : Known (Filed Entry)) → row ≡ Err error → text' ≡ text ++ texts.error_line error
      → IsWritten semantics texts by [] row text text' known known
  error_row row error text text' known is wrote =
      subst (λ r. IsWritten semantics texts by [] r text text' known known) (sym is) (
        entries_of known.seen,
        wrote,
        record { earlier = older_refl (entries_of known.seen); later = older_refl (entries_of known.seen); mine = sym (append-nil known.mine); left = λ entry has. has; faults = refl; opening = refl },
      )

  -- a line stands behind the prefix
  pub behind : (prefix : List ℕ) (row : Result Operation Error) (text mid text' : List ℕ) (before after : Known (Filed Entry)) → mid ≡ text ++ prefix → IsWritten semantics texts by [] row mid text' before after
      → IsWritten semantics texts by prefix row text text' before after
  behind prefix row text mid text' before after is (past, wrote, on) =
      (past, wrote ∙ (ap (λ t. t ++ row_line semantics texts past by.row row) is ∙ append_assoc text prefix (row_line semantics texts past by.row row)), on)

module _ {Entry Operation Response Error : Type 0} (semantics : Semantics Entry Operation Response) where
  follows_later : (before : List Entry) (answers : List (Answer Entry Operation Error)) (now later : List Entry) → Follows semantics before answers now → IsOlder now later → Follows semantics before answers later
  follows_later before [] now later is older = older_trans before now later is older
  follows_later before (a ∷ answers) now later (first, rest) older = (first, follows_later (after_row semantics a.past a.row) answers now later rest older)

  pub follows_push : (before : List Entry) (answers : List (Answer Entry Operation Error)) (now : List Entry) (past : List Entry) (row : Result Operation Error) (later : List Entry) → Follows semantics before answers now → IsOlder now past → IsOlder (after_row semantics past row) later
      → Follows semantics before (answers ++ record { past = past; row = row } ∷ []) later
  follows_push before [] now past row later is older then = (older_trans before now past is older, then)
  follows_push before (a ∷ answers) now past row later (first, rest) older then = (first, follows_push (after_row semantics a.past a.row) answers now past row later rest older then)

  pub follows_on : (before : List Entry) (answers : List (Answer Entry Operation Error)) (now later : List Entry) → Follows semantics before answers now → IsOlder now later → Follows semantics before answers later
  follows_on = follows_later

  lines_push : (texts : Texts Operation Response Error) (prefix : List ℕ) (number : ℕ) (answers : List (Answer Entry Operation Error)) (past : List Entry) (row : Result Operation Error)
      → answer_lines semantics texts prefix number (answers ++ record { past = past; row = row } ∷ []) ≡ answer_lines semantics texts prefix number answers ++ (prefix ++ row_line semantics texts past (number + length answers) row)
  lines_push texts prefix number [] past row = append-nil (prefix ++ row_line semantics texts past number row) ∙ ap (λ n. prefix ++ row_line semantics texts past n row) (let same : number ≡ number + 0 = omega arith in same)
  lines_push texts prefix number (a ∷ answers) past row =
      ap (λ l. (prefix ++ row_line semantics texts a.past number a.row) ++ l) (lines_push texts prefix (number + 1) answers past row ∙ ap (λ n. answer_lines semantics texts prefix (number + 1) answers ++ (prefix ++ row_line semantics texts past n row)) (let same : number + 1 + length answers ≡ number + suc (length answers) = omega arith in same))
      ∙ sym (append_assoc (prefix ++ row_line semantics texts a.past number a.row) (answer_lines semantics texts prefix (number + 1) answers) (prefix ++ row_line semantics texts past (number + length (a ∷ answers)) row))

  admitted_push : (desk number : ℕ) (answers : List (Answer Entry Operation Error)) (past : List Entry) (row : Result Operation Error)
      → admitted_of semantics desk number (answers ++ record { past = past; row = row } ∷ []) ≡ admitted_of semantics desk number answers ++ admitted_row semantics (record { desk = desk; row = number + length answers }) past row
  admitted_push desk number [] past row = append-nil (admitted_row semantics (record { desk = desk; row = number }) past row) ∙ ap (λ n. admitted_row semantics (record { desk = desk; row = n }) past row) (let same : number ≡ number + 0 = omega arith in same)
  admitted_push desk number (a ∷ answers) past row =
      ap (λ l. admitted_row semantics (record { desk = desk; row = number }) a.past a.row ++ l) (admitted_push desk (number + 1) answers past row ∙ ap (λ n. admitted_of semantics desk (number + 1) answers ++ admitted_row semantics (record { desk = desk; row = n }) past row) (let same : number + 1 + length answers ≡ number + suc (length answers) = omega arith in same))
      ∙ sym (append_assoc (admitted_row semantics (record { desk = desk; row = number }) a.past a.row) (admitted_of semantics desk (number + 1) answers) (admitted_row semantics (record { desk = desk; row = number + length (a ∷ answers) }) past row))

abbrev rows_in : {Entry Operation Error : Type 0} → List (Answer Entry Operation Error) → List (Result Operation Error)
rows_in {Entry} {Operation} {Error} answers = map (λ (a : Answer Entry Operation Error). a.row) answers

-- how far a desk's rows were filed, in a loop: these are left
pub record FilesOn {Entry Operation Response Error : Type 0} (semantics : Semantics Entry Operation Response) (own copied : Operation → Option Entry) (texts : Texts Operation Response Error) (desk : ℕ) (prefix : List ℕ) (total left : List texts.Meaning) (written : List ℕ) (count : ℕ) (known : Known (Filed Entry)) : Type 0 where
  pub files : Files semantics own copied texts desk prefix total written count Open None known
  pub rest : files.rest ≡ left
  pub shorter : count + length left ≡ length total

module _ {Entry Operation Response Error : Type 0} {semantics : Semantics Entry Operation Response} {own copied : Operation → Option Entry} {texts : Texts Operation Response Error} {desk : ℕ} {prefix : List ℕ} {total : List texts.Meaning} where
  -- before the first row
  pub files_none : (known : Known (Filed Entry)) → IsOlder (entries_of known.opening.list) (entries_of known.seen) → known.mine ≡ [] → IsClean known → FilesOn semantics own copied texts desk prefix total total [] 0 known
  files_none known older mine clean = record {
    files = record { answers = []; taken = []; rest = total; split = refl; counted = refl; text = refl; follows = older; mine = mine; ends = (refl, clean); kept = refl };
    rest = refl;
    shorter = omega arith;
  }

  module _ {left : List texts.Meaning} {written : List ℕ} {count : ℕ} {known : Known (Filed Entry)} (on : FilesOn semantics own copied texts desk prefix total left written count known) where
    -- no row is left
    pub files_done : left ≡ [] → Files semantics own copied texts desk prefix total written count Done None known
    files_done none =
        let f = on.files in
        record { answers = f.answers; taken = f.taken; rest = f.rest; split = f.split; counted = f.counted; text = f.text; follows = f.follows; mine = f.mine; ends = (f.ends.0, on.rest ∙ none, f.ends.1); kept = f.kept }

    -- there is no memory for a further row
    pub files_starved : Files semantics own copied texts desk prefix total written count (Stopped NoMemory) None known
    files_starved =
        let f = on.files in
        record { answers = f.answers; taken = f.taken; rest = f.rest; split = f.split; counted = f.counted; text = f.text; follows = f.follows; mine = f.mine; ends = f.ends.1; kept = f.kept }

    -- at the next row
    module _ (row : Result Operation Error) (rest : List texts.Meaning) (next : left ≡ texts.said row ∷ rest) (after : Known (Filed Entry)) where
      split_next : total ≡ map texts.said (rows_in on.files.answers ++ row ∷ []) ++ rest
      split_next =
          let f = on.files in
          let whole : total ≡ map texts.said (rows_in f.answers ++ []) ++ left = f.split ∙ (ap (λ t. map texts.said (rows_in f.answers ++ t) ++ f.rest) f.ends.0 ∙ ap (λ l. map texts.said (rows_in f.answers ++ []) ++ l) on.rest) in
          whole ∙ (ap (λ l. map texts.said l ++ left) (append-nil (rows_in f.answers)) ∙ (ap (λ l. map texts.said (rows_in f.answers) ++ l) next
          ∙ (sym (append_assoc (map texts.said (rows_in f.answers)) (texts.said row ∷ []) rest) ∙ ap (λ l. l ++ rest) (sym (map-append texts.said (rows_in f.answers) (row ∷ []))))))

      clean_after : ((entry : ℕ × Filed Entry) → Contains after.left entry → Contains known.left entry) → after.faults ≡ known.faults → IsClean after
      clean_after left same = (λ entry has. on.files.ends.1.0 entry (left entry has), same ∙ on.files.ends.1.1)

      follows_same : IsOlder (entries_of known.seen) (entries_of after.seen) → after.opening ≡ known.opening → Follows semantics (entries_of after.opening.list) on.files.answers (entries_of after.seen)
      follows_same older opening = subst (λ o. Follows semantics (entries_of o.list) on.files.answers (entries_of after.seen)) (sym opening) (follows_on semantics (entries_of known.opening.list) on.files.answers (entries_of known.seen) (entries_of after.seen) on.files.follows older)

      -- its desk ends there
      pub files_stopped : (stop : DeskStop) → StopsAt own (record { desk = desk; row = count + 1 }) stop row known after → Files semantics own copied texts desk prefix total written count (Stopped stop) (kept_row copied row) after
      files_stopped (DiskFault undecided) (operation, is, f) = record {
        answers = on.files.answers;
        taken = row ∷ [];
        rest = rest;
        split = split_next;
        counted = on.files.counted;
        text = on.files.text;
        follows = follows_same f.earlier f.opening;
        mine = f.mine ∙ on.files.mine;
        ends = record {
          operation = operation;
          row = ap (λ r. r ∷ []) is;
          faults = f.faults ∙ ap (λ n. n + 1) on.files.ends.1.1;
          named = f.named;
          left = λ entry has. ⊎_elim (λ a. absurd (on.files.ends.1.0 entry a)) (λ b. b) (f.left entry has);
        };
        kept = refl;
      }
      files_stopped NoMemory f = record {
        answers = on.files.answers;
        taken = row ∷ [];
        rest = rest;
        split = split_next;
        counted = on.files.counted;
        text = on.files.text;
        follows = follows_same f.earlier f.opening;
        mine = f.mine ∙ on.files.mine;
        ends = clean_after f.left f.faults;
        kept = refl;
      }

      -- it is answered
      pub files_next : (text : List ℕ) → IsWritten semantics texts (record { desk = desk; row = count + 1 }) prefix row written text known after → FilesOn semantics own copied texts desk prefix total rest text (count + 1) after
      files_next text (past, wrote, on_past) =
          let f = on.files in
          let number : count + 1 ≡ 1 + length f.answers = omega (arith, f.counted) in
          record {
            files = record {
              answers = f.answers ++ record { past = past; row = row } ∷ [];
              taken = [];
              rest = rest;
              split = split_next ∙ ap (λ l. map texts.said l ++ rest) (sym (append-nil (rows_in (f.answers ++ record { past = past; row = row } ∷ [])) ∙ map-append (λ (a : Answer Entry Operation Error). a.row) f.answers (record { past = past; row = row } ∷ [])));
              counted = omega (arith, f.counted, length_push f.answers (record { past = past; row = row }));
              text = wrote ∙ (ap (λ t. t ++ (prefix ++ row_line semantics texts past (count + 1) row)) f.text
                  ∙ (ap (λ n. answer_lines semantics texts prefix 1 f.answers ++ (prefix ++ row_line semantics texts past n row)) number ∙ sym (lines_push semantics texts prefix 1 f.answers past row)));
              follows = subst (λ o. Follows semantics (entries_of o.list) (f.answers ++ record { past = past; row = row } ∷ []) (entries_of after.seen)) (sym on_past.opening)
                  (follows_push semantics (entries_of known.opening.list) f.answers (entries_of known.seen) past row (entries_of after.seen) f.follows on_past.earlier on_past.later);
              mine = on_past.mine ∙ (ap (λ l. l ++ admitted_row semantics (record { desk = desk; row = count + 1 }) past row) f.mine
                  ∙ (ap (λ n. admitted_of semantics desk 1 f.answers ++ admitted_row semantics (record { desk = desk; row = n }) past row) number ∙ sym (admitted_push semantics desk 1 f.answers past row)));
              ends = (refl, clean_after on_past.left on_past.faults);
              kept = refl;
            };
            rest = refl;
            shorter = omega (arith, on.shorter, ap length next);
          }
