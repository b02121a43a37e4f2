-- The rows of a ledger, filing by filing.
use Rattle.std.proofs.Common.{◌≡◌, ℕ, ◌+◌, ◌≤◌, ◌<◌, refl, sym, ap, ◌∙◌, arith, Bool, true, false, List, [], ◌∷◌, ◌++◌, append-nil, cond, length, reverse, take, get_or, map}
use Rattle.std.proofs.lemmas.List.{reverse-append, take_all, take_more}
use Rattle.aid_types.specs.Programs.{minus}
use Rattle.aid_filings.specs.Students.{student_of}
use Rattle.aid_filings.specs.declared.filing.Filing.{Filing}
use Rattle.aid_filings.specs.declared.reply.Outcome.{Outcome}
use Rattle.aid_stamps.specs.declared.stamp.Stamp.{Stamp}
use Rattle.office_history.specs.Answer.{outcome_of}
use Rattle.office_reports.specs.Columns.{table}
use Rattle.office_sheets.specs.LedgerLines.{ledger_line, text_of}
use Rattle.office_sheets.specs.Ledgers.{is_student, returned_by, rows_about, rows_told}
use Rattle.office_sheets.specs.Takings.{taken_by}
use Rattle.office_sheets.specs.declared.ledger_rows.LedgerRow.{LedgerRow}
use Rattle.office_sheets.proofs.Returned.{added_by}

-- one item more is one more at the head of the reverse
one_newer : {X : Type 0} → (h : List X) (i : ℕ) (x : X) → i < length h → x ≡ get_or h i x → reverse (take (i + 1) h) ≡ x ∷ reverse (take i h)
one_newer {X} h i x lt at =
    ap (λ (l : List X). reverse l) (take_more h i x lt)
    ∙ reverse-append (take i h) (get_or h i x ∷ [])
    ∙ ap (λ (y : X). y ∷ reverse (take i h)) (sym at)

-- a filing joins those before it
pub passed_more : (fs passed now : List Filing) (i : ℕ) (f : Filing) → i < length fs → f ≡ get_or fs i f → passed ≡ reverse (take i fs) → now ≡ f ∷ passed → now ≡ reverse (take (i + 1) fs)
passed_more fs passed now i f lt at is more = more ∙ ap (λ (past : List Filing). f ∷ past) is ∙ sym (one_newer fs i f lt at)

-- its rows join theirs, whatever they tell
pub rows_more : {R : Type 0} (all : List Filing → List Stamp → List R) (by : List Filing → Stamp → Filing → List R)
    → ((past : List Filing) (f : Filing) (s : Stamp) (stamps : List Stamp) → all (f ∷ past) (s ∷ stamps) ≡ all past stamps ++ by past s f)
    → (fs passed : List Filing) (ss : List Stamp) (i : ℕ) (f : Filing) (s : Stamp) → i < length fs → i < length ss → f ≡ get_or fs i f → s ≡ get_or ss i s
    → passed ≡ reverse (take i fs) → (rows new : List R) → rows ≡ all (reverse (take i fs)) (reverse (take i ss))
    → new ≡ rows ++ by passed s f → new ≡ all (reverse (take (i + 1) fs)) (reverse (take (i + 1) ss))
rows_more {R} all by step fs passed ss i f s lt few at at_stamp is rows new so_far more =
    more ∙ ap (λ (r : List R). r ++ by passed s f) so_far
    ∙ ap (λ (past : List Filing). all (reverse (take i fs)) (reverse (take i ss)) ++ by past s f) is
    ∙ sym (step (reverse (take i fs)) f s (reverse (take i ss)))
    ∙ ap (λ (past : List Filing). all past (s ∷ reverse (take i ss))) (sym (one_newer fs i f lt at))
    ∙ ap (λ (stamps : List Stamp). all (reverse (take (i + 1) fs)) stamps) (sym (one_newer ss i s few at_stamp))

-- all rows are those of the whole
pub rows_whole : {R : Type 0} (all : List Filing → List Stamp → List R) (fs past : List Filing) (ss : List Stamp) (i : ℕ) → reverse fs ≡ past → length fs ≤ i → length ss ≤ i
    → (rows : List R) → rows ≡ all (reverse (take i fs)) (reverse (take i ss)) → rows ≡ all past (reverse ss)
rows_whole {R} all fs past ss i of_past whole enough rows is =
    is ∙ ap (λ (l : List Filing). all (reverse l) (reverse (take i ss))) (take_all i fs whole)
    ∙ ap (λ (l : List Stamp). all (reverse fs) (reverse l)) (take_all i ss enough)
    ∙ ap (λ (l : List Filing). all l (reverse ss)) of_past

-- the rows of a filing that is about the student, and of one that isn't
pub rows_then : (student : ℕ) (past now : List Filing) (stamp : Stamp) (f : Filing) (outcome : Outcome) (before after returned : List ℕ) (old new : List LedgerRow)
    → is_student student (student_of f.what) ≡ true → now ≡ f ∷ past → outcome ≡ outcome_of past f → before ≡ taken_by past f.key f.what → after ≡ taken_by now f.key f.what
    → returned ≡ minus after before → new ≡ old ++ rows_told now stamp f outcome returned f.what → new ≡ old ++ rows_about student past stamp f
rows_then student past now stamp f outcome before after returned old new about of_now brought was is back more =
    let all : returned ≡ returned_by past f.key f.what =
    back ∙ ap (λ (a : List ℕ). minus a before) (is ∙ ap (λ (h : List Filing). taken_by h f.key f.what) of_now)
    ∙ ap (λ (b : List ℕ). minus (taken_by (f ∷ past) f.key f.what) b) was ∙ added_by past f.key f.what in
    more ∙ ap (λ (h : List Filing). old ++ rows_told h stamp f outcome returned f.what) of_now
    ∙ ap (λ (o : Outcome). old ++ rows_told (f ∷ past) stamp f o returned f.what) brought
    ∙ ap (λ (r : List ℕ). old ++ rows_told (f ∷ past) stamp f (outcome_of past f) r f.what) all
    ∙ ap (λ (b : Bool). old ++ cond b (rows_told (f ∷ past) stamp f (outcome_of past f) (returned_by past f.key f.what) f.what) []) (sym about)

pub rows_else : (student : ℕ) (past : List Filing) (stamp : Stamp) (f : Filing) (old : List LedgerRow) → is_student student (student_of f.what) ≡ false → old ≡ old ++ rows_about student past stamp f
rows_else student past stamp f old about =
    sym (append-nil old)
    ∙ ap (λ (b : Bool). old ++ cond b (rows_told (f ∷ past) stamp f (outcome_of past f) (returned_by past f.key f.what) f.what) []) (sym about)

-- the lines of a ledger that has some
pub text_of_some : (rows : List LedgerRow) → 0 < length rows → text_of rows ≡ table (map ledger_line rows)
text_of_some [] some = absurd (omega arith)
text_of_some (row ∷ rows) some = refl
