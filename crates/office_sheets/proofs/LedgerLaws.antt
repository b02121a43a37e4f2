-- A student's ledger tells of the filings about the student, of all and of no other.
use Rattle.std.proofs.Common.{◌≡◌, ◌⊎◌, inl, inr, ℕ, zero, suc, ◌+◌, nat_lt, Bool, true, false, List, [], ◌∷◌, ◌++◌, Some, length, reverse, slice_get, slice_index, cond, refl, sym, ap, subst, ◌∙◌, arith}
use Rattle.std.specs.List.{All}
use Rattle.std.proofs.lemmas.List.{length-reverse, reverse-append}
use Rattle.std.proofs.lemmas.List.Elements.{All-append, All-cons, All-nil, All-weaker, Contains-append_left, Contains-append_right}
use Rattle.aid_types.specs.Programs.{rank}
use Rattle.aid_types.specs.declared.number.Program.{Program}
use Rattle.aid_types.specs.declared.number.Program.TheVariants.{Unsub, Sub, Plus, Pell, Fseog, Teach}
use Rattle.aid_filings.specs.Students.{student_of}
use Rattle.aid_filings.specs.declared.filing.Filing.{Filing}
use Rattle.aid_filings.specs.declared.filing.What.{What}
use Rattle.aid_filings.specs.declared.filing.What.TheVariants.{Book, School, Calendar, Prior as PriorFiled, Apply, Enroll, Originate, Pay, Withdraw, Repay, Adjust, Cost, Sent, Amend}
use Rattle.aid_filings.specs.declared.reply.Outcome.{Outcome}
use Rattle.aid_stamps.specs.declared.stamp.Stamp.{Stamp}
use Rattle.office_history.specs.Answer.{outcome_of}
use Rattle.office_history.specs.Rows.{filing_in}
use Rattle.office_history.specs.declared.place.Place.{Place}
use Rattle.office_history.proofs.InForce.{newest, older}
use Rattle.office_sheets.specs.LedgerOf.{IsAbout, TellsOf}
use Rattle.office_sheets.specs.Ledgers.{is_student, ledger_rows, return_row, return_rows, returned_by, rows_about, rows_told, withdrawn_place}
use Rattle.office_sheets.specs.declared.ledger_rows.LedgerRow.{LedgerRow}

abbrev IsAt : ℕ → LedgerRow → Type 0
IsAt position row = row.position ≡ position

-- the rows of a filing stand at its position
one_at : (b : Bool) (row : LedgerRow) (position : ℕ) → row.position ≡ position → All (IsAt position) (cond b (row ∷ []) [])
one_at true row position at = All-cons (IsAt position) row [] at (All-nil (IsAt position))
one_at false row position at = All-nil (IsAt position)

return_at : (now : List Filing) (stamp : Stamp) (f : Filing) (p : Place) (program : Program) (cents : ℕ) → All (IsAt (length now)) (return_row now stamp f p program cents)
return_at now stamp f p program cents = one_at (nat_lt 0 cents) _ (length now) refl

returns_at : (now : List Filing) (stamp : Stamp) (f : Filing) (p : Place) (returned : List ℕ) → All (IsAt (length now)) (return_rows now stamp f p returned)
returns_at now stamp f p returned =
    let P = IsAt (length now) in
    let one : (program : Program) → All P (return_row now stamp f p program (slice_index returned (rank program))) = λ program. return_at now stamp f p program (slice_index returned (rank program)) in
    All-append P _ _ (one Unsub) (All-append P _ _ (one Sub) (All-append P _ _ (one Plus) (All-append P _ _ (one Pell) (All-append P _ _ (one Fseog) (All-append P _ _ (one Teach) (All-nil P))))))

told_at : (now : List Filing) (stamp : Stamp) (f : Filing) (outcome : Outcome) (returned : List ℕ) (what : What) → All (IsAt (length now)) (rows_told now stamp f outcome returned what)
told_at now stamp f outcome returned (PriorFiled p) = All-cons (IsAt (length now)) _ [] refl (All-nil (IsAt (length now)))
told_at now stamp f outcome returned (Apply a) = All-cons (IsAt (length now)) _ [] refl (All-nil (IsAt (length now)))
told_at now stamp f outcome returned (Enroll e) = All-cons (IsAt (length now)) _ [] refl (All-nil (IsAt (length now)))
told_at now stamp f outcome returned (Originate o) = All-cons (IsAt (length now)) _ [] refl (All-nil (IsAt (length now)))
told_at now stamp f outcome returned (Pay a) = All-cons (IsAt (length now)) _ [] refl (All-nil (IsAt (length now)))
told_at now stamp f outcome returned (Repay a) = All-cons (IsAt (length now)) _ [] refl (All-nil (IsAt (length now)))
told_at now stamp f outcome returned (Adjust a) = All-cons (IsAt (length now)) _ [] refl (All-nil (IsAt (length now)))
told_at now stamp f outcome returned (Cost o) = All-cons (IsAt (length now)) _ [] refl (All-nil (IsAt (length now)))
told_at now stamp f outcome returned (Sent o) = All-cons (IsAt (length now)) _ [] refl (All-nil (IsAt (length now)))
told_at now stamp f outcome returned (Amend o) = All-nil (IsAt (length now))
told_at now stamp f outcome returned (Withdraw w) = All-cons (IsAt (length now)) _ _ refl (returns_at now stamp f (withdrawn_place f.key w) returned)
told_at now stamp f outcome returned (Book b) = All-nil (IsAt (length now))
told_at now stamp f outcome returned (School s) = All-nil (IsAt (length now))
told_at now stamp f outcome returned (Calendar c) = All-nil (IsAt (length now))

-- and a filing about a student has one
head_tells : (row : LedgerRow) (rows : List LedgerRow) (position : ℕ) → row.position ≡ position → TellsOf (row ∷ rows) position
head_tells row rows position at = (row, at, (zero, omega arith, refl))

told_of : (now : List Filing) (stamp : Stamp) (f : Filing) (outcome : Outcome) (returned : List ℕ) (student : ℕ) (what : What) → is_student student (student_of what) ≡ true
    → TellsOf (rows_told now stamp f outcome returned what) (length now)
told_of now stamp f outcome returned student (PriorFiled p) about = head_tells _ [] (length now) refl
told_of now stamp f outcome returned student (Apply a) about = head_tells _ [] (length now) refl
told_of now stamp f outcome returned student (Enroll e) about = head_tells _ [] (length now) refl
told_of now stamp f outcome returned student (Originate o) about = head_tells _ [] (length now) refl
told_of now stamp f outcome returned student (Pay a) about = head_tells _ [] (length now) refl
told_of now stamp f outcome returned student (Repay a) about = head_tells _ [] (length now) refl
told_of now stamp f outcome returned student (Adjust a) about = head_tells _ [] (length now) refl
told_of now stamp f outcome returned student (Cost o) about = head_tells _ [] (length now) refl
told_of now stamp f outcome returned student (Sent o) about = head_tells _ [] (length now) refl
told_of now stamp f outcome returned student (Amend o) about = absurd cc
told_of now stamp f outcome returned student (Withdraw w) about = head_tells _ (return_rows now stamp f (withdrawn_place f.key w) returned) (length now) refl
told_of now stamp f outcome returned student (Book b) about = absurd cc
told_of now stamp f outcome returned student (School s) about = absurd cc
told_of now stamp f outcome returned student (Calendar c) about = absurd cc

-- what is about a student on the filings before is so on all
still_about : (student : ℕ) (past : List Filing) (f : Filing) (position : ℕ) → IsAbout student past position → IsAbout student (f ∷ past) position
still_about student past f zero (g, at, about) = absurd cc
still_about student past f (suc n) (g, at, about) = (g, older past f g n at, about)

-- the rows of the newest filing are about the student
new_about : (student : ℕ) (past : List Filing) (stamp : Stamp) (f : Filing) → All (λ row. IsAbout student (f ∷ past) row.position) (rows_about student past stamp f)
new_about student past stamp f = go (is_student student (student_of f.what)) refl
  where
    P : LedgerRow → Type 0
    P row = IsAbout student (f ∷ past) row.position

    rows : List LedgerRow
    rows = rows_told (f ∷ past) stamp f (outcome_of past f) (returned_by past f.key f.what) f.what

    go : (b : Bool) → is_student student (student_of f.what) ≡ b → All P (cond b rows [])
    go true about =
        All-weaker (IsAt (length (f ∷ past))) P
        (λ row at. (f, ap (filing_in (f ∷ past)) at ∙ newest past f (length past) (omega arith), about))
        rows
        (told_at (f ∷ past) stamp f (outcome_of past f) (returned_by past f.key f.what) f.what)
    go false other = All-nil P

-- each row is of a filing about the student
pub each_about : (student : ℕ) (past : List Filing) (stamps : List Stamp) → All (λ row. IsAbout student past row.position) (ledger_rows student past stamps)
each_about student [] stamps = All-nil (λ row. IsAbout student [] row.position)
each_about student (f ∷ past) [] = All-nil (λ row. IsAbout student (f ∷ past) row.position)
each_about student (f ∷ past) (s ∷ stamps) =
    let P : LedgerRow → Type 0 = λ row. IsAbout student (f ∷ past) row.position in
    All-append P (ledger_rows student past stamps) (rows_about student past s f)
    (All-weaker (λ row. IsAbout student past row.position) P (λ row about. still_about student past f row.position about) (ledger_rows student past stamps) (each_about student past stamps))
    (new_about student past s f)

-- the filing at a position is one of those before, or the newest
last_or_before : (xs : List Filing) (x : Filing) (i : ℕ) (y : Filing) → slice_get (xs ++ x ∷ []) i ≡ Some y → (slice_get xs i ≡ Some y) ⊎ ((i ≡ length xs) × (x ≡ y))
last_or_before [] x zero y is = inr (refl, cc)
last_or_before [] x (suc i) y is = absurd cc
last_or_before (z ∷ xs) x zero y is = inl is
last_or_before (z ∷ xs) x (suc i) y is = go (last_or_before xs x i y is)
  where
    go : (slice_get xs i ≡ Some y) ⊎ ((i ≡ length xs) × (x ≡ y)) → (slice_get (z ∷ xs) (suc i) ≡ Some y) ⊎ ((suc i ≡ length (z ∷ xs)) × (x ≡ y))
    go (inl before) = inl before
    go (inr (at, same)) = inr (ap suc at, same)

stands_where : (past : List Filing) (f g : Filing) (n : ℕ) → filing_in (f ∷ past) (suc n) ≡ Some g → (filing_in past (suc n) ≡ Some g) ⊎ ((n ≡ length past) × (f ≡ g))
stands_where past f g n at = go (last_or_before (reverse past) f n g (sym (ap (λ (l : List Filing). slice_get l n) (reverse-append (f ∷ []) past)) ∙ at))
  where
    go : (slice_get (reverse past) n ≡ Some g) ⊎ ((n ≡ length (reverse past)) × (f ≡ g)) → (filing_in past (suc n) ≡ Some g) ⊎ ((n ≡ length past) × (f ≡ g))
    go (inl before) = inl before
    go (inr (is, same)) = inr (is ∙ length-reverse past, same)

-- rows of either part are rows of both
tells_before : (rows more : List LedgerRow) (position : ℕ) → TellsOf rows position → TellsOf (rows ++ more) position
tells_before rows more position (row, at, inside) = (row, at, Contains-append_left rows more row inside)

tells_behind : (rows more : List LedgerRow) (position : ℕ) → TellsOf more position → TellsOf (rows ++ more) position
tells_behind rows more position (row, at, inside) = (row, at, Contains-append_right rows more row inside)

-- the newest filing has a row where it is about the student
new_told : (student : ℕ) (past : List Filing) (stamp : Stamp) (f : Filing) → is_student student (student_of f.what) ≡ true → TellsOf (rows_about student past stamp f) (length past + 1)
new_told student past stamp f about =
    let rows = rows_told (f ∷ past) stamp f (outcome_of past f) (returned_by past f.key f.what) f.what in
    let at : length (f ∷ past) ≡ length past + 1 = omega arith in
    subst (λ (b : Bool). TellsOf (cond b rows []) (length past + 1)) (sym about)
    (subst (TellsOf rows) at (told_of (f ∷ past) stamp f (outcome_of past f) (returned_by past f.key f.what) student f.what about))

-- each filing about the student has a row
pub each_told : (student : ℕ) (past : List Filing) (stamps : List Stamp) → length stamps ≡ length past → (position : ℕ) → IsAbout student past position → TellsOf (ledger_rows student past stamps) position
each_told student past stamps same zero (g, at, about) = absurd cc
each_told student [] stamps same (suc n) (g, at, about) = absurd cc
each_told student (f ∷ past) [] same (suc n) (g, at, about) = absurd (omega (arith, same))
each_told student (f ∷ past) (s ∷ stamps) same (suc n) (g, at, about) =
    go (λ before. each_told student past stamps (omega (arith, same)) (suc n) (g, before, about)) (stands_where past f g n at)
  where
    go : (filing_in past (suc n) ≡ Some g → TellsOf (ledger_rows student past stamps) (suc n)) → (filing_in past (suc n) ≡ Some g) ⊎ ((n ≡ length past) × (f ≡ g))
        → TellsOf (ledger_rows student past stamps ++ rows_about student past s f) (suc n)
    go earlier (inl before) = tells_before (ledger_rows student past stamps) (rows_about student past s f) (suc n) (earlier before)
    go earlier (inr (is, own)) =
        let mine : is_student student (student_of f.what) ≡ true = ap (λ (x : Filing). is_student student (student_of x.what)) own ∙ about in
        let there : length past + 1 ≡ suc n = omega (arith, is) in
        subst (TellsOf (ledger_rows student past stamps ++ rows_about student past s f)) there
        (tells_behind (ledger_rows student past stamps) (rows_about student past s f) (length past + 1) (new_told student past s f mine))
