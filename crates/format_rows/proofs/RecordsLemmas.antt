-- How the records of a text follow one another, and that each but the last takes the end of a line in which something stands.
use Rattle.std.proofs.Common.{◌≡◌, ◌≤◌, ◌<◌, ◌+◌, ℕ, zero, suc, List, [], ◌∷◌, ◌++◌, length, Option, Some, None, Bool, true, false, refl, sym, ap, subst, inl, inr, ◌∙◌, arith}
use Rattle.std.proofs.lemmas.Bool.{eqb-true}
use Rattle.std.proofs.lemmas.List.Sums.{sum_by-cons}
use Rattle.std.proofs.lemmas.Option.{same_Some}
use Rattle.std.specs.List.{zip}
use Rattle.std.specs.Prelude.{if◌then◌else◌, ◌==◌, ◌&&◌, ◌⊎◌, cond, not}
use Rattle.csv.specs.Machine.{Read, after_end, ends_at_end, field_after, fields_after, in_field, is_end, next_record, start_field, start_record, step}
use Rattle.csv.specs.Reading.{default_config, records_from, records_next}
use Rattle.csv.specs.declared.parser.Action.{Action}
use Rattle.csv.specs.declared.parser.Action.TheVariants as act
use Rattle.csv.specs.declared.parser.State.{State}
use Rattle.csv.specs.declared.parser.State.TheVariants as st
use Rattle.format_rows.specs.Left.{ended_lines, ends_a_line, ends_line, records_left}

abbrev Records : Type 0
Records = List (List (List ℕ))

-- ---- a record takes a byte, or all the text
abbrev Takes : List ℕ → Option Read → Type 0
Takes xs o = (p : Read) → o ≡ Some p → (length p.2 < length xs) ⊎ ((p.1 ≡ st.StartRecord) × (p.2 ≡ []))

takes_if : (b : Bool) (xs : List ℕ) (x y : Option Read) → Takes xs x → Takes xs y → Takes xs (if b then x else y)
takes_if true xs x y hx hy = hx
takes_if false xs x y hx hy = hy

takes_none : (xs : List ℕ) → Takes xs None
takes_none xs p e = cc e

takes_all : (xs : List ℕ) (fields : List (List ℕ)) → Takes xs (Some (fields, st.StartRecord, []))
takes_all xs fields p e = rw (← same_Some (fields, st.StartRecord, []) p e) (inr (refl, refl))

takes_byte : (xs : List ℕ) (q : Read) → length q.2 < length xs → Takes xs (Some q)
takes_byte xs q less p e = rw (← same_Some q p e) (inl less)

shorter : (c : ℕ) (rest : List ℕ) (p : Read) → (length p.2 < length rest) ⊎ ((p.1 ≡ st.StartRecord) × (p.2 ≡ [])) → (length p.2 < length (c ∷ rest)) ⊎ ((p.1 ≡ st.StartRecord) × (p.2 ≡ []))
shorter c rest p (inl less) = inl (omega (arith, less))
shorter c rest p (inr end) = inr end

takes_more : (c : ℕ) (rest : List ℕ) (o : Option Read) → Takes rest o → Takes (c ∷ rest) o
takes_more c rest o h p e = shorter c rest p (h p e)

takes : (s : State) (fields : List (List ℕ)) (field xs : List ℕ) → Takes xs (next_record default_config s fields field xs)
unfolding next_record
takes s fields field [] = takes_if (ends_at_end s) [] (Some (fields ++ (field ∷ []), st.StartRecord, [])) None (takes_all [] (fields ++ (field ∷ []))) (takes_none [])
takes s fields field (c ∷ rest) =
    takes_if (is_end (step default_config s c).1) (c ∷ rest)
    (Some (fields_after (step default_config s c).1 fields field, (step default_config s c).0, rest))
    (next_record default_config (step default_config s c).0 (fields_after (step default_config s c).1 fields field) (field_after (step default_config s c).1 c field) rest)
    (takes_byte (c ∷ rest) (fields_after (step default_config s c).1 fields field, (step default_config s c).0, rest) (omega arith))
    (takes_more c rest _ (takes (step default_config s c).0 (fields_after (step default_config s c).1 fields field) (field_after (step default_config s c).1 c field) rest))

-- ---- a byte that ends a record ends a line in which something stands
-- whether the end of a line ends a record in this state: the byte before it was of the record, and ended no line
abbrev is_open : State → Bool
is_open st.StartRecord = false
is_open st.StartField = true
is_open st.InField = true
is_open st.InQuoted = false
is_open st.AfterQuote = true
is_open st.InEscape = false
is_open st.InComment = false
is_open st.AfterCr = false

-- what one byte does in a state that is open or isn't
record Steps (within : Bool) (c : ℕ) (q : State × Action) : Type 0 where
  ends : is_end q.1 ≡ true → (within ≡ true) × (ends_line c ≡ true) × (is_open q.0 ≡ false)
  goes_on : is_end q.1 ≡ false → is_open q.0 ≡ true → ends_line c ≡ false

steps_if : (within : Bool) (c : ℕ) (b : Bool) (x y : State × Action) → (b ≡ true → Steps within c x) → (b ≡ false → Steps within c y) → Steps within c (if b then x else y)
steps_if within c true x y hx hy = hx refl
steps_if within c false x y hx hy = hy refl

-- a byte that ends no record, and opens none
steps_closed : (within : Bool) (c : ℕ) (q : State × Action) → is_end q.1 ≡ false → is_open q.0 ≡ false → Steps within c q
steps_closed within c q on closed = record { ends = λ e. cc (e, on); goes_on = λ e is. cc (is, closed) }

-- a byte that ends no line
steps_on : (within : Bool) (c : ℕ) (q : State × Action) → is_end q.1 ≡ false → ends_line c ≡ false → Steps within c q
steps_on within c q on free = record { ends = λ e. cc (e, on); goes_on = λ e is. free }

-- a comma and a quote end no line
no_end : (c d : ℕ) → (c == d) ≡ true → ends_line d ≡ false → ends_line c ≡ false
no_end c d e free = subst (λ x. ends_line x ≡ false) (sym (eqb-true c d e)) free

closed_after : (b : Bool) → is_open (if b then st.AfterCr else st.StartRecord) ≡ false
closed_after true = refl
closed_after false = refl

in_field_steps : (within : Bool) (c : ℕ) → (ends_line c ≡ true → within ≡ true) → Steps within c (in_field default_config c)
in_field_steps within c was =
    steps_if within c (c == 44) (st.StartField, act.EndField)
    (if ends_line c then (after_end default_config.terminator c, act.EndRecord) else (st.InField, act.Copy))
    (λ e. steps_on within c (st.StartField, act.EndField) refl (no_end c 44 e refl))
    (λ other. steps_if within c (ends_line c) (after_end default_config.terminator c, act.EndRecord) (st.InField, act.Copy)
    (λ e. record { ends = λ is. (was e, e, closed_after (c == 13)); goes_on = λ on. absurd cc })
    (λ e. steps_on within c (st.InField, act.Copy) refl e))

start_field_steps : (within : Bool) (c : ℕ) → (ends_line c ≡ true → within ≡ true) → Steps within c (start_field default_config c)
start_field_steps within c was =
    steps_if within c (c == 34) (st.InQuoted, act.Skip) (in_field default_config c) (λ e. steps_closed within c (st.InQuoted, act.Skip) refl refl) (λ e. in_field_steps within c was)

start_record_steps : (c : ℕ) → Steps false c (start_record default_config c)
start_record_steps c =
    steps_if false c (ends_line c) (st.StartRecord, act.Skip) (start_field default_config c)
    (λ e. steps_closed false c (st.StartRecord, act.Skip) refl refl) (λ e. start_field_steps false c (λ is. cc (is, e)))

step_steps : (s : State) (c : ℕ) → Steps (is_open s) c (step default_config s c)
step_steps st.StartRecord c = start_record_steps c
step_steps st.StartField c = start_field_steps true c (λ e. refl)
step_steps st.InField c = in_field_steps true c (λ e. refl)
step_steps st.InQuoted c =
    steps_if false c (c == 34) (st.AfterQuote, act.Skip) (st.InQuoted, act.Copy)
    (λ e. steps_on false c (st.AfterQuote, act.Skip) refl (no_end c 34 e refl)) (λ e. steps_closed false c (st.InQuoted, act.Copy) refl refl)
step_steps st.InEscape c = steps_closed false c (st.InQuoted, act.Copy) refl refl
step_steps st.AfterQuote c =
    steps_if true c (c == 34) (st.InQuoted, act.Copy) (in_field default_config c)
    (λ e. steps_closed true c (st.InQuoted, act.Copy) refl refl) (λ e. in_field_steps true c (λ e. refl))
step_steps st.InComment c =
    steps_if false c (c == 10) (st.StartRecord, act.Skip) (st.InComment, act.Skip)
    (λ e. steps_closed false c (st.StartRecord, act.Skip) refl refl) (λ e. steps_closed false c (st.InComment, act.Skip) refl refl)
step_steps st.AfterCr c =
    steps_if false c (c == 10) (st.StartRecord, act.Skip) (start_record default_config c) (λ e. steps_closed false c (st.StartRecord, act.Skip) refl refl) (λ e. start_record_steps c)

-- ---- the lines of a text, with the byte before it
pub ended_lines-cons : (b c : ℕ) (rest : List ℕ) → ended_lines (b ∷ c ∷ rest) ≡ cond (ends_a_line (b, c)) 1 0 + ended_lines (c ∷ rest)
ended_lines-cons b c rest = sum_by-cons (λ pair. cond (ends_a_line pair) 1 0) (b, c) (zip (c ∷ rest) rest)

pub no_fewer : (b : ℕ) (rest : List ℕ) → ended_lines rest ≤ ended_lines (b ∷ rest)
no_fewer b [] = omega arith
no_fewer b (c ∷ rest) = omega (arith, ended_lines-cons b c rest)

-- behind the end of a line no other one counts
pub behind_end : (b : ℕ) (rest : List ℕ) → ends_line b ≡ true → ended_lines (b ∷ rest) ≡ ended_lines rest
behind_end b [] e = refl
behind_end b (c ∷ rest) e = omega (arith, ended_lines-cons b c rest ∙ ap (λ is. cond (not is && ends_line c) 1 0 + ended_lines (c ∷ rest)) e)

-- the end of a line behind a byte that ends none
one_more : (b c : ℕ) (rest : List ℕ) → ends_line b ≡ false → ends_line c ≡ true → ended_lines rest < ended_lines (b ∷ c ∷ rest)
one_more b c rest free e =
    let is : ends_a_line (b, c) ≡ true = ap (λ x. not x && ends_line c) free ∙ e in
    omega (arith, ended_lines-cons b c rest ∙ ap (λ x. cond x 1 0 + ended_lines (c ∷ rest)) is, behind_end c rest e)

-- ---- a record takes the end of a line, or all the text
abbrev Ends : ℕ → List ℕ → Option Read → Type 0
Ends b xs o = (p : Read) → o ≡ Some p → ((ended_lines p.2 < ended_lines (b ∷ xs)) × (is_open p.1 ≡ false)) ⊎ ((p.1 ≡ st.StartRecord) × (p.2 ≡ []))

ends_if : (x : Bool) (b : ℕ) (xs : List ℕ) (o p : Option Read) → (x ≡ true → Ends b xs o) → (x ≡ false → Ends b xs p) → Ends b xs (if x then o else p)
ends_if true b xs o p ho hp = ho refl
ends_if false b xs o p ho hp = hp refl

ends_none : (b : ℕ) (xs : List ℕ) → Ends b xs None
ends_none b xs p e = cc e

ends_all : (b : ℕ) (xs : List ℕ) (fields : List (List ℕ)) → Ends b xs (Some (fields, st.StartRecord, []))
ends_all b xs fields p e = rw (← same_Some (fields, st.StartRecord, []) p e) (inr (refl, refl))

ends_here : (b : ℕ) (xs : List ℕ) (q : Read) → ended_lines q.2 < ended_lines (b ∷ xs) → is_open q.1 ≡ false → Ends b xs (Some q)
ends_here b xs q less closed p e = rw (← same_Some q p e) (inl (less, closed))

wider : (b c : ℕ) (rest : List ℕ) (p : Read) → ((ended_lines p.2 < ended_lines (c ∷ rest)) × (is_open p.1 ≡ false)) ⊎ ((p.1 ≡ st.StartRecord) × (p.2 ≡ []))
    → ((ended_lines p.2 < ended_lines (b ∷ c ∷ rest)) × (is_open p.1 ≡ false)) ⊎ ((p.1 ≡ st.StartRecord) × (p.2 ≡ []))
wider b c rest p (inl more) = inl (omega (arith, more.0, no_fewer b (c ∷ rest)), more.1)
wider b c rest p (inr end) = inr end

ends_later : (b c : ℕ) (rest : List ℕ) (o : Option Read) → Ends c rest o → Ends b (c ∷ rest) o
ends_later b c rest o h p e = wider b c rest p (h p e)

-- b is the byte before the text: in an open state it ends no line
ends : (s : State) (b : ℕ) (fields : List (List ℕ)) (field xs : List ℕ) → (is_open s ≡ true → ends_line b ≡ false) → Ends b xs (next_record default_config s fields field xs)
unfolding next_record
ends s b fields field [] free =
    ends_if (ends_at_end s) b [] (Some (fields ++ (field ∷ []), st.StartRecord, [])) None
    (λ e. ends_all b [] (fields ++ (field ∷ []))) (λ e. ends_none b [])
ends s b fields field (c ∷ rest) free =
    let steps = step_steps s c in
    ends_if (is_end (step default_config s c).1) b (c ∷ rest)
    (Some (fields_after (step default_config s c).1 fields field, (step default_config s c).0, rest))
    (next_record default_config (step default_config s c).0 (fields_after (step default_config s c).1 fields field) (field_after (step default_config s c).1 c field) rest)
    (λ e. ends_here b (c ∷ rest) (fields_after (step default_config s c).1 fields field, (step default_config s c).0, rest)
    (one_more b c rest (free (steps.ends e).0) (steps.ends e).1) (steps.ends e).2)
    (λ e. ends_later b c rest _ (ends (step default_config s c).0 c (fields_after (step default_config s c).1 fields field) (field_after (step default_config s c).1 c field) rest (steps.goes_on e)))

-- ---- all the records from a place on
-- behind the end of the text there are none
at_end : (n : ℕ) → records_from default_config n st.StartRecord [] ≡ []
unfolding records_from next_record
at_end zero = refl
at_end (suc n) = refl

few_next : (n most : ℕ) (o : Option Read) → ((p : Read) → o ≡ Some p → length (records_from default_config n p.1 p.2) ≤ most) → length (records_next (records_from default_config n) o) ≤ most + 1
few_next n most None h = omega arith
few_next n most (Some p) h = omega (arith, h p refl)

few_behind : (n most : ℕ) (p : Read) → ((s : State) (b : ℕ) (xs : List ℕ) → (is_open s ≡ true → ends_line b ≡ false) → length (records_from default_config n s xs) ≤ ended_lines (b ∷ xs) + 1)
    → ((ended_lines p.2 < most) × (is_open p.1 ≡ false)) ⊎ ((p.1 ≡ st.StartRecord) × (p.2 ≡ [])) → length (records_from default_config n p.1 p.2) ≤ most
few_behind n most p more (inl less) = omega (arith, less.0, more p.1 10 p.2 (λ within. cc (within, less.1)), behind_end 10 p.2 refl)
few_behind n most p more (inr end) = rw (end.0, end.1, at_end n) (omega arith)

-- at most one more than there are ends of lines in which something stands
records_few : (n : ℕ) (s : State) (b : ℕ) (xs : List ℕ) → (is_open s ≡ true → ends_line b ≡ false) → length (records_from default_config n s xs) ≤ ended_lines (b ∷ xs) + 1
unfolding records_from
records_few zero s b xs free = omega arith
records_few (suc n) s b xs free =
    few_next n (ended_lines (b ∷ xs)) (next_record default_config s [] [] xs) (λ p e. few_behind n (ended_lines (b ∷ xs)) p (records_few n) (ends s b [] [] xs free p e))

-- so from the start of a text
pub text_few : (n : ℕ) (xs : List ℕ) → length (records_from default_config n st.StartRecord xs) ≤ ended_lines xs + 1
text_few n xs = omega (arith, records_few n st.StartRecord 10 xs (λ within. cc within), behind_end 10 xs refl)

same_next : (n m : ℕ) (o : Option Read) → ((p : Read) → o ≡ Some p → records_from default_config n p.1 p.2 ≡ records_from default_config m p.1 p.2)
    → records_next (records_from default_config n) o ≡ records_next (records_from default_config m) o
same_next n m None h = refl
same_next n m (Some p) h = ap (λ (more : Records). p.0 ∷ more) (h p refl)

same_behind : (n m most : ℕ) (p : Read) → ((s : State) (xs : List ℕ) → length xs < n → length xs < m → records_from default_config n s xs ≡ records_from default_config m s xs)
    → most ≤ n → most ≤ m → (length p.2 < most) ⊎ ((p.1 ≡ st.StartRecord) × (p.2 ≡ [])) → records_from default_config n p.1 p.2 ≡ records_from default_config m p.1 p.2
same_behind n m most p more hn hm (inl less) = more p.1 p.2 (omega (arith, hn, less)) (omega (arith, hm, less))
same_behind n m most p more hn hm (inr end) = rw (end.0, end.1) (at_end n ∙ sym (at_end m))

-- any count that goes past the bytes gives the same
same_records : (n m : ℕ) (s : State) (xs : List ℕ) → length xs < n → length xs < m → records_from default_config n s xs ≡ records_from default_config m s xs
unfolding records_from
same_records zero m s xs hn hm = absurd (omega (arith, hn))
same_records (suc n) zero s xs hn hm = absurd (omega (arith, hm))
same_records (suc n) (suc m) s xs hn hm =
    same_next n m (next_record default_config s [] [] xs)
    (λ p e. same_behind n m (length xs) p (same_records n m) (omega (arith, hn)) (omega (arith, hm)) (takes s [] [] xs p e))

begins : (n : ℕ) (s : State) (xs : List ℕ) (o : Option Read) → next_record default_config s [] [] xs ≡ o → records_from default_config (suc n) s xs ≡ records_next (records_from default_config n) o
unfolding records_from
begins n s xs o e = ap (records_next (records_from default_config n)) e

one_longer : (xs : List ℕ) → length xs + 1 ≡ suc (length xs)
one_longer xs = omega arith

enough : (n most : ℕ) (p : Read) → most ≤ n → (length p.2 < most) ⊎ ((p.1 ≡ st.StartRecord) × (p.2 ≡ []))
    → records_from default_config n p.1 p.2 ≡ records_left p.1 (Some p.2)
enough n most p hn (inl less) = same_records n (length p.2 + 1) p.1 p.2 (omega (arith, hn, less)) (omega (arith))
enough n most p hn (inr end) = rw (end.0, end.1) (at_end n ∙ sym (at_end 1))

-- the records that are left begin with the next one
pub first_record : (s : State) (xs : List ℕ) (p : Read) → next_record default_config s [] [] xs ≡ Some p → records_left s (Some xs) ≡ p.0 ∷ records_left p.1 (Some p.2)
first_record s xs p e =
    ap (λ n. records_from default_config n s xs) (one_longer xs) ∙ begins (length xs) s xs (Some p) e
    ∙ ap (λ (more : Records). p.0 ∷ more) (enough (length xs) (length xs) p (omega arith) (takes s [] [] xs p e))

-- where there is no next one, none are left
pub no_record : (s : State) (xs : List ℕ) → next_record default_config s [] [] xs ≡ None → records_left s (Some xs) ≡ []
no_record s xs e = ap (λ n. records_from default_config n s xs) (one_longer xs) ∙ begins (length xs) s xs None e
