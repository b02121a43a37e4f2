-- The rows of a round so far, and one more.
use Rattle.std.proofs.Common.{◌≡◌, ℕ, ◌+◌, refl, sym, subst, ap, ◌∙◌, arith, Bool, true, false, ◌||◌, not, ◌⊎◌, inl, inr, List, [], ◌∷◌, ◌++◌, length, cond, Option, Some, None, Result, Ok, Err, append_assoc, append-nil, eq-eqb, eqb-true, length-append, ◌≤◌}
use Rattle.std.specs.Prelude.{◌==◌, ◌↔◌, ℤ, pos, neg_ℤ, nat_lt}
use Rattle.std.specs.BTreeSet.{BTreeSet, contains, Updates}
use Rattle.std.specs.Cmp.{unsigned_ties}
use Rattle.std.specs.Coded.{le_prop}
use Rattle.std.specs.List.{Any, Contains, find, list_any}
use Rattle.std.specs.Option.{is_some, option_or}
use Rattle.std.specs.Ordering.{int_eq, nat_cmp}
use Rattle.std.proofs.lemmas.List.{nil_from_length}
use Rattle.std.proofs.lemmas.List.Elements.{Contains-append_left, Contains-push, Contains-push_cases}
use Rattle.std.proofs.lemmas.Bool.{and_parts, ltb-false}
use Rattle.std.proofs.lemmas.List.Folds.{find-append, list_any-append}
use Rattle.aid_types.proofs.Same.{le_ℤ-prop, same_with_fact}
use Rattle.format_rows.specs.Lines.{error_line}
use Rattle.format_rows.specs.declared.error.RowError.{RowError}
use Rattle.law_funds.specs.Answers.{IsAsked}
use Rattle.law_funds.specs.Order.{IsInOrder}
use Rattle.law_funds.specs.declared.candidate.Candidate.{Candidate}
use Rattle.work_rounds.specs.Gathered.{IsGathered}
use Rattle.work_rounds.specs.Order.{is_alike}
use Rattle.work_rounds.specs.Plans.{AreCandidates, IsCandidate}
use Rattle.work_rounds.specs.Rows.{is_of, repeated_line, round_line, round_lines, said_of_candidate}
use Rattle.work_rounds.specs.declared.gather.Gathered.{Gathered}
use Rattle.work_rounds.specs.declared.rows.RoundSaid.{RoundSaid}
use Rattle.work_rounds.specs.declared.words.RoundRequest.{RoundRequest}
use Rattle.law_work.specs.declared.filing.WorkFiling.{WorkFiling}
use Rattle.law_work.specs.Funds.{award_at}

abbrev Row : Type 0
Row = Result RoundSaid RowError

-- ---- the lines
lines_append : (before xs ys : List Row) → round_lines before (xs ++ ys) ≡ round_lines before xs ++ round_lines (before ++ xs) ys
lines_append before [] ys = ap (λ (l : List Row). round_lines l ys) (sym (append-nil before))
lines_append before (x ∷ xs) ys =
    ap (λ (l : List ℕ). round_line before x ++ l) (lines_append (before ++ x ∷ []) xs ys)
    ∙ ap (λ (l : List Row). round_line before x ++ (round_lines (before ++ x ∷ []) xs ++ round_lines l ys)) (append_assoc before (x ∷ []) xs)
    ∙ sym (append_assoc (round_line before x) (round_lines (before ++ x ∷ []) xs) (round_lines (before ++ x ∷ xs) ys))

lines_more : (before : List Row) (row : Row) → round_lines [] (before ++ row ∷ []) ≡ round_lines [] before ++ round_line before row
lines_more before row = lines_append [] before (row ∷ []) ∙ ap (λ (l : List ℕ). round_lines [] before ++ l) (append-nil (round_line before row))

-- ---- the first row of a student
any_found : {X : Type 0} (p : X → Bool) (xs : List X) → list_any p xs ≡ is_some (find p xs)
any_found p [] = refl
any_found {X} p (x ∷ xs) = go (p x) (any_found p xs)
  where
    go : (b : Bool) → list_any p xs ≡ is_some (find p xs) → (b || list_any p xs) ≡ is_some (cond b (Some x) (find p xs))
    go true e = refl
    go false e = e

first_more : (before : List Row) (row : Row) (student : ℕ) → find (is_of student) (before ++ row ∷ []) ≡ option_or (find (is_of student) before) (cond (is_of student row) (Some row) None)
first_more before row student = find-append (is_of student) before (row ∷ [])

-- no row before is of the student
abbrev IsNew : List Row → ℕ → Type 0
IsNew before student = find (is_of student) before ≡ None

none_before : (before : List Row) (student : ℕ) → list_any (is_of student) before ≡ false → IsNew before student
none_before before student h = go (find (is_of student) before) (sym (any_found (is_of student) before) ∙ h)
  where
    go : (o : Option Row) → is_some o ≡ false → o ≡ None
    go None e = refl
    go (Some x) e = absurd (let bad : ⊥ = cc in bad)

some_before : (before : List Row) (student : ℕ) → list_any (is_of student) before ≡ true → IsNew before student → ⊥
some_before before student h none = let bad : true ≡ false = sym h ∙ any_found (is_of student) before ∙ ap is_some none in cc

some_same : (x y : Row) → ◌≡◌ {A = Option Row} (Some x) (Some y) → x ≡ y
some_same x y e = ap (λ (o : Option Row). elim o [ Some z ↦ z | None ↦ x ]) e

-- candidates with equal numbers are equal
asked_prop : (need : ℕ) (sai : ℤ) (intensity : ℕ) → IsProp (IsAsked need sai intensity)
asked_prop need sai intensity x y = λ i. record {
  need_fits = le_prop x.need_fits y.need_fits i;
  index_fits = (le_ℤ-prop (neg_ℤ (pos 1500)) sai x.index_fits.0 y.index_fits.0 i, le_ℤ-prop sai (pos 999999) x.index_fits.1 y.index_fits.1 i);
  intensity_fits = (le_prop x.intensity_fits.0 y.intensity_fits.0 i, le_prop x.intensity_fits.1 y.intensity_fits.1 i);
}

said_whole : (c d : Candidate) → said_of_candidate c ≡ said_of_candidate d → c ≡ d
said_whole c d e =
    let P : ℕ × (ℤ × (ℕ × ℕ)) → Type 0 = λ b. IsAsked b.1.1.0 b.1.0 b.1.1.1 in
    let make : (b : ℕ × (ℤ × (ℕ × ℕ))) → P b → Candidate = λ b p. record { student = b.0; sai = b.1.0; need = b.1.1.0; intensity = b.1.1.1; in_range = p } in
    same_with_fact P make (λ b. asked_prop b.1.1.0 b.1.0 b.1.1.1) (c.student, (c.sai, (c.need, c.intensity))) (d.student, (d.sai, (d.need, d.intensity))) c.in_range d.in_range
    (ap (λ (s : RoundSaid). (s.student, (s.sai, (s.need, s.intensity)))) e)

ok_same : (s t : RoundSaid) → ◌≡◌ {A = Row} (Ok s) (Ok t) → s ≡ t
ok_same s t e = ap (λ (r : Row). elim r [ Ok z ↦ z | Err x ↦ s ]) e

-- ---- one row more
module _ (past : List WorkFiling) (r : RoundRequest) (before : List Row) (row : Row) where
  -- a candidate stays one
  stays : (d : Candidate) → IsCandidate past r before d → IsCandidate past r (before ++ row ∷ []) d
  stays d is = record {
    first = first_more before row d.student ∙ ap (λ (o : Option Row). option_or o (cond (is_of d.student row) (Some row) None)) is.first;
    unawarded = is.unawarded;
  }

  -- a new one is what the row says
  splits : (d : Candidate) → IsCandidate past r (before ++ row ∷ []) d
      → IsCandidate past r before d ⊎ ((row ≡ Ok (said_of_candidate d)) × IsNew before d.student × (award_at past r.school r.year d.student ≡ 0))
  splits d is = go (find (is_of d.student) before) refl (is_of d.student row) (sym (first_more before row d.student) ∙ is.first)
    where
      go : (o : Option Row) → find (is_of d.student) before ≡ o → (b : Bool) → option_or o (cond b (Some row) None) ≡ Some (Ok (said_of_candidate d))
          → IsCandidate past r before d ⊎ ((row ≡ Ok (said_of_candidate d)) × IsNew before d.student × (award_at past r.school r.year d.student ≡ 0))
      go (Some x) at b e = inl (record { first = at ∙ e; unawarded = is.unawarded })
      go None at true e = inr (some_same row (Ok (said_of_candidate d)) e, at, is.unawarded)
      go None at false e = absurd (let bad : ⊥ = cc in bad)

  -- what the row says is one, where its student has no award
  joins : (d : Candidate) → row ≡ Ok (said_of_candidate d) → IsNew before d.student → award_at past r.school r.year d.student ≡ 0 → IsCandidate past r (before ++ row ∷ []) d
  joins d is none unawarded = record {
    first =
        first_more before row d.student
        ∙ ap (λ (o : Option Row). option_or o (cond (is_of d.student row) (Some row) None)) none
        ∙ ap (λ (x : Row). option_or None (cond (is_of d.student x) (Some row) None)) is
        ∙ ap (λ (b : Bool). option_or None (cond b (Some row) None)) (eq-eqb d.student d.student refl)
        ∙ ap (λ (x : Row). Some x) is;
    unawarded = unawarded;
  }

  module _ (old new : Gathered) (g : IsGathered past r before old) where
    -- what was gathered with the row, where it brings no candidate
    same_with : new.heading.items ≡ old.heading.items ++ round_line before row → new.candidates.items ≡ old.candidates.items
        → ((student : ℕ) → contains nat_cmp new.students student ≡ (list_any (is_of student) before || is_of student row))
        → ((d : Candidate) → row ≡ Ok (said_of_candidate d) → IsNew before d.student → award_at past r.school r.year d.student ≡ 0 → ⊥)
        → IsGathered past r (before ++ row ∷ []) new
    same_with lines same students never = record {
      lines = lines ∙ ap (λ (l : List ℕ). l ++ round_line before row) g.lines ∙ sym (lines_more before row);
      candidates = λ d. (
        λ there. stays d ((g.candidates d).0 (subst (λ (l : List Candidate). Contains l d) same there)),
        λ is. subst (λ (l : List Candidate). Contains l d) (sym same) (back d (splits d is)),
      );
      students = λ student. students student ∙ sym (list_any-append (is_of student) before (row ∷ []) ∙ ap (λ (b : Bool). list_any (is_of student) before || b) (only (is_of student row)));
    }
      where
        only : (b : Bool) → (b || false) ≡ b
        only true = refl
        only false = refl

        back : (d : Candidate) → IsCandidate past r before d ⊎ ((row ≡ Ok (said_of_candidate d)) × IsNew before d.student × (award_at past r.school r.year d.student ≡ 0)) → Contains old.candidates.items d
        back d (inl is) = (g.candidates d).1 is
        back d (inr (is, none, unawarded)) = absurd (never d is none unawarded)

    -- and where it brings one
    one_with : (c : Candidate) → new.heading.items ≡ old.heading.items ++ round_line before row → new.candidates.items ≡ old.candidates.items ++ c ∷ []
        → ((student : ℕ) → contains nat_cmp new.students student ≡ (list_any (is_of student) before || is_of student row))
        → row ≡ Ok (said_of_candidate c) → IsNew before c.student → award_at past r.school r.year c.student ≡ 0 → IsGathered past r (before ++ row ∷ []) new
    one_with c lines more students is none unawarded = record {
      lines = lines ∙ ap (λ (l : List ℕ). l ++ round_line before row) g.lines ∙ sym (lines_more before row);
      candidates = λ d. (
        λ there. from d (Contains-push_cases old.candidates.items c d (subst (λ (l : List Candidate). Contains l d) more there)),
        λ good. subst (λ (l : List Candidate). Contains l d) (sym more) (back d (splits d good)),
      );
      students = λ student. students student ∙ sym (list_any-append (is_of student) before (row ∷ []) ∙ ap (λ (b : Bool). list_any (is_of student) before || b) (only (is_of student row)));
    }
      where
        only : (b : Bool) → (b || false) ≡ b
        only true = refl
        only false = refl

        from : (d : Candidate) → Contains old.candidates.items d ⊎ (c ≡ d) → IsCandidate past r (before ++ row ∷ []) d
        from d (inl there) = stays d ((g.candidates d).0 there)
        from d (inr same) = subst (λ (e : Candidate). IsCandidate past r (before ++ row ∷ []) e) same (joins c is none unawarded)

        back : (d : Candidate) → IsCandidate past r before d ⊎ ((row ≡ Ok (said_of_candidate d)) × IsNew before d.student × (award_at past r.school r.year d.student ≡ 0)) → Contains (old.candidates.items ++ c ∷ []) d
        back d (inl good) = Contains-append_left old.candidates.items (c ∷ []) d ((g.candidates d).1 good)
        back d (inr (also, _, _)) =
            subst (Contains (old.candidates.items ++ c ∷ [])) (said_whole c d (ok_same (said_of_candidate c) (said_of_candidate d) (sym is ∙ also))) (Contains-push old.candidates.items c)

-- ---- the four ways of a row
-- the set of students with one more
with_student : (before : List Row) (said : RoundSaid) (old new : BTreeSet ℕ) → ((student : ℕ) → contains nat_cmp old student ≡ list_any (is_of student) before) → Updates nat_cmp old new said.student true
    → (student : ℕ) → contains nat_cmp new student ≡ (list_any (is_of student) before || is_of student (Ok said))
with_student before said old new students updates student = updates.0 student ∙ ap (λ (b : Bool). cond b true (contains nat_cmp old student)) (sym (unsigned_ties said.student student)) ∙ go (said.student == student) (students student)
  where
    go : (b : Bool) → contains nat_cmp old student ≡ list_any (is_of student) before → cond b true (contains nat_cmp old student) ≡ (list_any (is_of student) before || b)
    go true e = sym (all (list_any (is_of student) before))
      where
        all : (x : Bool) → (x || true) ≡ true
        all true = refl
        all false = refl
    go false e = e ∙ sym (none (list_any (is_of student) before))
      where
        none : (x : Bool) → (x || false) ≡ x
        none true = refl
        none false = refl

module _ (past : List WorkFiling) (r : RoundRequest) (before : List Row) (old new : Gathered) (g : IsGathered past r before old) where
  -- a row that is none
  pub take_error : (error : RowError) → new.heading.items ≡ old.heading.items ++ error_line error → new.candidates.items ≡ old.candidates.items → new.students ≡ old.students
      → IsGathered past r (before ++ Err error ∷ []) new
  take_error error lines same kept = same_with past r before (Err error) old new g lines same
      (λ student. ap (λ (s : BTreeSet ℕ). contains nat_cmp s student) kept ∙ g.students student ∙ sym (none (list_any (is_of student) before)))
      (λ d is. absurd (let bad : ⊥ = cc in bad))
    where
      none : (x : Bool) → (x || false) ≡ x
      none true = refl
      none false = refl

  -- a row that was read: its student is put into the set, as `key`
  module _ (c : Candidate) {key : ℕ} (is_key : key ≡ c.student) (put : Updates nat_cmp old.students new.students key true) where
    abbrev said : Row
    said = Ok (said_of_candidate c)

    updates : Updates nat_cmp old.students new.students c.student true
    updates = subst (λ (n : ℕ). Updates nat_cmp old.students new.students n true) is_key put

    -- whether it is new there
    was_in : not (contains nat_cmp old.students key) ≡ false → contains nat_cmp old.students c.student ≡ true
    was_in = subst (λ (n : ℕ). not (contains nat_cmp old.students n) ≡ false → contains nat_cmp old.students c.student ≡ true) (sym is_key) (go (contains nat_cmp old.students c.student))
      where
        go : (b : Bool) → not b ≡ false → b ≡ true
        go true h = refl
        go false h = absurd (let bad : ⊥ = cc in bad)

    was_out : not (contains nat_cmp old.students key) ≡ true → contains nat_cmp old.students c.student ≡ false
    was_out = subst (λ (n : ℕ). not (contains nat_cmp old.students n) ≡ true → contains nat_cmp old.students c.student ≡ false) (sym is_key) (go (contains nat_cmp old.students c.student))
      where
        go : (b : Bool) → not b ≡ true → b ≡ false
        go true h = absurd (let bad : ⊥ = cc in bad)
        go false h = refl

    -- a row of a student who was read before
    pub take_repeated : (number : ℕ) → number ≡ length before + 1 → not (contains nat_cmp old.students key) ≡ false → new.heading.items ≡ old.heading.items ++ repeated_line number → new.candidates.items ≡ old.candidates.items
        → IsGathered past r (before ++ said ∷ []) new
    take_repeated number at seen lines same =
        let known : list_any (is_of c.student) before ≡ true = sym (g.students c.student) ∙ was_in seen in
        same_with past r before said old new g
        (lines ∙ ap (λ (n : ℕ). old.heading.items ++ repeated_line n) at ∙ sym (ap (λ (b : Bool). old.heading.items ++ cond b (repeated_line (length before + 1)) []) known)) same
        (with_student before (said_of_candidate c) old.students new.students g.students updates)
        (λ d is none unawarded. some_before before c.student known
        (subst (λ (s : ℕ). IsNew before s) (sym (ap (λ (t : RoundSaid). t.student) (ok_same (said_of_candidate c) (said_of_candidate d) is))) none))

    abbrev IsFresh : Type 0
    IsFresh = not (contains nat_cmp old.students key) ≡ true

    fresh : IsFresh → list_any (is_of c.student) before ≡ false
    fresh unseen = sym (g.students c.student) ∙ was_out unseen

    no_line : IsFresh → new.heading.items ≡ old.heading.items → new.heading.items ≡ old.heading.items ++ round_line before said
    no_line unseen same = same ∙ sym (append-nil old.heading.items) ∙ sym (ap (λ (b : Bool). old.heading.items ++ cond b (repeated_line (length before + 1)) []) (fresh unseen))

    -- a row of a student with an award there
    pub take_awarded : IsFresh → nat_lt 0 (award_at past r.school r.year c.student) ≡ true → new.heading.items ≡ old.heading.items → new.candidates.items ≡ old.candidates.items
        → IsGathered past r (before ++ said ∷ []) new
    take_awarded unseen has lines same = same_with past r before said old new g (no_line unseen lines) same
        (with_student before (said_of_candidate c) old.students new.students g.students updates)
        (λ d is none unawarded. zero_not _ has
        (subst (λ (s : ℕ). award_at past r.school r.year s ≡ 0) (sym (ap (λ (t : RoundSaid). t.student) (ok_same (said_of_candidate c) (said_of_candidate d) is))) unawarded))
      where
        zero_not : (n : ℕ) → nat_lt 0 n ≡ true → n ≡ 0 → ⊥
        zero_not n some none = let bad : nat_lt 0 0 ≡ true = subst (λ (m : ℕ). nat_lt 0 m ≡ true) none some in cc

    -- a row of a candidate
    pub take_candidate : IsFresh → nat_lt 0 (award_at past r.school r.year c.student) ≡ false → new.heading.items ≡ old.heading.items → new.candidates.items ≡ old.candidates.items ++ c ∷ []
        → IsGathered past r (before ++ said ∷ []) new
    take_candidate unseen has lines more = one_with past r before said old new g c (no_line unseen lines) more
        (with_student before (said_of_candidate c) old.students new.students g.students updates) refl (none_before before c.student (fresh unseen)) (zero_is (award_at past r.school r.year c.student) has)
      where
        zero_is : (n : ℕ) → nat_lt 0 n ≡ false → n ≡ 0
        zero_is n none = let most = ltb-false 0 n none in omega (arith, most)

-- ---- the rows of a round
-- none yet
pub gather_start : (past : List WorkFiling) (r : RoundRequest) (g : Gathered) → g.heading.items ≡ [] → g.candidates.items ≡ [] → ((student : ℕ) → contains nat_cmp g.students student ≡ false) → IsGathered past r [] g
gather_start past r g lines none students = record {
  lines = lines;
  candidates = λ c. (
    λ there. absurd (no_item c (subst (λ (l : List Candidate). Contains l c) none there)),
    λ is. absurd (let e = is.first in let bad : ⊥ = cc in bad),
  );
  students = students;
}
  where
    no_item : (c : Candidate) → Contains {X = Candidate} [] c → ⊥
    no_item c there = omega (arith, there.1)

-- what is left of the rows, and those in front of it
pub record IsTaken (past : List WorkFiling) (r : RoundRequest) (rows left : List Row) (count : ℕ) (g : Gathered) : Type 0 where
  pub before : List Row
  pub split : rows ≡ before ++ left
  pub many : length before ≡ count
  pub gathered : IsGathered past r before g

-- at the first row
pub taken_none : (past : List WorkFiling) (r : RoundRequest) (rows : List Row) (g : Gathered) → g.heading.items ≡ [] → g.candidates.items ≡ [] → ((student : ℕ) → contains nat_cmp g.students student ≡ false) → IsTaken past r rows rows 0 g
taken_none past r rows g lines none students = record { before = []; split = refl; many = refl; gathered = gather_start past r g lines none students }

-- one row more
pub taken_more : (past : List WorkFiling) (r : RoundRequest) (rows left later : List Row) (row : Row) (count : ℕ) (old new : Gathered) → left ≡ row ∷ later
    → ((before : List Row) → count + 1 ≡ length before + 1 → IsGathered past r before old → IsGathered past r (before ++ row ∷ []) new) → IsTaken past r rows left count old → IsTaken past r rows later (count + 1) new
taken_more past r rows left later row count old new next takes t = record {
  before = t.before ++ row ∷ [];
  split = t.split ∙ ap (λ (l : List Row). t.before ++ l) next ∙ sym (append_assoc t.before (row ∷ []) later);
  many = omega (arith, t.many, length-append t.before (row ∷ []));
  gathered = takes t.before (omega (arith, t.many)) t.gathered;
}

-- behind the last row
pub taken_all : (past : List WorkFiling) (r : RoundRequest) (rows left : List Row) (count : ℕ) (g : Gathered) → left ≡ [] → IsTaken past r rows left count g → IsGathered past r rows g
taken_all past r rows left count g none t = subst (λ (l : List Row). IsGathered past r l g) (sym (t.split ∙ ap (λ (l : List Row). t.before ++ l) none ∙ append-nil t.before)) t.gathered

pub taken_long : (past : List WorkFiling) (r : RoundRequest) (rows left : List Row) (count : ℕ) (g : Gathered) → length rows ≤ count → IsTaken past r rows left count g → IsGathered past r rows g
taken_long past r rows left count g long t =
    taken_all past r rows left count g (nil_from_length left (omega (arith, long, t.many, ap length t.split, length-append t.before left))) t

-- in the order of awards, each once
pub in_turn : (past : List WorkFiling) (r : RoundRequest) (rows : List Row) (g : Gathered) (ds : List Candidate) → IsGathered past r rows g → IsInOrder ds
    → ((c : Candidate) → Contains ds c → Contains g.candidates.items c) → ((c : Candidate) → Contains g.candidates.items c → Any (λ d. is_alike c d ≡ true) ds) → AreCandidates past r rows ds
in_turn past r rows g ds all order only kept = (order, λ c. (λ there. (g_of c).0 (only c there), λ good. back c good))
  where
    g_of : (c : Candidate) → Contains g.candidates.items c ↔ IsCandidate past r rows c
    g_of c = all.candidates c

    back : (c : Candidate) → IsCandidate past r rows c → Contains ds c
    back c good =
        let found = kept c ((g_of c).1 good) in
        let d = found.1 in
        let there : Contains ds d = (found.0, found.2, found.3) in
        let student : c.student ≡ d.student = eqb-true c.student d.student (and_parts (int_eq c.sai d.sai) (c.student == d.student) found.4).1 in
        let also = (g_of d).0 (only d there) in
        let same = some_same (Ok (said_of_candidate c)) (Ok (said_of_candidate d)) (sym good.first ∙ ap (λ (s : ℕ). find (is_of s) rows) student ∙ also.first) in
        subst (Contains ds) (sym (said_whole c d (ok_same (said_of_candidate c) (said_of_candidate d) same))) there
