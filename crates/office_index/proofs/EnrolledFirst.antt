-- The first enrollment of a student in a term becomes the newest of the student's first ones, and a later one leaves them.
use Rattle.std.proofs.Common.{◌≡◌, ℕ, ◌+◌, sym, ap, subst, ◌∙◌, cond, Bool, true, false, ◌&&◌, refl, List, ◌∷◌, length, eq-eqb}
use Rattle.std.specs.Prelude.{◌==◌}
use Rattle.std.specs.Cmp.{unsigned_tied}
use Rattle.std.specs.Ordering.{is_eq, nat_cmp}
use Rattle.std.proofs.lemmas.Bool.{ne_eqb}
use Rattle.sorted_rows.specs.Places.{value_at}
use Rattle.aid_filings.specs.declared.filing.EnrollFacts.{EnrollFacts}
use Rattle.aid_filings.specs.declared.filing.Filing.{Filing}
use Rattle.aid_filings.specs.declared.filing.What.{What}
use Rattle.aid_filings.specs.declared.filing.What.TheVariants.{Enroll}
use Rattle.office_history.specs.Answer.{IsLegal}
use Rattle.office_history.specs.Names.{place_name}
use Rattle.office_history.specs.declared.rows.PlaceRow.{PlaceRow}
use Rattle.office_updates.specs.Changed.{IsPlaceBefore, place_changed}
use Rattle.office_history.specs.FirstEnrollments.{is_first}
use Rattle.office_updates.specs.Links.{before_in, newest_place}
use Rattle.office_updates.proofs.EnrollmentsFirst.{no_credits}
use Rattle.office_index.specs.Index.{AreStudents, student_entry, student_or}
use Rattle.office_index.specs.declared.entries.StudentEntry.{StudentEntry}

module _ (past : List Filing) (f : Filing) (row : PlaceRow) (e : EnrollFacts) (is : f.what ≡ Enroll e) (before : IsPlaceBefore past f row)
    (legal : IsLegal past) where
  -- the row of its place tells whether an enrollment is the first
  told : (row.credits == 0) ≡ is_first past f.key.school e
  told =
      ap (λ (r : PlaceRow). r.credits == 0) (before (place_name f.key.school e) (ap (place_changed f.key.school) is))
      ∙ no_credits f.key.school e.student e.year e.term past legal

  first : row.credits ≡ 0 → is_first past f.key.school e ≡ true
  first none = sym told ∙ eq-eqb row.credits 0 none

  later : (row.credits ≡ 0 → ⊥) → is_first past f.key.school e ≡ false
  later some = sym told ∙ ne_eqb row.credits 0 some

  -- where the one before it stands
  before_is : before_in past f.key.school f.what ≡ cond (is_first past f.key.school e) (newest_place past e.student) 0
  before_is = ap (before_in past f.key.school) is

  pub first_before : (entry : StudentEntry) → entry ≡ student_entry past e.student → row.credits ≡ 0 → entry.newest ≡ before_in past f.key.school f.what
  first_before entry own none =
      ap (λ (x : StudentEntry). x.newest) own
      ∙ sym (before_is ∙ ap (λ (b : Bool). cond b (newest_place past e.student) 0) (first none))

  pub later_before : (row.credits ≡ 0 → ⊥) → 0 ≡ before_in past f.key.school f.what
  later_before some = sym (before_is ∙ ap (λ (b : Bool). cond b (newest_place past e.student) 0) (later some))

  -- and the students' rows with it
  pub first_written : (student position : ℕ) (old new : List (ℕ × StudentEntry)) → row.credits ≡ 0 → student ≡ e.student → position ≡ length past + 1 →
      ((other : ℕ) → student_or (value_at nat_cmp other new)
      ≡ record {
        row = (student_or (value_at nat_cmp other old)).row;
        newest = cond (is_eq (nat_cmp student other)) position (student_or (value_at nat_cmp other old)).newest;
      }) →
      AreStudents past old → AreStudents (f ∷ past) new
  first_written student position old new none same here written are other =
      subst (λ (w : What). student_or (value_at nat_cmp other new) ≡ student_entry (record { key = f.key; what = w } ∷ past) other) (sym is)
      (written other ∙ (λ i. record { row = (are other i).row; newest = cond (own i) (here i) (are other i).newest }))
    where
      and_true : (b c : Bool) → c ≡ true → b ≡ (b && c)
      and_true true c h = sym h
      and_true false c h = refl

      own : is_eq (nat_cmp student other) ≡ (e.student == other && is_first past f.key.school e)
      own =
          ap (λ (n : ℕ). is_eq (nat_cmp n other)) same ∙ unsigned_tied e.student other
          ∙ and_true (e.student == other) (is_first past f.key.school e) (first none)

  pub later_kept : (old : List (ℕ × StudentEntry)) → (row.credits ≡ 0 → ⊥) → AreStudents past old → AreStudents (f ∷ past) old
  later_kept old some are other =
      subst (λ (w : What). student_or (value_at nat_cmp other old) ≡ student_entry (record { key = f.key; what = w } ∷ past) other) (sym is)
      (are other ∙ (λ i. record { row = (student_entry past other).row; newest = cond (own i) (length past + 1) (newest_place past other) }))
    where
      and_false : (b c : Bool) → c ≡ false → false ≡ (b && c)
      and_false true c h = sym h
      and_false false c h = refl

      own : false ≡ (e.student == other && is_first past f.key.school e)
      own = and_false (e.student == other) (is_first past f.key.school e) (later some)
