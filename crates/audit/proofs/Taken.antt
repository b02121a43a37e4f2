-- A filing behind good lines: it is good where it is admitted, and else its key was used or it breaks a rule.
use Rattle.std.proofs.Common.{◌≡◌, ◌≢◌, ℕ, zero, suc, ◌+◌, ◌<◌, refl, sym, ap, subst, ◌∙◌, arith, Bool, true, false, List, [], ◌∷◌, ◌++◌, length, reverse, Option, Some, None}
use Rattle.std.specs.Prelude.{◌||◌, ◌↔◌, if◌then◌else◌, nat_lt}
use Rattle.std.specs.List.{list_any}
use Rattle.std.proofs.lemmas.Bool.{ltb-false, ltb-true}
use Rattle.std.proofs.lemmas.List.{nil_from_length, reverse-append}
use Rattle.std.proofs.lemmas.List.Folds.{list_any-append}
use Rattle.aid_filings.specs.declared.filing.Filing.{Filing}
use Rattle.aid_stamps.specs.Stamps.{IsStamp}
use Rattle.aid_stamps.specs.declared.stamp.Stamp.{Stamp}
use Rattle.aid_types.specs.declared.award.Refusal.{Refusal}
use Rattle.format_bytes.specs.Numbers.{IsFiling}
use Rattle.office_history.specs.Answer.{IsLegal, answer_of, breaks, is_admit, judged}
use Rattle.office_history.specs.Past.{first_at, first_of_two, key_at, same_key}
use Rattle.office_history.proofs.Admitted.{admitted_legal}
use Rattle.office_history.proofs.Cases.{answer_of-new}
use Rattle.office_history.proofs.Legal.{filing_at-new}
use Rattle.office_export.specs.Forms.{filing_form, form_of}
use Rattle.office_export.specs.Lines.{filing_line}
use Rattle.audit.specs.Findings.{Asked, IsInPlace, Rises}
use Rattle.audit.specs.Findings as finds
use Rattle.audit.specs.Lists.{IsTaken, broken, taken, used}
use Rattle.audit.specs.Steps.{IsAbove, IsJudged, Keeps, Told, filed}
use Rattle.audit.specs.declared.good_lines.GoodLines.{GoodLines}

-- ---- a key among the filings, the oldest first, is one in their history
any_last : (b c : Bool) → (b || (c || false)) ≡ (c || b)
any_last true true = refl
any_last true false = refl
any_last false true = refl
any_last false false = refl

any_reverse : (p : Filing → Bool) (fs : List Filing) → list_any p (reverse fs) ≡ list_any p fs
any_reverse p [] = refl
any_reverse p (f ∷ fs) =
    ap (list_any p) (reverse-append (f ∷ []) fs) ∙ list_any-append p (reverse fs) (f ∷ []) ∙ any_last (list_any p (reverse fs)) (p f) ∙ ap (λ (b : Bool). p f || b) (any_reverse p fs)

first_none : (p : Filing → Bool) (past : List Filing) → list_any p past ≡ false → first_at p past ≡ 0
first_none p [] h = refl
first_none p (f ∷ past) h = go (p f) (list_any p past) (first_at p past) h (first_none p past)
  where
    go : (b c : Bool) (n : ℕ) → (b || c) ≡ false → (c ≡ false → n ≡ 0) → first_of_two b n (length past + 1) ≡ 0
    go true c n h before = cc
    go false c n h before = before h

first_some : (p : Filing → Bool) (past : List Filing) → list_any p past ≡ true → first_at p past ≢ 0
first_some p [] h = cc
first_some p (f ∷ past) h = go (p f) (list_any p past) (first_at p past) h (first_some p past)
  where
    go : (b c : Bool) (n : ℕ) → (b || c) ≡ true → (c ≡ true → n ≢ 0) → first_of_two b n (length past + 1) ≢ 0
    go true c zero h before = λ e. absurd (omega arith)
    go true c (suc n) h before = λ e. absurd (omega arith)
    go false c n h before = before h

-- whether a key was used, as a plain list tells it
pub any_used : (fs : List Filing) (filing : Filing) → list_any (λ f. same_key filing.key f.key) fs ≡ true → key_at filing.key (reverse fs) ≢ 0
any_used fs filing any =
    let p : Filing → Bool = λ f. same_key filing.key f.key in
    first_some p (reverse fs) (any_reverse p fs ∙ any)

pub none_used : (fs : List Filing) (filing : Filing) → list_any (λ f. same_key filing.key f.key) fs ≡ false → key_at filing.key (reverse fs) ≡ 0
none_used fs filing none =
    let p : Filing → Bool = λ f. same_key filing.key f.key in
    first_none p (reverse fs) (any_reverse p fs ∙ none)

-- ---- a filing is taken where it is admitted
pub admitted_taken : (past after : List Filing) (filing : Filing) → IsLegal past → is_admit (answer_of past filing) ≡ true → after ≡ filing ∷ past → IsTaken past filing after None
admitted_taken past after filing legal admitted behind =
    let more = admitted_legal past filing legal admitted in
    taken more.1 more.2 behind

breaks_one : (past : List Filing) (filing : Filing) (o : Option Refusal) → breaks past filing ≡ o → is_admit (judged past filing o) ≡ false → (r : Refusal) × (breaks past filing ≡ Some r)
breaks_one past filing None e h = absurd cc
breaks_one past filing (Some r) e h = (r, e)

-- and else is bad, by whether its key was used
pub refused_bad : (past after : List Filing) (filing : Filing) (is_used : Bool) → is_admit (answer_of past filing) ≡ false
    → (is_used ≡ true → key_at filing.key past ≢ 0) → (is_used ≡ false → key_at filing.key past ≡ 0) → IsTaken past filing after (Some (if is_used then 3 else 4))
refused_bad past after filing true refused some none = used (some refl)
refused_bad past after filing false refused some none =
    let new = none refl in
    let answer = answer_of-new past filing (filing_at-new past filing new) new in
    let rule = breaks_one past filing (breaks past filing) refl (sym (ap is_admit answer) ∙ refused) in
    broken rule.0 new rule.1

-- whether a key has a position
pub above_zero : (p k : ℕ) → p ≡ k → nat_lt 0 p ≡ true → k ≢ 0
above_zero p k same h none = let some = ltb-true 0 p h in absurd (omega (arith, some, same, none))

pub not_above : (p k : ℕ) → p ≡ k → nat_lt 0 p ≡ false → k ≡ 0
not_above p k same h = let none = ltb-false 0 p h in omega (arith, none, same)

-- ---- what the code keeps
module _ {L : Type 0} (most : ℕ) (filings_of : L → List Filing) (lines : GoodLines L) (told : Told) (keeps : Keeps filings_of lines told) where
  pub kept_length : length (filings_of lines.list) ≡ length told.past
  kept_length = ap (λ (l : List Filing). length l) keeps.past

  kept_asked : lines.standings ≡ 0 → told.asked ≡ []
  kept_asked none = nil_from_length told.asked (sym keeps.standings ∙ none)

  pub has_standings : 0 < lines.standings → told.asked ≢ []
  has_standings some none = absurd (omega (arith, some, keeps.standings, ap (λ (l : List Asked). length l) none))

  -- a filing's line has its place before the standings and the end
  pub kept_in_place : (line : List ℕ) → lines.standings ≡ 0 → lines.ended ≡ false → form_of line ≡ Some filing_form → IsInPlace told.asked told.ended line
  kept_in_place line none early form = record { form = form; before_end = sym keeps.ended ∙ early; before_standings = kept_asked none }

  -- a filing that is judged there: it is good and kept behind the others, or it is bad
  pub taken_good : (after : GoodLines L) (z : Stamp) (f : Filing) (place : IsInPlace told.asked told.ended (filing_line z f)) → length (filings_of lines.list) < most → IsStamp z → IsFiling f
      → IsTaken (filings_of lines.list) f (filings_of after.list) None → after.stamps.items ≡ lines.stamps.items ++ z ∷ [] → lines.standings ≡ 0 → after.standings ≡ lines.standings
      → after.last ≡ lines.last → lines.ended ≡ false → after.ended ≡ lines.ended → IsJudged most filings_of told (filing_line z f) None after
  taken_good after z f place room is_z are (taken new sound behind) stamps none standings last early ended =
      let key : key_at f.key told.past ≡ 0 = subst (λ (past : List Filing). key_at f.key past ≡ 0) keeps.past new in
      let fine : breaks told.past f ≡ None = subst (λ (past : List Filing). breaks past f ≡ None) keeps.past sound in
      let more : Told = record { past = f ∷ told.past; stamps = z ∷ told.stamps; asked = []; ended = false } in (
        more,
        filed z f place.before_end place.before_standings (omega (arith, room, kept_length)) is_z are key fine refl,
        record {
          past = behind ∙ ap (λ (l : List Filing). f ∷ l) keeps.past;
          stamps = ap (λ (l : List Stamp). reverse l) stamps ∙ reverse-append lines.stamps.items (z ∷ []) ∙ ap (λ (l : List Stamp). z ∷ l) keeps.stamps;
          standings = standings ∙ none;
          rises = λ student. subst (λ (o : Option ℕ). IsAbove o student ↔ Unit {0}) (sym last) (subst (λ (asked : List Asked). IsAbove lines.last student ↔ Rises asked student) place.before_standings (keeps.rises student));
          ended = ended ∙ early;
        },
      )

  pub taken_bad : (end : L) (z : Stamp) (f : Filing) (cause : ℕ) (place : IsInPlace told.asked told.ended (filing_line z f)) → length (filings_of lines.list) < most → IsStamp z → IsFiling f
      → IsTaken (filings_of lines.list) f (filings_of end) (Some cause) → IsJudged most filings_of told (filing_line z f) (Some cause) lines
  taken_bad end z f cause place room is_z are (used some) rest =
      finds.used z f rest place (omega (arith, room, kept_length)) is_z are (subst (λ (past : List Filing). key_at f.key past ≢ 0) keeps.past some)
  taken_bad end z f cause place room is_z are (broken refusal new rule) rest =
      finds.broken z f refusal rest place (omega (arith, room, kept_length)) is_z are (subst (λ (past : List Filing). key_at f.key past ≡ 0) keeps.past new)
      (subst (λ (past : List Filing). breaks past f ≡ Some refusal) keeps.past rule)

-- the same under a cause that is another's
pub caused : (past after : List Filing) (f : Filing) (cause other : Option ℕ) → cause ≡ other → IsTaken past f after cause → IsTaken past f after other
caused past after f cause other is held = subst (λ (o : Option ℕ). IsTaken past f after o) is held
