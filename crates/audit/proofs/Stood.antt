-- A standing behind good lines, and the last line.
use Rattle.std.proofs.Common.{◌≡◌, ◌≢◌, ◌⊎◌, inl, inr, ℕ, ◌+◌, ◌<◌, sym, ap, subst, ◌∙◌, arith, Bool, true, false, List, [], ◌∷◌, ◌++◌, length, reverse, Option, Some, None}
use Rattle.std.specs.Prelude.{◌↔◌, IsTrue}
use Rattle.std.proofs.lemmas.List.{length_push}
use Rattle.aid_filings.specs.declared.filing.Filing.{Filing}
use Rattle.aid_stamps.specs.declared.stamp.Stamp.{Stamp}
use Rattle.office_export.specs.Forms.{end_form, form_of, standing_form}
use Rattle.office_export.specs.Lines.{end_line}
use Rattle.office_export.specs.Seals.{office_seal}
use Rattle.audit.specs.Findings.{Asked, IsAsked, Rises, counts, right_line, wrong}
use Rattle.audit.specs.Steps.{IsAbove, IsJudged, Keeps, Told, closed, stood}
use Rattle.audit.specs.declared.good_lines.GoodLines.{GoodLines}

-- ---- rising to a student, and to a greater one
rises_further : (asked : List Asked) (s t : ℕ) → s < t → Rises asked s → Rises asked t
rises_further [] s t less rises = tt
rises_further (a ∷ asked) s t less rises = (omega (arith, rises.0), rises_further asked s t less rises.1)

rises_last : (asked : List Asked) (a : Asked) (t : ℕ) → Rises asked t → a.0 < t → Rises (asked ++ a ∷ []) t
rises_last [] a t rises less = (less, tt)
rises_last (b ∷ asked) a t rises less = (rises.0, rises_last asked a t rises.1 less)

last_below : (asked : List Asked) (a : Asked) (t : ℕ) → Rises (asked ++ a ∷ []) t → a.0 < t
last_below [] a t rises = rises.0
last_below (b ∷ asked) a t rises = last_below asked a t rises.1

module _ {L : Type 0} (most : ℕ) (filings_of : L → List Filing) (lines after : GoodLines L) (line : List ℕ) (told : Told) (keeps : Keeps filings_of lines told) (early : lines.ended ≡ false) where
  -- ---- a standing is good where its line is the right one and its student above the last
  pub stands : (s : Asked) → form_of line ≡ Some (standing_form s.0 s.1) → IsAsked s → line ≡ right_line (filings_of lines.list) s → IsAbove lines.last s.0
      → filings_of after.list ≡ filings_of lines.list → after.stamps.items ≡ lines.stamps.items → after.standings ≡ lines.standings + 1 → after.last ≡ Some s.0 → after.ended ≡ lines.ended
      → IsJudged most filings_of told line None after
  stands s form operations right above list stamps standings last ended =
      let rises : Rises told.asked s.0 = (keeps.rises s.0).0 above in
      let more : Told = record { past = told.past; stamps = told.stamps; asked = told.asked ++ s ∷ []; ended = false } in (
        more,
        stood s (sym keeps.ended ∙ early) form operations rises (right ∙ ap (λ (past : List Filing). right_line past s) keeps.past),
        record {
          past = list ∙ keeps.past;
          stamps = ap (λ (l : List Stamp). reverse l) stamps ∙ keeps.stamps;
          standings = omega (arith, keeps.standings, standings, length_push told.asked s);
          rises = λ student. subst (λ (o : Option ℕ). IsAbove o student ↔ Rises (told.asked ++ s ∷ []) student) (sym last)
              (λ less. rises_last told.asked s student (rises_further told.asked s.0 student less rises) less, λ all. last_below told.asked s student all);
          ended = ended ∙ early;
        },
      )

  pub stands_wrong : (s : Asked) → form_of line ≡ Some (standing_form s.0 s.1) → (line ≢ right_line (filings_of lines.list) s) ⊎ (IsAbove lines.last s.0 → ⊥) → IsJudged most filings_of told line (Some 5) after
  stands_wrong s form (inl not) rest =
      wrong s.0 s.1 line rest (sym keeps.ended ∙ early) form (inl (λ e. not (e ∙ ap (λ (past : List Filing). right_line past s) (sym keeps.past))))
  stands_wrong s form (inr not) rest =
      wrong s.0 s.1 line rest (sym keeps.ended ∙ early) form (inr (λ rises. not ((keeps.rises s.0).1 rises)))

  -- ---- the last line is good where its counts and its seal are right
  counted : end_line (length (filings_of lines.list)) lines.standings (office_seal (filings_of lines.list) (reverse lines.stamps.items)) ≡ end_line (length told.past) (length told.asked) (office_seal told.past told.stamps)
  counted = λ i. end_line (length (keeps.past i)) (keeps.standings i) (office_seal (keeps.past i) (keeps.stamps i))

  pub ends : form_of line ≡ Some end_form → line ≡ end_line (length (filings_of lines.list)) lines.standings (office_seal (filings_of lines.list) (reverse lines.stamps.items))
      → filings_of after.list ≡ filings_of lines.list → after.stamps.items ≡ lines.stamps.items → after.standings ≡ lines.standings → after.last ≡ lines.last → after.ended ≡ true
      → IsJudged most filings_of told line None after
  ends form right list stamps standings last ended =
      let more : Told = record { past = told.past; stamps = told.stamps; asked = told.asked; ended = true } in (
        more,
        closed (sym keeps.ended ∙ early) form (right ∙ counted),
        record {
          past = list ∙ keeps.past;
          stamps = ap (λ (l : List Stamp). reverse l) stamps ∙ keeps.stamps;
          standings = standings ∙ keeps.standings;
          rises = λ student. subst (λ (o : Option ℕ). IsAbove o student ↔ Rises told.asked student) (sym last) (keeps.rises student);
          ended = ended;
        },
      )

  pub ends_wrong : form_of line ≡ Some end_form → line ≢ end_line (length (filings_of lines.list)) lines.standings (office_seal (filings_of lines.list) (reverse lines.stamps.items))
      → IsJudged most filings_of told line (Some 6) after
  ends_wrong form not rest = counts line rest (sym keeps.ended ∙ early) form (λ e. not (e ∙ sym counted))

-- what a test tells where it fails
pub told_false : (P : Type 0) (b : Bool) → (IsTrue b ↔ P) → b ≡ false → P → ⊥
told_false P b test fails holds = let passes : b ≡ true = test.1 holds in cc
