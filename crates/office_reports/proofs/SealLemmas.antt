-- The lines of the seals of the fronts of a list.
use Rattle.std.proofs.Common.{◌≡◌, ℕ, ◌+◌, ◌<◌, ◌≤◌, List, [], ◌∷◌, ◌++◌, append-nil, ap, arith, codes, decimal, get_or, length, length-append, refl, reverse, sym, take, ◌∙◌}
use Rattle.std.specs.List.{concat}
use Rattle.std.proofs.lemmas.List.{length-reverse, length-take-le, reverse-append, take_all, take_more}
use Rattle.std.proofs.lemmas.List.Folds.{concat-append}
use Rattle.aid_filings.specs.declared.filing.Filing.{Filing}
use Rattle.aid_seals.specs.Seals.{next_seal, sealed_line}
use Rattle.aid_stamps.specs.Stamps.{stamp_bytes}
use Rattle.aid_stamps.specs.declared.stamp.Stamp.{Stamp}
use Rattle.format_bytes.specs.Spelling.{spelling}
use Rattle.office_export.specs.Seals.{office_seal}
use Rattle.office_export.proofs.SealLemmas as fronts
use Rattle.office_reports.specs.Seals.{seal_lines, seal_report, seals_report}

module _ (h : List Filing) (stamps : List Stamp) (i : ℕ) (f : Filing) (s : Stamp) (lt : i < length h) (same : length stamps ≡ length h) (at : f ≡ get_or h i f) (stamped : s ≡ get_or stamps i s) where
  -- the lines up to a front one longer
  pub lines-more : (after out more : List ℕ) → after ≡ office_seal (reverse (take (i + 1) h)) (reverse (take (i + 1) stamps))
      → out ≡ concat (seal_lines (reverse (take i h)) (reverse (take i stamps))) → more ≡ out ++ sealed_line (i + 1) after
      → more ≡ concat (seal_lines (reverse (take (i + 1) h)) (reverse (take (i + 1) stamps)))
  lines-more after out more sealed is e =
      let past = reverse (take i h) in
      let before = seal_lines past (reverse (take i stamps)) in
      let line = seal_report (f ∷ past) (s ∷ reverse (take i stamps)) in
      let size : i + 1 ≡ length (f ∷ past) = omega (arith, length-reverse (take i h), length-take-le i h (omega (arith, lt))) in
      let its_seal : after ≡ office_seal (f ∷ past) (s ∷ reverse (take i stamps)) = sealed ∙ (λ j. office_seal (fronts.filings h stamps i f s lt same at stamped j) (fronts.its_stamps h stamps i f s lt same at stamped j)) in
      let its_line : sealed_line (i + 1) after ≡ line = λ j. sealed_line (size j) (its_seal j) in
      e ∙ (λ j. is j ++ its_line j) ∙ ap (λ (last : List ℕ). concat before ++ last) (sym (append-nil line))
      ∙ sym (concat-append before (line ∷ [])) ∙ sym (λ j. concat (seal_lines (fronts.filings h stamps i f s lt same at stamped j) (fronts.its_stamps h stamps i f s lt same at stamped j)))

-- the first line is that of no filing
pub lines-none : (stamps : List Stamp) (seal none out : List ℕ) → seal ≡ office_seal [] [] → none ≡ [] → out ≡ none ++ sealed_line 0 seal → out ≡ concat (seal_lines [] stamps)
lines-none stamps seal none out is nothing e = e ∙ (λ j. nothing j ++ sealed_line 0 (is j)) ∙ sym (append-nil (seal_report [] []))

-- there is one line more than filings
length-seal_lines : (past : List Filing) (stamps : List Stamp) → length stamps ≡ length past → length (seal_lines past stamps) ≡ length past + 1
length-seal_lines [] stamps e = refl
length-seal_lines (f ∷ past) [] e = absurd (omega (arith, e))
length-seal_lines (f ∷ past) (s ∷ stamps) e =
    length-append (seal_lines past stamps) (seal_report (f ∷ past) (s ∷ stamps) ∷ []) ∙ plus_one (length-seal_lines past stamps (omega (arith, e)))
  where
    plus_one : length (seal_lines past stamps) ≡ length past + 1 → length (seal_lines past stamps) + 1 ≡ length (f ∷ past) + 1
    plus_one e = omega (arith, e)

module _ (h : List Filing) (stamps : List Stamp) (i : ℕ) (all : length h ≤ i) (same : length stamps ≡ length h) where
  -- all lines and their number are the report
  pub lines-whole : (out more : List ℕ) → out ≡ concat (seal_lines (reverse (take i h)) (reverse (take i stamps)))
      → more ≡ out ++ codes "rows " ++ decimal (length h + 1) ++ codes "\n" → more ≡ seals_report (reverse h) (reverse stamps)
  lines-whole out more is e =
      let lines = seal_lines (reverse h) (reverse stamps) in
      let whole : out ≡ concat lines = is ∙ (λ j. concat (seal_lines (reverse (take_all i h all j)) (reverse (take_all i stamps (omega (arith, all, same)) j)))) in
      let counted = length-seal_lines (reverse h) (reverse stamps) (length-reverse stamps ∙ same ∙ sym (length-reverse h)) in
      let count : length h + 1 ≡ length lines = omega (arith, counted, length-reverse h) in
      e ∙ ap (λ (text : List ℕ). text ++ codes "rows " ++ decimal (length h + 1) ++ codes "\n") whole
      ∙ ap (λ (n : ℕ). concat lines ++ codes "rows " ++ decimal n ++ codes "\n") count

-- the line of the seal of a list
pub line-whole : (h : List Filing) (stamps : List Stamp) (seal none out : List ℕ) → seal ≡ office_seal (reverse h) (reverse stamps) → none ≡ [] → out ≡ none ++ sealed_line (length h) seal
    → out ≡ seal_report (reverse h) (reverse stamps)
line-whole h stamps seal none out is nothing e =
    let count : length h ≡ length (reverse h) = sym (length-reverse h) in
    e ∙ (λ j. nothing j ++ sealed_line (count j) (is j))
