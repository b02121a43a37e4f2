-- The lines of stamps.
use Rattle.std.proofs.Common.{◌≡◌, ℕ, ◌+◌, ◌<◌, ◌≤◌, List, [], ◌∷◌, ◌++◌, append-nil, ap, arith, codes, decimal, get_or, length, refl, sym, take, ◌∙◌}
use Rattle.std.specs.List.{concat}
use Rattle.std.proofs.lemmas.List.{length-take-le, take_all, take_more}
use Rattle.std.proofs.lemmas.List.Folds.{concat-append}
use Rattle.aid_stamps.specs.declared.stamp.Stamp.{Stamp}
use Rattle.office_reports.specs.Lines.{stamp_line}
use Rattle.office_reports.specs.Reports.{lines_from, stamp_report}

-- there are as many as stamps
length-lines_from : (position : ℕ) (stamps : List Stamp) → length (lines_from position stamps) ≡ length stamps
length-lines_from position [] = refl
length-lines_from position (s ∷ stamps) = omega (arith, length-lines_from (position + 1) stamps)

-- a stamp more has a line more
lines-push : (position : ℕ) (stamps : List Stamp) (s : Stamp) → lines_from position (stamps ++ s ∷ []) ≡ lines_from position stamps ++ stamp_line (position + length stamps) s ∷ []
lines-push position [] s = let e : position ≡ position + 0 = omega arith in ap (λ n. stamp_line n s ∷ []) e
lines-push position (t ∷ stamps) s =
    let e : position + 1 + length stamps ≡ position + length (t ∷ stamps) = omega arith in
    ap (λ lines. stamp_line position t ∷ lines) (lines-push (position + 1) stamps s ∙ ap (λ n. lines_from (position + 1) stamps ++ stamp_line n s ∷ []) e)

-- the line of the stamp at an index
pub stamps-more : (stamps : List Stamp) (i : ℕ) (s : Stamp) → i < length stamps → s ≡ get_or stamps i s → (out more : List ℕ)
    → out ≡ concat (lines_from 1 (take i stamps)) → more ≡ out ++ stamp_line (i + 1) s → more ≡ concat (lines_from 1 (take (i + 1) stamps))
stamps-more stamps i s lt at out more is e =
    let size : 1 + length (take i stamps) ≡ i + 1 = omega (arith, length-take-le i stamps (omega arith)) in
    let last : take (i + 1) stamps ≡ take i stamps ++ s ∷ [] = take_more stamps i s lt ∙ ap (λ (t : Stamp). take i stamps ++ t ∷ []) (sym at) in
    let lines : lines_from 1 (take (i + 1) stamps) ≡ lines_from 1 (take i stamps) ++ stamp_line (i + 1) s ∷ [] =
    ap (lines_from 1) last ∙ lines-push 1 (take i stamps) s ∙ ap (λ n. lines_from 1 (take i stamps) ++ stamp_line n s ∷ []) size in
    e ∙ ap (λ text. text ++ stamp_line (i + 1) s) is
    ∙ ap (λ line. concat (lines_from 1 (take i stamps)) ++ line) (sym (append-nil (stamp_line (i + 1) s)))
    ∙ sym (ap concat lines ∙ concat-append (lines_from 1 (take i stamps)) (stamp_line (i + 1) s ∷ []))

-- all lines and their number are the report
pub stamps-whole : (stamps : List Stamp) (i : ℕ) → length stamps ≤ i → (out more : List ℕ)
    → out ≡ concat (lines_from 1 (take i stamps)) → more ≡ out ++ codes "rows " ++ decimal (length stamps) ++ codes "\n" → more ≡ stamp_report stamps
stamps-whole stamps i all out more is e =
    e ∙ ap (λ text. text ++ codes "rows " ++ decimal (length stamps) ++ codes "\n") (is ∙ ap (λ (front : List Stamp). concat (lines_from 1 front)) (take_all i stamps all))
    ∙ ap (λ n. concat (lines_from 1 stamps) ++ codes "rows " ++ decimal n ++ codes "\n") (sym (length-lines_from 1 stamps))
