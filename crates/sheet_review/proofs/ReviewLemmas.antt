-- The parts of a review, filing by filing.
use Rattle.std.proofs.Common.{◌≡◌, ℕ, ◌+◌, ◌<◌, Bool, true, false, List, [], ◌∷◌, ◌++◌, append-nil, append_assoc, ap, arith, cond, drop, get_or, length, map, refl, reverse, subst, suc, sym, take, ◌∙◌}
use Rattle.std.specs.List.{concat}
use Rattle.std.proofs.lemmas.List.{length-reverse, length-take-le, map-append}
use Rattle.std.proofs.lemmas.List.Folds.{concat-append}
use Rattle.aid_filings.specs.declared.filing.Filing.{Filing}
use Rattle.aid_stamps.specs.declared.stamp.Stamp.{Stamp}
use Rattle.office_history.specs.Answer.{outcome_at, outcome_of}
use Rattle.office_history.proofs.Oldest.{reverse-at}
use Rattle.office_history.proofs.Recorded.{outcome_at-stays}
use Rattle.office_history.proofs.Slices.{one_more}
use Rattle.office_sheets.specs.Lists.{list_line}
use Rattle.office_sheets.proofs.LedgerPass.{rows_more}
use Rattle.sheet_review.specs.ReviewSheet.{application_line, application_lines, applies, places_left, withdrawal_part, withdrawal_places}

-- a part behind what stands in front of it
pub behind : (front text first second more : List ℕ) → text ≡ front → more ≡ text ++ first ++ second → more ≡ front ++ first ++ second
behind front text first second more is e = e ∙ ap (λ (t : List ℕ). t ++ first ++ second) is

-- one line, or none
line_or_none : (b : Bool) (one other : List ℕ) → one ≡ other → cond b one [] ≡ concat (cond b (other ∷ []) [])
line_or_none true one other e = e ∙ sym (append-nil other)
line_or_none false one other e = refl

-- more rows behind those before them, behind other text
rows_behind : (front out more : List ℕ) (rows next all : List (List ℕ)) → out ≡ front ++ concat rows → more ≡ out ++ concat next → all ≡ rows ++ next → more ≡ front ++ concat all
rows_behind front out more rows next all is e grown =
    e ∙ ap (λ (t : List ℕ). t ++ concat next) is ∙ append_assoc front (concat rows) (concat next) ∙ ap (λ (t : List ℕ). front ++ t) (sym (ap concat grown ∙ concat-append rows next))

-- with what the filing at an index was admitted
outcome_there : (h : List Filing) (i : ℕ) (f : Filing) → i < length h → f ≡ get_or h i f → outcome_at (reverse h) (i + 1) ≡ outcome_of (reverse (take i h)) f
outcome_there h i f lt at =
    let newer = reverse (drop (suc i) h) in
    let past = reverse (take i h) in
    let split : reverse h ≡ newer ++ f ∷ past = reverse-at h i f lt ∙ ap (λ (g : Filing). newer ++ g ∷ past) (sym at) in
    let size : length past + 1 ≡ i + 1 = omega (arith, length-reverse (take i h), length-take-le i h (omega (arith, lt))) in
    ap (λ (p : List Filing). outcome_at p (i + 1)) split
    ∙ subst (λ (n : ℕ). outcome_at (newer ++ f ∷ past) n ≡ outcome_of past f) size (outcome_at-stays newer past f)

-- the applications with a filing more
pub applications_more : (student year : ℕ) (h past : List Filing) (stamps : List Stamp) (i : ℕ) (f : Filing) (s : Stamp) → reverse h ≡ past → i < length h → i < length stamps
    → f ≡ get_or h i f → s ≡ get_or stamps i s → (front out more : List ℕ)
    → out ≡ front ++ concat (application_lines student year (reverse (take i h)) (reverse (take i stamps)))
    → more ≡ out ++ cond (applies student year f.what) (list_line (i + 1) s f (outcome_at past (i + 1))) []
    → more ≡ front ++ concat (application_lines student year (reverse (take (i + 1) h)) (reverse (take (i + 1) stamps)))
applications_more student year h past stamps i f s of_past lt few at stamped front out more is e =
    let before = reverse (take i h) in
    let lines = application_lines student year before (reverse (take i stamps)) in
    let next = application_line student year before s f in
    let outcome : outcome_at past (i + 1) ≡ outcome_of before f = ap (λ (p : List Filing). outcome_at p (i + 1)) (sym of_past) ∙ outcome_there h i f lt at in
    let size : i + 1 ≡ length before + 1 = omega (arith, length-reverse (take i h), length-take-le i h (omega (arith, lt))) in
    let line : list_line (i + 1) s f (outcome_at past (i + 1)) ≡ list_line (length before + 1) s f (outcome_of before f) = λ j. list_line (size j) s f (outcome j) in
    let told = line_or_none (applies student year f.what) _ _ line in
    let grown : application_lines student year (reverse (take (i + 1) h)) (reverse (take (i + 1) stamps)) ≡ lines ++ next =
    sym (rows_more (application_lines student year) (application_line student year) (λ past f s stamps. refl) h before stamps i f s lt few at stamped refl lines (lines ++ next) refl refl) in
    rows_behind front out more lines next _ is (e ∙ ap (λ (t : List ℕ). out ++ t) told) grown

-- the worksheets with a filing more
pub worksheets_more : (student year : ℕ) (now h : List Filing) (i : ℕ) (f : Filing) → i < length h → f ≡ get_or h i f → (front out more : List ℕ)
    → out ≡ front ++ concat (map (withdrawal_part now) (withdrawal_places student year (reverse (take i h))))
    → more ≡ out ++ concat (map (withdrawal_part now) (places_left student year f.key f.what))
    → more ≡ front ++ concat (map (withdrawal_part now) (withdrawal_places student year (reverse (take (i + 1) h))))
worksheets_more student year now h i f lt at front out more is e =
    let places = withdrawal_places student year (reverse (take i h)) in
    let next = places_left student year f.key f.what in
    let grown : map (withdrawal_part now) (withdrawal_places student year (reverse (take (i + 1) h))) ≡ map (withdrawal_part now) places ++ map (withdrawal_part now) next =
    ap (λ (past : List Filing). map (withdrawal_part now) (withdrawal_places student year past)) (one_more h i f lt at) ∙ map-append (withdrawal_part now) places next in
    rows_behind front out more (map (withdrawal_part now) places) (map (withdrawal_part now) next) _ is e grown
