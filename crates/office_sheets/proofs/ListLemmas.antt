-- The lines of a list.
use Rattle.std.proofs.Common.{◌≡◌, ℕ, ◌+◌, ◌<◌, ◌≤◌, List, [], ◌∷◌, ◌++◌, append-nil, ap, arith, codes, decimal, get_or, length, length-append, refl, reverse, sym, take, ◌∙◌}
use Rattle.std.specs.List.{concat}
use Rattle.std.proofs.lemmas.List.{length-reverse, length-take-le, reverse-append, take_all, take_more}
use Rattle.std.proofs.lemmas.List.Folds.{concat-append}
use Rattle.aid_filings.specs.declared.filing.Filing.{Filing}
use Rattle.office_history.specs.Answer.{outcome_of}
use Rattle.aid_stamps.specs.declared.stamp.Stamp.{Stamp}
use Rattle.office_sheets.specs.Lists.{list_line, list_lines, list_sheet}

-- there are as many as filings
length-list_lines : (past : List Filing) (stamps : List Stamp) → length stamps ≡ length past → length (list_lines past stamps) ≡ length past
length-list_lines [] stamps e = refl
length-list_lines (f ∷ past) [] e = absurd (omega (arith, e))
length-list_lines (f ∷ past) (s ∷ stamps) e =
    length-append (list_lines past stamps) (list_line (length past + 1) s f (outcome_of past f) ∷ []) ∙ plus_one (length-list_lines past stamps (omega (arith, e)))
  where
    plus_one : length (list_lines past stamps) ≡ length past → length (list_lines past stamps) + 1 ≡ length (f ∷ past)
    plus_one e = omega (arith, e)

-- an element more of a list that is read newest first
one_more : {X : Type 0} (h : List X) (i : ℕ) (x : X) → i < length h → x ≡ get_or h i x → reverse (take (i + 1) h) ≡ x ∷ reverse (take i h)
one_more {X} h i x lt at =
    ap (λ (l : List X). reverse l) (take_more h i x lt) ∙ reverse-append (take i h) (get_or h i x ∷ []) ∙ ap (λ (y : X). y ∷ reverse (take i h)) (sym at)

-- the line of the filing at an index
pub list-more : (h : List Filing) (stamps : List Stamp) (i : ℕ) (f : Filing) (s : Stamp) → i < length h → length stamps ≡ length h → f ≡ get_or h i f → s ≡ get_or stamps i s → (out more : List ℕ)
    → out ≡ concat (list_lines (reverse (take i h)) (reverse (take i stamps))) → more ≡ out ++ list_line (i + 1) s f (outcome_of (reverse (take i h)) f)
    → more ≡ concat (list_lines (reverse (take (i + 1) h)) (reverse (take (i + 1) stamps)))
list-more h stamps i f s lt same at stamped out more is e =
    let past = reverse (take i h) in
    let before = list_lines past (reverse (take i stamps)) in
    let line = list_line (i + 1) s f (outcome_of past f) in
    let size : length past + 1 ≡ i + 1 = omega (arith, length-reverse (take i h), length-take-le i h (omega arith)) in
    let filings : reverse (take (i + 1) h) ≡ f ∷ past = one_more h i f lt at in
    let its_stamps : reverse (take (i + 1) stamps) ≡ s ∷ reverse (take i stamps) = one_more stamps i s (omega (arith, lt, same)) stamped in
    let lines : list_lines (reverse (take (i + 1) h)) (reverse (take (i + 1) stamps)) ≡ before ++ line ∷ [] =
    (λ j. list_lines (filings j) (its_stamps j)) ∙ ap (λ (n : ℕ). before ++ list_line n s f (outcome_of past f) ∷ []) size in
    e ∙ ap (λ (text : List ℕ). text ++ line) is ∙ ap (λ (last : List ℕ). concat before ++ last) (sym (append-nil line))
    ∙ sym (ap concat lines ∙ concat-append before (line ∷ []))

-- all lines and their number are the sheet
pub list-whole : (h : List Filing) (stamps : List Stamp) (past : List Filing) (i : ℕ) → length h ≤ i → length stamps ≡ length h → reverse h ≡ past → (out more : List ℕ)
    → out ≡ concat (list_lines (reverse (take i h)) (reverse (take i stamps))) → more ≡ out ++ codes "rows " ++ decimal (length h) ++ codes "\n" → more ≡ list_sheet past (reverse stamps)
list-whole h stamps past i all same history out more is e =
    let lines = list_lines (reverse h) (reverse stamps) in
    let whole : out ≡ concat lines =
    is ∙ (λ j. concat (list_lines (reverse (take_all i h all j)) (reverse (take_all i stamps (omega (arith, all, same)) j)))) in
    let count : length h ≡ length lines = sym (length-list_lines (reverse h) (reverse stamps) (length-reverse stamps ∙ same ∙ sym (length-reverse h)) ∙ length-reverse h) in
    e ∙ ap (λ (text : List ℕ). text ++ codes "rows " ++ decimal (length h) ++ codes "\n") whole
    ∙ ap (λ (n : ℕ). concat lines ++ codes "rows " ++ decimal n ++ codes "\n") count ∙ ap (λ (fs : List Filing). list_sheet fs (reverse stamps)) history
