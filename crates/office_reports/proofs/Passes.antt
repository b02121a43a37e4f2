-- Lists that a pass over others makes.
use Rattle.std.proofs.Common.{◌≡◌, ℕ, ◌+◌, ◌<◌, sym, ap, ◌∙◌, List, [], ◌∷◌, ◌++◌, length, map, reverse, take, drop, get_or, suc, subst, append-nil, arith}
use Rattle.std.specs.List.{concat, flat_map}
use Rattle.std.proofs.lemmas.List.{length-reverse, length-take-le, map_more, take_more}
use Rattle.std.proofs.lemmas.List.Concat.{flat_map-append}
use Rattle.std.proofs.lemmas.List.Folds.{concat-append}
use Rattle.aid_filings.specs.declared.filing.Filing.{Filing}
use Rattle.office_history.specs.Answer.{outcome_at, outcome_of}
use Rattle.office_history.proofs.Oldest.{reverse-at}
use Rattle.office_history.proofs.Recorded.{outcome_at-stays}
use Rattle.office_history.proofs.Slices.{one_more}
use Rattle.office_reports.specs.Rows.{return_rows, returns_in}

-- the line of a row more
pub lines-more : {X : Type 0} (line : X → List ℕ) (h : List X) (i : ℕ) (x : X) → i < length h → x ≡ get_or h i x → (out more : List ℕ)
    → out ≡ concat (map line (take i h)) → more ≡ out ++ line x → more ≡ concat (map line (take (i + 1) h))
lines-more line h i x lt at out more is e =
    e ∙ ap (λ text. text ++ line x) is
    ∙ ap (λ last. concat (map line (take i h)) ++ last) (ap line at ∙ sym (append-nil (line (get_or h i x))))
    ∙ sym (ap concat (map_more line h i x lt) ∙ concat-append (map line (take i h)) (line (get_or h i x) ∷ []))

-- a row more
pub rows-more : {X Y : Type 0} (row : X → Y) (h : List X) (i : ℕ) (x : X) → i < length h → x ≡ get_or h i x → (out more : List Y)
    → out ≡ map row (take i h) → more ≡ out ++ row x ∷ [] → more ≡ map row (take (i + 1) h)
rows-more row h i x lt at out more is e =
    e ∙ ap (λ rows. rows ++ row x ∷ []) is ∙ ap (λ y. map row (take i h) ++ row y ∷ []) at ∙ sym (map_more row h i x lt)

-- the rows of a place more
pub groups-more : {X Y : Type 0} (rows : X → List Y) (h : List X) (i : ℕ) (x : X) → i < length h → x ≡ get_or h i x → (out more : List Y)
    → out ≡ flat_map rows (take i h) → more ≡ out ++ rows x → more ≡ flat_map rows (take (i + 1) h)
groups-more rows h i x lt at out more is e =
    e ∙ ap (λ list. list ++ rows x) is
    ∙ ap (λ last. flat_map rows (take i h) ++ last) (ap rows at ∙ sym (append-nil (rows (get_or h i x))))
    ∙ sym (ap (flat_map rows) (take_more h i x lt) ∙ flat_map-append rows (take i h) (get_or h i x ∷ []))

-- the rows of returns with a filing more
pub returns-more : (year : ℕ) (h : List Filing) (i : ℕ) (f : Filing) → i < length h → f ≡ get_or h i f → return_rows (reverse (take (i + 1) h)) year ≡ return_rows (reverse (take i h)) year ++ returns_in (reverse (take i h)) year f f.what
returns-more year h i f lt at = ap (λ (past : List Filing). return_rows past year) (one_more h i f lt at)

-- with what the filing at an index was admitted
pub outcome-there : (h : List Filing) (i : ℕ) (f : Filing) → i < length h → f ≡ get_or h i f → outcome_at (reverse h) (i + 1) ≡ outcome_of (reverse (take i h)) f
outcome-there h i f lt at =
    let newer = reverse (drop (suc i) h) in
    let past = reverse (take i h) in
    let split : reverse h ≡ newer ++ f ∷ past = reverse-at h i f lt ∙ ap (λ (g : Filing). newer ++ g ∷ past) (sym at) in
    let size : length past + 1 ≡ i + 1 = omega (arith, length-reverse (take i h), length-take-le i h (omega arith)) in
    ap (λ (past : List Filing). outcome_at past (i + 1)) split
    ∙ subst (λ (n : ℕ). outcome_at (newer ++ f ∷ past) n ≡ outcome_of past f) size (outcome_at-stays newer past f)
