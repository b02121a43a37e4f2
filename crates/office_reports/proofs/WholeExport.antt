-- The export of a history, written line by line.
use Rattle.std.proofs.Common.{◌≡◌, ℕ, ◌+◌, ◌<◌, List, [], ◌∷◌, ◌++◌, length, map, reverse, take, get_or, sym, ap, ◌∙◌, append-nil, append_assoc}
use Rattle.std.specs.List.{concat}
use Rattle.std.proofs.lemmas.List.{map_more}
use Rattle.std.proofs.lemmas.List.Folds.{concat-append}
use Rattle.aid_filings.specs.declared.filing.Filing.{Filing}
use Rattle.office_history.specs.Answer.{standing_of}
use Rattle.office_export.specs.Applicants.{applicants}
use Rattle.office_export.specs.Exports.{export_text}
use Rattle.office_export.specs.Lines.{end_line, payload_line, standing_line}
use Rattle.office_export.specs.Seals.{office_seal, payloads}
use Rattle.aid_stamps.specs.declared.stamp.Stamp.{Stamp}

-- where a student stands on a history
abbrev pub line_on : List Filing → ℕ → ℕ → List ℕ
line_on past year student = standing_line student year (standing_of past student year)

-- the line of an item more, behind other text
pub lines-behind : {X : Type 0} (line : X → List ℕ) (h : List X) (i : ℕ) (x : X) → i < length h → x ≡ get_or h i x → (front out more : List ℕ)
    → out ≡ front ++ concat (map line (take i h)) → more ≡ out ++ line x → more ≡ front ++ concat (map line (take (i + 1) h))
lines-behind line h i x lt at front out more is e =
    let before = concat (map line (take i h)) in
    e ∙ ap (λ text. text ++ line x) is ∙ append_assoc front before (line x)
    ∙ ap (λ last. front ++ (before ++ last)) (ap line at ∙ sym (append-nil (line (get_or h i x))))
    ∙ ap (λ text. front ++ text) (sym (ap concat (map_more line h i x lt) ∙ concat-append (map line (take i h)) (line (get_or h i x) ∷ [])))

-- all lines are the export
pub exported : (past filings : List Filing) (stamps : List Stamp) (year : ℕ) (students : List ℕ) (front count : ℕ) (seal first second text : List ℕ) → reverse filings ≡ past → students ≡ applicants (reverse filings) year
    → front ≡ length past → count ≡ length students → seal ≡ office_seal (reverse filings) (reverse stamps)
    → first ≡ concat (map payload_line (reverse (payloads (reverse filings) (reverse stamps)))) → second ≡ first ++ concat (map (line_on past year) students)
    → text ≡ second ++ end_line front count seal → text ≡ export_text past (reverse stamps) year
exported past filings stamps year students front count seal first second text of_past who number few sealed lines standings whole =
    let all : students ≡ applicants past year = who ∙ ap (λ (p : List Filing). applicants p year) of_past in
    let its_seal : seal ≡ office_seal past (reverse stamps) = sealed ∙ ap (λ (p : List Filing). office_seal p (reverse stamps)) of_past in
    let its_lines : first ≡ concat (map payload_line (reverse (payloads past (reverse stamps)))) = lines ∙ ap (λ (p : List Filing). concat (map payload_line (reverse (payloads p (reverse stamps))))) of_past in
    let front_lines = map payload_line (reverse (payloads past (reverse stamps))) in
    let standing_lines = map (line_on past year) (applicants past year) in
    let last = end_line (length past) (length (applicants past year)) (office_seal past (reverse stamps)) in
    let counted : count ≡ length (applicants past year) = few ∙ ap (λ (ss : List ℕ). length ss) all in
    let ended : end_line front count seal ≡ last = λ i. end_line (number i) (counted i) (its_seal i) in
    let told : second ≡ concat front_lines ++ concat standing_lines = standings ∙ (λ i. its_lines i ++ concat (map (line_on past year) (all i))) in
    whole ∙ (λ i. told i ++ ended i)
    ∙ ap (λ (s : List ℕ). s ++ last) (sym (concat-append front_lines standing_lines))
    ∙ ap (λ (s : List ℕ). concat (front_lines ++ standing_lines) ++ s) (sym (append-nil last))
    ∙ sym (concat-append (front_lines ++ standing_lines) (last ∷ []))
