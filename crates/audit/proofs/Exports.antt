-- The export of a legal history is found to be one.
use Rattle.std.proofs.Common.{◌≡◌, ℕ, zero, suc, ◌^◌, ◌<◌, ◌≤◌, refl, sym, ap, subst, arith, true, List, [], ◌∷◌, ◌++◌, length, get_or}
use Rattle.std.specs.Prelude.{map}
use Rattle.std.specs.List.{AllByRecursion, AllPairs}
use Rattle.std.proofs.lemmas.List.{get_or_default}
use Rattle.std.proofs.lemmas.List.Elements.{recursion_from_All}
use Rattle.aid_filings.specs.declared.filing.Filing.{Filing}
use Rattle.aid_stamps.specs.Stamps.{IsStamp}
use Rattle.aid_stamps.specs.declared.stamp.Stamp.{Stamp}
use Rattle.format_bytes.specs.Numbers.{IsFiling}
use Rattle.office_history.specs.Answer.{IsLegal, standing_of}
use Rattle.office_history.proofs.Legal.{legal_is_short}
use Rattle.office_export.specs.Applicants.{applicants}
use Rattle.office_export.specs.Exports.{export_lines, export_text, lines_of}
use Rattle.office_export.specs.Lines.{end_line, filing_line, standing_line}
use Rattle.office_export.specs.Seals.{office_seal}
use Rattle.office_export.proofs.Exactly.{applicants_rise}
use Rattle.office_export.proofs.InRange.{applicants_between}
use Rattle.office_export.proofs.Laws.{is_line-end_line, is_line-filing_line, is_line-standing_line}
use Rattle.office_export.proofs.Lines.{IsLine, lines_of-concat}
use Rattle.aid_seals.specs.declared.seal.Seal.{Seal}
use Rattle.audit.specs.Laws.{AreOnFile}
use Rattle.audit.specs.Findings.{AreGood, Asked, Finds, IsAsked, right_line, yes}
use Rattle.audit.specs.declared.finding.Finding.TheVariants.{Yes}
use Rattle.audit.proofs.Ranges.{standing_writable}
use Rattle.audit.proofs.Runs.{asked_few, bytes-office_seal, filed_lines, last_filed}

-- the applicants of a year, each with it
abbrev asked_of : ℕ → List ℕ → List Asked
asked_of year [] = []
asked_of year (student ∷ students) = (student, year) ∷ asked_of year students

length-asked_of : (year : ℕ) (students : List ℕ) → length (asked_of year students) ≡ length students
length-asked_of year [] = refl
length-asked_of year (student ∷ students) = omega (arith, length-asked_of year students)

-- ---- each is in range
pub applicants_ask : (past : List Filing) (year : ℕ) → AllByRecursion IsFiling past → 2000 ≤ year → year ≤ 2099 → AllByRecursion (λ student. IsAsked (student, year)) (applicants past year)
applicants_ask past year are low high = recursion_from_All (λ (student : ℕ). IsAsked (student, year)) (applicants past year) (λ k d lt.
    let student = get_or (applicants past year) k d in
    let between = applicants_between past year student are (k, lt, get_or_default (applicants past year) k student d lt) in
    record { student = between.0; most_student = between.1; year = low; most_year = high })

all_asked : (year : ℕ) (students : List ℕ) → AllByRecursion (λ student. IsAsked (student, year)) students → AllByRecursion IsAsked (asked_of year students)
all_asked year [] all = tt
all_asked year (student ∷ students) all = (all.0, all_asked year students all.1)

-- ---- and they rise
at_asked : (year : ℕ) (students : List ℕ) (k : ℕ) (d : Asked) → (get_or (asked_of year students) k d).0 ≡ get_or students k d.0
at_asked year [] k d = refl
at_asked year (student ∷ students) zero d = refl
at_asked year (student ∷ students) (suc k) d = at_asked year students k d

asked_rise : (year : ℕ) (students : List ℕ) → AllPairs (λ s t. s < t) students → AllPairs (λ (s t : Asked). s.0 < t.0) (asked_of year students)
asked_rise year students rise = λ i j d lt in'.
    let here = rise i j d.0 lt (omega (arith, length-asked_of year students)) in
    omega (arith, here, at_asked year students i d, at_asked year students j d)

-- ---- the lines of an export are good
right_lines : (past : List Filing) (year : ℕ) (students : List ℕ) → map (λ student. standing_line student year (standing_of past student year)) students ≡ map (right_line past) (asked_of year students)
right_lines past year [] = refl
right_lines past year (student ∷ students) = ap (λ (ls : List (List ℕ)). right_line past (student, year) ∷ ls) (right_lines past year students)

export_good : (most : ℕ) (past : List Filing) (stamps : List Stamp) (year : ℕ) → IsLegal past → AreOnFile past stamps → length past ≤ most → 2000 ≤ year → year ≤ 2099
    → AreGood most (export_lines past stamps year) past stamps (asked_of year (applicants past year)) true
export_good most past stamps year legal are few low high = record {
  whole = λ i. filed_lines past stamps ++ right_lines past year (applicants past year) i ++ end_line (length past) (sym (length-asked_of year (applicants past year)) i) (office_seal past stamps) ∷ [];
  filings = are.filings;
  stamped = are.stamped;
  legal = legal;
  few = few;
  standings = all_asked year (applicants past year) (applicants_ask past year are.filings low high);
  rise = asked_rise year (applicants past year) (applicants_rise past year);
}

-- ---- and are lines
lines_joined : (xs ys : List (List ℕ)) → AllByRecursion IsLine xs → AllByRecursion IsLine ys → AllByRecursion IsLine (xs ++ ys)
lines_joined [] ys all more = more
lines_joined (x ∷ xs) ys all more = (all.0, lines_joined xs ys all.1 more)

filing_lines : (past : List Filing) (stamps : List Stamp) → AllByRecursion IsStamp stamps → AllByRecursion IsLine (filed_lines past stamps)
filing_lines [] stamps are = tt
filing_lines (f ∷ past) [] are = tt
filing_lines (f ∷ past) (z ∷ stamps) are =
    subst (AllByRecursion IsLine) (sym (last_filed past stamps z f))
    (lines_joined (filed_lines past stamps) (filing_line z f ∷ []) (filing_lines past stamps are.1) (is_line-filing_line z f are.0, tt))

standing_lines : (past : List Filing) (asked : List Asked) → IsLegal past → AllByRecursion IsAsked asked → AllByRecursion IsLine (map (right_line past) asked)
standing_lines past [] legal all = tt
standing_lines past (s ∷ asked) legal all =
    let few_s : s.0 < 10 ^ 64 = omega (arith, all.0.most_student) in
    let few_y : s.1 < 10 ^ 64 = omega (arith, all.0.most_year) in
    (is_line-standing_line s.0 s.1 (standing_of past s.0 s.1) few_s few_y (standing_writable past s.0 s.1 legal), standing_lines past asked legal all.1)

good_lines : (most : ℕ) (lines : List (List ℕ)) (past : List Filing) (stamps : List Stamp) (asked : List Asked) → AreGood most lines past stamps asked true → AllByRecursion IsLine lines
good_lines most lines past stamps asked good =
    let some = asked_few asked good.standings good.rise in
    let short = legal_is_short past good.legal in
    let filings : length past < 10 ^ 64 = omega (arith, short) in
    let standings : length asked < 10 ^ 64 = omega (arith, some) in
    let seal = office_seal past stamps in
    subst (AllByRecursion IsLine) (sym good.whole)
    (lines_joined (filed_lines past stamps ++ map (right_line past) asked) (end_line (length past) (length asked) seal ∷ [])
    (lines_joined (filed_lines past stamps) (map (right_line past) asked) (filing_lines past stamps good.stamped.are_stamps) (standing_lines past asked good.legal good.standings))
    (is_line-end_line (length past) (length asked) seal filings standings (bytes-office_seal past stamps), tt))

pub export_is_found : (most : ℕ) (past : List Filing) (stamps : List Stamp) (year : ℕ) → IsLegal past → AreOnFile past stamps → length past ≤ most → 2000 ≤ year → year ≤ 2099
    → Finds most (lines_of (export_text past stamps year)) (Yes (length past) (length (applicants past year)) (record { bytes = office_seal past stamps }))
export_is_found most past stamps year legal are few from to =
    let asked = asked_of year (applicants past year) in
    let good = export_good most past stamps year legal are few from to in
    let lines : export_lines past stamps year ≡ lines_of (export_text past stamps year) = sym (lines_of-concat (export_lines past stamps year) (good_lines most (export_lines past stamps year) past stamps asked good)) in
    let seal : Seal = record { bytes = office_seal past stamps } in
    subst (λ (ls : List (List ℕ)). Finds most ls (Yes (length past) (length (applicants past year)) seal)) lines
    (subst (λ (n : ℕ). Finds most (export_lines past stamps year) (Yes (length past) n seal)) (length-asked_of year (applicants past year)) (yes past stamps asked good))
