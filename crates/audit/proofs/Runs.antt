-- Lines are good where each goes on from those before it: so a text has one finding.
use Rattle.std.proofs.Common.{◌≡◌, ℕ, zero, suc, ◌+◌, ◌<◌, ◌≤◌, refl, sym, ap, subst, ◌∙◌, arith, append_assoc, Bool, true, false, List, [], ◌∷◌, ◌++◌, length, get_or}
use Rattle.std.specs.Prelude.{map, reverse}
use Rattle.std.specs.List.{AllByRecursion, AllPairs}
use Rattle.std.proofs.lemmas.List.{append-nil, map-append, reverse-append, length-append, get_or_append_left, get_or_at}
use Rattle.std.proofs.lemmas.List.Elements.{All-from_recursion, recursion_from_All}
use Rattle.std.proofs.lemmas.List.Quantifiers.{all_pairs_push}
use Rattle.aid_filings.specs.declared.filing.Filing.{Filing}
use Rattle.aid_seals.proofs.Clashes.{length-seal, seal-message}
use Rattle.aid_seals.proofs.Lines.{bytes-sha256}
use Rattle.aid_seals.specs.Seals.{message}
use Rattle.aid_stamps.specs.Stamps.{IsStamp, stamp_bytes}
use Rattle.aid_stamps.specs.declared.stamp.Stamp.{Stamp}
use Rattle.format_bytes.specs.Numbers.{IsFiling}
use Rattle.format_bytes.specs.Spelling.{spelling}
use Rattle.hex.specs.Hex.{IsBytes}
use Rattle.office_history.specs.Answer.{IsLegal}
use Rattle.office_history.proofs.Legal.{legal_is_short}
use Rattle.office_export.specs.Lines.{end_line, filing_line, payload_line}
use Rattle.office_export.specs.Seals.{office_name, office_seal, payloads}
use Rattle.office_export.proofs.Laws.{form_of-end_line}
use Rattle.audit.specs.Findings.{AreGood, AreStamped, Asked, Finds, IsAsked, IsBad, Rises, end_lines, right_line, yes_of, missing, no, yes}
use Rattle.audit.specs.Steps.{Goes, Told, closed, filed, nothing, stood}
use Rattle.audit.specs.declared.finding.Finding.{Finding}
use Rattle.audit.specs.declared.finding.Finding.TheVariants.{No}
use Rattle.audit.proofs.Causes.{good_or_bad, one_cause, one_way}
use Rattle.audit.proofs.Ranges.{form_of-right}

-- from what was told the lines lead, one by one, to what they tell
abbrev pub Runs : ℕ → Told → List (List ℕ) → Told → Type 0
Runs most s [] t = s ≡ t
Runs most s (line ∷ lines) t = (mid : Told) × Goes most s line mid × Runs most mid lines t

runs_on : (most : ℕ) (s : Told) (front : List (List ℕ)) (mid : Told) (rest : List (List ℕ)) (t : Told) → Runs most s front mid → Runs most mid rest t → Runs most s (front ++ rest) t
runs_on most s [] mid rest t e more = subst (λ (u : Told). Runs most u rest t) (sym e) more
runs_on most s (line ∷ front) mid rest t run more = (run.0, run.1, runs_on most run.0 front mid rest t run.2 more)

-- ---- good lines and one more
put_last : {A : Type 0} (xs ys zs : List A) (z : A) → (xs ++ ys ++ []) ++ z ∷ [] ≡ xs ++ (ys ++ z ∷ []) ++ []
put_last xs ys zs z = rw (append-nil (xs ++ ys), append-nil (xs ++ (ys ++ z ∷ [])), append_assoc xs ys (z ∷ [])) refl

-- the lines of filings
abbrev pub filed_lines : List Filing → List Stamp → List (List ℕ)
filed_lines past stamps = map payload_line (reverse (payloads past stamps))

-- the newest filing's line is the last
pub last_filed : (past : List Filing) (stamps : List Stamp) (z : Stamp) (f : Filing) → filed_lines (f ∷ past) (z ∷ stamps) ≡ filed_lines past stamps ++ filing_line z f ∷ []
last_filed past stamps z f =
    let payload : List ℕ = stamp_bytes z ++ spelling f in
    ap (λ (ps : List (List ℕ)). map payload_line ps) (reverse-append (payload ∷ []) (payloads past stamps)) ∙ map-append payload_line (reverse (payloads past stamps)) (payload ∷ [])

filed_last : (front : List (List ℕ)) (past : List Filing) (stamps : List Stamp) (asked : List Asked) (ended : Bool) (z : Stamp) (f : Filing) → asked ≡ [] → ended ≡ false
    → front ≡ filed_lines past stamps ++ map (right_line past) asked ++ end_lines past stamps asked ended
    → front ++ filing_line z f ∷ [] ≡ filed_lines (f ∷ past) (z ∷ stamps) ++ [] ++ []
filed_last front past stamps asked ended z f none early e =
    let all = filed_lines past stamps in
    let more = filed_lines (f ∷ past) (z ∷ stamps) in
    let whole : front ≡ all =
    e ∙ (λ i. all ++ map (right_line past) (none i) ++ end_lines past stamps (none i) (early i))
    ∙ append-nil (all ++ []) ∙ append-nil all in
    ap (λ (ls : List (List ℕ)). ls ++ filing_line z f ∷ []) whole
    ∙ sym (last_filed past stamps z f)
    ∙ sym (append-nil (more ++ []) ∙ append-nil more)

stood_last : (front : List (List ℕ)) (past : List Filing) (stamps : List Stamp) (asked : List Asked) (ended : Bool) (s : Asked) → ended ≡ false
    → front ≡ filed_lines past stamps ++ map (right_line past) asked ++ end_lines past stamps asked ended
    → front ++ right_line past s ∷ [] ≡ filed_lines past stamps ++ map (right_line past) (asked ++ s ∷ []) ++ []
stood_last front past stamps asked ended s early e =
    ap (λ (ls : List (List ℕ)). ls ++ right_line past s ∷ []) (e ∙ (λ i. filed_lines past stamps ++ map (right_line past) asked ++ end_lines past stamps asked (early i)))
    ∙ put_last (filed_lines past stamps) (map (right_line past) asked) [] (right_line past s)
    ∙ ap (λ (ls : List (List ℕ)). filed_lines past stamps ++ ls ++ []) (sym (map-append (right_line past) asked (s ∷ [])))

closed_last : (front : List (List ℕ)) (past : List Filing) (stamps : List Stamp) (asked : List Asked) (ended : Bool) → ended ≡ false
    → front ≡ filed_lines past stamps ++ map (right_line past) asked ++ end_lines past stamps asked ended
    → front ++ end_line (length past) (length asked) (office_seal past stamps) ∷ []
    ≡ filed_lines past stamps ++ map (right_line past) asked ++ end_line (length past) (length asked) (office_seal past stamps) ∷ []
closed_last front past stamps asked ended early e =
    ap (λ (ls : List (List ℕ)). ls ++ end_line (length past) (length asked) (office_seal past stamps) ∷ [])
    (e ∙ (λ i. filed_lines past stamps ++ map (right_line past) asked ++ end_lines past stamps asked (early i)) ∙ append-nil (filed_lines past stamps ++ map (right_line past) asked))

-- one filing more, under its stamp
stamped_more : (past : List Filing) (stamps : List Stamp) (z : Stamp) (f : Filing) → AreStamped past stamps → IsStamp z → AreStamped (f ∷ past) (z ∷ stamps)
stamped_more past stamps z f are is = record { paired = omega (arith, are.paired); are_stamps = (is, are.are_stamps) }

-- good lines with one that goes on from them are good
pub good_more : (most : ℕ) (front : List (List ℕ)) (told : Told) (line : List ℕ) (after : Told) → AreGood most front told.past told.stamps told.asked told.ended → Goes most told line after
    → AreGood most (front ++ line ∷ []) after.past after.stamps after.asked after.ended
good_more most front told line after good (filed z f early none few is_z are key sound e) = record {
  whole = ap (λ (l : List ℕ). front ++ l ∷ []) e ∙ filed_last front told.past told.stamps told.asked told.ended z f none early good.whole;
  filings = (are, good.filings);
  stamped = stamped_more told.past told.stamps z f good.stamped is_z;
  legal = (good.legal, key, sound);
  few = omega arith;
  standings = tt;
  rise = λ i j d lt in'. absurd (omega arith);
}
good_more most front told line after good (stood s early form operations rises e) = record {
  whole = ap (λ (l : List ℕ). front ++ l ∷ []) e ∙ stood_last front told.past told.stamps told.asked told.ended s early good.whole;
  filings = good.filings;
  stamped = good.stamped;
  legal = good.legal;
  few = good.few;
  standings = asks_more told.asked s good.standings operations;
  rise = all_pairs_push (λ (s t : Asked). s.0 < t.0) told.asked s good.rise (λ k d lt. All-from_recursion (λ (before : Asked). before.0 < s.0) told.asked rises k d lt);
}
  where
    asks_more : (asked : List Asked) (s : Asked) → AllByRecursion IsAsked asked → IsAsked s → AllByRecursion IsAsked (asked ++ s ∷ [])
    asks_more [] s all is = (is, tt)
    asks_more (t ∷ asked) s all is = (all.0, asks_more asked s all.1 is)
good_more most front told line after good (closed early form e) = record {
  whole = ap (λ (l : List ℕ). front ++ l ∷ []) e ∙ closed_last front told.past told.stamps told.asked told.ended early good.whole;
  filings = good.filings;
  stamped = good.stamped;
  legal = good.legal;
  few = good.few;
  standings = good.standings;
  rise = good.rise;
}

-- no line is good
pub good_first : (most : ℕ) → AreGood most [] [] [] [] false
good_first most = record {
  whole = refl;
  filings = tt;
  stamped = record { paired = refl; are_stamps = tt };
  legal = tt;
  few = omega arith;
  standings = tt;
  rise = λ i j d lt in'. absurd (omega arith);
}

-- ---- good lines go on one by one
abbrev pub filed_all : List Filing → List Stamp → Told
filed_all past stamps = record { past = past; stamps = stamps; asked = []; ended = false }

runs_filings : (most : ℕ) (past : List Filing) (stamps : List Stamp) → AllByRecursion IsFiling past → AllByRecursion IsStamp stamps → length stamps ≡ length past → IsLegal past → length past ≤ most
    → Runs most nothing (filed_lines past stamps) (filed_all past stamps)
runs_filings most [] [] are also paired legal few = refl
runs_filings most [] (z ∷ stamps) are also paired legal few = absurd (omega (arith, paired))
runs_filings most (f ∷ past) [] are also paired legal few = absurd (omega (arith, paired))
runs_filings most (f ∷ past) (z ∷ stamps) are also paired legal few =
    let before : Runs most nothing (filed_lines past stamps) (filed_all past stamps) = runs_filings most past stamps are.1 also.1 (omega (arith, paired)) legal.0 (omega arith) in
    let one : Goes most (filed_all past stamps) (filing_line z f) (filed_all (f ∷ past) (z ∷ stamps)) = filed z f refl refl (omega arith) also.0 are.0 legal.1 legal.2 refl in
    subst (λ (ls : List (List ℕ)). Runs most nothing ls (filed_all (f ∷ past) (z ∷ stamps))) (sym (last_filed past stamps z f))
    (runs_on most nothing (filed_lines past stamps) (filed_all past stamps) (filing_line z f ∷ []) (filed_all (f ∷ past) (z ∷ stamps)) before (filed_all (f ∷ past) (z ∷ stamps), one, refl))

abbrev pub stood_all : List Filing → List Stamp → List Asked → Told
stood_all past stamps asked = record { past = past; stamps = stamps; asked = asked; ended = false }

-- the students of each behind those before it
rises_here : (done : List Asked) (s : Asked) (rest : List Asked) → AllPairs (λ (s t : Asked). s.0 < t.0) (done ++ s ∷ rest) → Rises done s.0
rises_here done s rest rise =
    recursion_from_All (λ (before : Asked). before.0 < s.0) done (λ k d lt.
    let here = rise k (length done) d lt (omega (arith, length-append done (s ∷ rest))) in
    let first = get_or_append_left done (s ∷ rest) d k lt in
    let last = get_or_at done s rest d (length done) refl in
    omega (arith, here, ap (λ (a : Asked). a.0) first, ap (λ (a : Asked). a.0) last))

runs_standings : (most : ℕ) (past : List Filing) (stamps : List Stamp) (done rest : List Asked) → IsLegal past → AllByRecursion IsAsked rest
    → AllPairs (λ (s t : Asked). s.0 < t.0) (done ++ rest) → Runs most (stood_all past stamps done) (map (right_line past) rest) (stood_all past stamps (done ++ rest))
runs_standings most past stamps done [] legal operations rise = ap (stood_all past stamps) (sym (append-nil done))
runs_standings most past stamps done (s ∷ rest) legal operations rise =
    let one = stood s refl (form_of-right past s legal operations.0) operations.0 (rises_here done s rest rise) refl in
    let joined : (done ++ s ∷ []) ++ rest ≡ done ++ s ∷ rest = append_assoc done (s ∷ []) rest in
    let more = runs_standings most past stamps (done ++ s ∷ []) rest legal operations.1 (subst (AllPairs (λ (s t : Asked). s.0 < t.0)) (sym joined) rise) in (
      stood_all past stamps (done ++ s ∷ []),
      one,
      subst (λ (all : List Asked). Runs most (stood_all past stamps (done ++ s ∷ [])) (map (right_line past) rest) (stood_all past stamps all)) joined more,
    )

-- rising students are no more than there are numbers
reaches : (asked : List Asked) → AllPairs (λ (s t : Asked). s.0 < t.0) asked → (n : ℕ) (d : Asked) → n < length asked → n ≤ (get_or asked n d).0
reaches asked rise zero d lt = omega arith
reaches asked rise (suc n) d lt =
    let before = reaches asked rise n d (omega arith) in
    let step = rise n (suc n) d (omega arith) lt in
    omega arith

pub asked_few : (asked : List Asked) → AllByRecursion IsAsked asked → AllPairs (λ (s t : Asked). s.0 < t.0) asked → length asked ≤ 1000000000000
asked_few [] operations rise = omega arith
asked_few (s ∷ asked) operations rise =
    let last = length asked in
    let here : last ≤ (get_or (s ∷ asked) last s).0 = reaches (s ∷ asked) rise last s (omega arith) in
    let most = (All-from_recursion IsAsked (s ∷ asked) operations last s (omega arith)).most_student in
    omega arith

-- the end line has its form, and its seal is bytes
pub bytes-office_seal : (past : List Filing) (stamps : List Stamp) → IsBytes (office_seal past stamps)
bytes-office_seal past stamps = subst IsBytes (sym (seal-message office_name (payloads past stamps))) (bytes-sha256 (message office_name (payloads past stamps)))

runs_end : (most : ℕ) (past : List Filing) (stamps : List Stamp) (asked : List Asked) (ended : Bool) → length past ≤ 1000000 → length asked ≤ 1000000000000
    → Runs most (stood_all past stamps asked) (end_lines past stamps asked ended) (record { past = past; stamps = stamps; asked = asked; ended = ended })
runs_end most past stamps asked false few some = refl
runs_end most past stamps asked true few some =
    let form = form_of-end_line (length past) (length asked) (office_seal past stamps) (omega (arith, few)) (omega (arith, some)) (length-seal office_name (payloads past stamps)) (bytes-office_seal past stamps) in
    (record { past = past; stamps = stamps; asked = asked; ended = true }, closed refl form refl, refl)

pub good_runs : (most : ℕ) (lines : List (List ℕ)) (past : List Filing) (stamps : List Stamp) (asked : List Asked) (ended : Bool) → AreGood most lines past stamps asked ended
    → Runs most nothing lines (record { past = past; stamps = stamps; asked = asked; ended = ended })
good_runs most lines past stamps asked ended good =
    let all : Told = record { past = past; stamps = stamps; asked = asked; ended = ended } in
    let first = runs_filings most past stamps good.filings good.stamped.are_stamps good.stamped.paired good.legal good.few in
    let second = runs_standings most past stamps [] asked good.legal good.standings good.rise in
    let third = runs_end most past stamps asked ended (legal_is_short past good.legal) (asked_few asked good.standings good.rise) in
    subst (λ (ls : List (List ℕ)). Runs most nothing ls all) (sym good.whole)
    (runs_on most nothing (filed_lines past stamps ++ map (right_line past) asked) (stood_all past stamps asked) (end_lines past stamps asked ended) all
    (runs_on most nothing (filed_lines past stamps) (filed_all past stamps) (map (right_line past) asked) (stood_all past stamps asked) first second) third)

-- ---- one finding
pub one_end : (most : ℕ) (s : Told) (lines : List (List ℕ)) (a b : Told) → Runs most s lines a → Runs most s lines b → a ≡ b
one_end most s [] a b e e' = sym e ∙ e'
one_end most s (line ∷ lines) a b run run' =
    one_end most run.0 lines a b run.2 (subst (λ (mid : Told). Runs most mid lines b) (one_way most s line run'.0 run.0 run'.1 run.1) run'.2)

-- lines that are good to the end with an end line have no bad one
no_bad : (most : ℕ) (s : Told) (front rest : List (List ℕ)) (a b : Told) (c : ℕ) → Runs most s (front ++ rest) a → a.ended ≡ true → Runs most s front b → IsBad most b.past b.stamps b.asked b.ended rest c → ⊥
no_bad most s [] [] a b c e over e' bad = unended b c bad (ap (λ (t : Told). t.ended) (sym e' ∙ e) ∙ over)
  where
    unended : (b : Told) (c : ℕ) → IsBad most b.past b.stamps b.asked b.ended [] c → b.ended ≡ true → ⊥
    unended b c (missing early) over = cc
no_bad most s [] (line ∷ rest) a b c run over e' bad =
    good_or_bad most s line run.0 rest c run.1 (subst (λ (t : Told). IsBad most t.past t.stamps t.asked t.ended (line ∷ rest) c) (sym e') bad)
no_bad most s (line ∷ front) rest a b c run over run' bad =
    no_bad most run.0 front rest a b c run.2 over (subst (λ (mid : Told). Runs most mid front b) (one_way most s line run'.0 run.0 run'.1 run.1) run'.2) bad

-- where two fronts are good and the line behind each is bad, they are one
one_bad : (most : ℕ) (s : Told) (front rest front' rest' : List (List ℕ)) (a b : Told) (c d : ℕ) → front ++ rest ≡ front' ++ rest' → Runs most s front a → Runs most s front' b
    → IsBad most a.past a.stamps a.asked a.ended rest c → IsBad most b.past b.stamps b.asked b.ended rest' d → (length front ≡ length front') × (c ≡ d)
one_bad most s [] rest [] rest' a b c d e run run' bad bad' =
    let bad_a = subst (λ (t : Told). IsBad most t.past t.stamps t.asked t.ended rest c) (sym run) bad in
    let bad_b = subst (λ (t : Told). IsBad most t.past t.stamps t.asked t.ended rest' d) (sym run') bad' in
    (refl, one_cause most s.past s.stamps s.asked s.ended rest' d c bad_b (subst (λ (ls : List (List ℕ)). IsBad most s.past s.stamps s.asked s.ended ls c) e bad_a))
one_bad most s [] rest (line ∷ front') rest' a b c d e run run' bad bad' =
    absurd (good_or_bad most s line run'.0 (front' ++ rest') c run'.1
    (subst (λ (ls : List (List ℕ)). IsBad most s.past s.stamps s.asked s.ended ls c) e (subst (λ (t : Told). IsBad most t.past t.stamps t.asked t.ended rest c) (sym run) bad)))
one_bad most s (line ∷ front) rest [] rest' a b c d e run run' bad bad' =
    absurd (good_or_bad most s line run.0 (front ++ rest) d run.1
    (subst (λ (ls : List (List ℕ)). IsBad most s.past s.stamps s.asked s.ended ls d) (sym e) (subst (λ (t : Told). IsBad most t.past t.stamps t.asked t.ended rest' d) (sym run') bad')))
one_bad most s (line ∷ front) rest (line' ∷ front') rest' a b c d e run run' bad bad' =
    let lines : line' ≡ line = cc in
    let tails : front ++ rest ≡ front' ++ rest' = cc in
    let step : Goes most s line run'.0 = subst (λ (l : List ℕ). Goes most s l run'.0) lines run'.1 in
    let same = one_bad most run.0 front rest front' rest' a b c d tails run.2 (subst (λ (mid : Told). Runs most mid front' b) (one_way most s line run'.0 run.0 step run.1) run'.2) bad bad' in
    (ap (λ (n : ℕ). suc n) same.0, same.1)

pub one_finding : (most : ℕ) (lines : List (List ℕ)) (x y : Finding) → Finds most lines x → Finds most lines y → x ≡ y
one_finding most lines x y (yes past stamps asked good) (yes past' stamps' asked' good') =
    let same = one_end most nothing lines _ _ (good_runs most lines past stamps asked true good) (good_runs most lines past' stamps' asked' true good') in
    ap (λ (t : Told). yes_of t.past t.stamps t.asked) same
one_finding most lines x y (yes past stamps asked good) (no front rest past' stamps' asked' ended c e good' bad) =
    let run = good_runs most lines past stamps asked true good in
    absurd (no_bad most nothing front rest _ (record { past = past'; stamps = stamps'; asked = asked'; ended = ended }) c (subst (λ (ls : List (List ℕ)). Runs most nothing ls (record { past = past; stamps = stamps; asked = asked; ended = true })) e run) refl (good_runs most front past' stamps' asked' ended good') bad)
one_finding most lines x y (no front rest past' stamps' asked' ended c e good' bad) (yes past stamps asked good) =
    let run = good_runs most lines past stamps asked true good in
    absurd (no_bad most nothing front rest _ (record { past = past'; stamps = stamps'; asked = asked'; ended = ended }) c (subst (λ (ls : List (List ℕ)). Runs most nothing ls (record { past = past; stamps = stamps; asked = asked; ended = true })) e run) refl (good_runs most front past' stamps' asked' ended good') bad)
one_finding most lines x y (no front rest past stamps asked ended c e good bad) (no front' rest' past' stamps' asked' ended' c' e' good' bad') =
    let same = one_bad most nothing front rest front' rest' (record { past = past; stamps = stamps; asked = asked; ended = ended }) (record { past = past'; stamps = stamps'; asked = asked'; ended = ended' }) c c' (sym e ∙ e')
    (good_runs most front past stamps asked ended good) (good_runs most front' past' stamps' asked' ended' good') bad bad' in
    λ i. No (same.0 i + 1) (same.1 i)
