-- The audit so far: the lines before the rest of the text are good, and the code keeps what they told.
use Rattle.std.proofs.Common.{◌≡◌, ℕ, ◌+◌, ◌<◌, ◌≤◌, refl, sym, ap, subst, ◌∙◌, arith, append_assoc, Bool, true, false, List, [], ◌∷◌, ◌++◌, length, reverse, Some, None}
use Rattle.std.specs.Prelude.{◌-◌, map}
use Rattle.std.proofs.lemmas.List.{append-nil, length-append, length-map, length-reverse, length_push}
use Rattle.aid_filings.specs.declared.filing.Filing.{Filing}
use Rattle.aid_stamps.specs.declared.stamp.Stamp.{Stamp}
use Rattle.office_history.specs.Answer.{IsLegal}
use Rattle.office_export.specs.Exports.{lines_of}
use Rattle.office_export.specs.Lines.{payload_line}
use Rattle.office_export.specs.Seals.{payloads}
use Rattle.audit.specs.Findings.{AreGood, Asked, Finds, end_lines, missing, no, right_line}
use Rattle.audit.specs.Steps.{IsJudged, IsRead, Keeps, Told, nothing}
use Rattle.audit.specs.declared.good_lines.GoodLines.{GoodLines}
use Rattle.audit.specs.declared.finding.Finding.TheVariants.{No}
use Rattle.audit.proofs.Runs.{good_first, good_more}

-- good lines have at least as many lines as standings
asked_in : (most : ℕ) (front : List (List ℕ)) (past : List Filing) (stamps : List Stamp) (asked : List Asked) (ended : Bool) → AreGood most front past stamps asked ended → length asked ≤ length front
asked_in most front past stamps asked ended good =
    let all = ap (λ (ls : List (List ℕ)). length ls) good.whole in
    let filings = map payload_line (reverse (payloads past stamps)) in
    let standings = map (right_line past) asked in
    omega (arith, all, length-append (filings ++ standings) (end_lines past stamps asked ended), length-append filings standings, length-map asked (right_line past))

module _ {L : Type 0} (most : ℕ) (filings_of : L → List Filing) (text : List ℕ) where
  pub record IsSoFar (rest : List ℕ) (lines : GoodLines L) (number : ℕ) : Type 0 where
    pub front : List (List ℕ)
    pub told : Told
    pub split : lines_of text ≡ front ++ lines_of rest
    pub good : AreGood most front told.past told.stamps told.asked told.ended
    pub keeps : Keeps filings_of lines told
    pub counted : number ≡ length front + 1
    pub short : length front + length rest ≤ length text

  pub so_far_first : (lines : GoodLines L) → Keeps filings_of lines nothing → IsSoFar text lines 1
  so_far_first lines keeps = record {
    front = [];
    told = nothing;
    split = refl;
    good = good_first most;
    keeps = keeps;
    counted = refl;
    short = omega arith;
  }

  module _ (rest : List ℕ) (lines : GoodLines L) (number : ℕ) (so : IsSoFar rest lines number) where
    -- what the next judgment needs
    pub so_far_legal : IsLegal (filings_of lines.list)
    so_far_legal = subst IsLegal (sym so.keeps.past) so.good.legal

    pub so_far_few : length (filings_of lines.list) ≤ most
    so_far_few = omega (arith, so.good.few, ap (λ (l : List Filing). length l) so.keeps.past)

    pub so_far_paired : length lines.stamps.items ≡ length (filings_of lines.list)
    so_far_paired =
        omega (arith, so.good.stamped.paired, length-reverse lines.stamps.items, ap (λ (l : List Stamp). length l) so.keeps.stamps, ap (λ (l : List Filing). length l) so.keeps.past)

    pub so_far_room : lines.standings ≤ length text
    so_far_room = omega (arith, so.short, so.keeps.standings, asked_in most so.front so.told.past so.told.stamps so.told.asked so.told.ended so.good)

    pub so_far_number : number ≤ length text + 1
    so_far_number = omega (arith, so.short, so.counted)

    -- ---- one line more
    pub so_far_more : (line behind : List ℕ) (after : GoodLines L) → lines_of rest ≡ line ∷ lines_of behind → length behind < length rest → IsJudged most filings_of so.told line None after
        → IsSoFar behind after (number + 1)
    so_far_more line behind after first shorter judged = record {
      front = so.front ++ line ∷ [];
      told = judged.0;
      split = so.split ∙ ap (λ (ls : List (List ℕ)). so.front ++ ls) first ∙ sym (append_assoc so.front (line ∷ []) (lines_of behind));
      good = good_more most so.front so.told line judged.0 so.good judged.1;
      keeps = judged.2;
      counted = omega (arith, so.counted, length_push so.front line);
      short = omega (arith, so.short, shorter, length_push so.front line);
    }

    -- ---- a bad line
    pub so_far_no : (line behind : List ℕ) (after end : GoodLines L) (cause : ℕ) → lines_of rest ≡ line ∷ lines_of behind → IsJudged most filings_of so.told line (Some cause) after
        → IsRead most filings_of (lines_of text) end number (Some cause)
    so_far_no line behind after end cause first judged =
        subst (λ (n : ℕ). Finds most (lines_of text) (No n cause)) (sym so.counted)
        (no so.front (line ∷ lines_of behind) so.told.past so.told.stamps so.told.asked so.told.ended cause (so.split ∙ ap (λ (ls : List (List ℕ)). so.front ++ ls) first) so.good (judged (lines_of behind)))

    -- ---- the end of the text
    whole : rest ≡ [] → lines_of text ≡ so.front ++ []
    whole none = so.split ∙ ap (λ (r : List ℕ). so.front ++ lines_of r) none

    pub so_far_yes : rest ≡ [] → lines.ended ≡ true → IsRead most filings_of (lines_of text) lines (number - 1) None
    so_far_yes none over =
        let all : so.front ≡ lines_of text = sym (whole none ∙ append-nil so.front) in
        let ended : so.told.ended ≡ true = sym so.keeps.ended ∙ over in (
          so.told,
          subst (λ (ls : List (List ℕ)). AreGood most ls so.told.past so.told.stamps so.told.asked true) all
              (subst (λ (e : Bool). AreGood most so.front so.told.past so.told.stamps so.told.asked e) ended so.good),
          so.keeps,
          omega (arith, so.counted, ap (λ (ls : List (List ℕ)). length ls) all),
        )

    pub so_far_missing : rest ≡ [] → lines.ended ≡ false → IsRead most filings_of (lines_of text) lines number (Some 7)
    so_far_missing none early =
        subst (λ (n : ℕ). Finds most (lines_of text) (No n 7)) (sym so.counted)
        (no so.front [] so.told.past so.told.stamps so.told.asked so.told.ended 7 (whole none) so.good (missing (sym so.keeps.ended ∙ early)))
