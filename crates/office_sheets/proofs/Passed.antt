-- An office that takes the filings of another, one by one.
use Rattle.std.proofs.Common.{◌≡◌, ℕ, ◌-◌, ◌≤◌, ◌<◌, sym, ap, subst, ◌∙◌, arith, List, ◌∷◌, ◌++◌, length, reverse, take, drop, get_or, take-append-drop}
use Rattle.std.proofs.lemmas.List.{length-drop, length-reverse, reverse-append}
use Rattle.std.proofs.Math.Seq.{drop-append_seam}
use Rattle.aid_filings.specs.declared.filing.Filing.{Filing}
use Rattle.aid_filings.specs.declared.reply.Response.TheVariants.{Admit}
use Rattle.office_history.specs.Answer.{IsLegal, answer_of, judged, outcome_of}
use Rattle.office_history.proofs.Cases.{answer_of-new}
use Rattle.office_history.proofs.Legal.{filing_at-new}
use Rattle.office_history.proofs.Slices.{legal_at}

-- a filing that may follow is admitted, with its outcome
pub admitted : (past : List Filing) (f : Filing) → IsLegal (f ∷ past) → answer_of past f ≡ Admit (outcome_of past f)
admitted past f h = answer_of-new past f (filing_at-new past f h.1) h.1 ∙ ap (judged past f) h.2

-- the filing at an index may follow those before it
pub may_follow : (h past passed : List Filing) (i : ℕ) (f : Filing) → reverse h ≡ past → IsLegal past → i < length h → f ≡ get_or h i f
    → passed ≡ reverse (take i h) → IsLegal (f ∷ passed)
may_follow h past passed i f of_past legal lt at is =
    subst (λ (before : List Filing). IsLegal (f ∷ before)) (sym is) (legal_at h i f lt at (subst IsLegal (sym of_past) legal))

-- the first filings are the oldest of the history
pub first_are_oldest : (h past : List Filing) (n : ℕ) → reverse h ≡ past → n ≤ length past → reverse (take n h) ≡ drop (length past - n) past
first_are_oldest h past n of_past few =
    let newer = reverse (drop n h) in
    let older = reverse (take n h) in
    let split : newer ++ older ≡ past = sym (reverse-append (take n h) (drop n h)) ∙ ap (λ (l : List Filing). reverse l) (take-append-drop n h) ∙ of_past in
    let size : length newer ≡ length past - n = omega (arith, length-reverse (drop n h), length-drop n h, length-reverse h, ap length of_past) in
    sym (drop-append_seam newer older) ∙ ap (λ (k : ℕ). drop k (newer ++ older)) size ∙ ap (λ (l : List Filing). drop (length past - n) l) split

-- an index below the front is one of a filing
pub stands_inside : (h past : List Filing) (i front : ℕ) → reverse h ≡ past → i < front → front ≤ length past → i < length h
stands_inside h past i front of_past lt few = omega (arith, length-reverse h, ap length of_past)
