-- A text has one finding, held against a note or not.
use Rattle.std.proofs.Common.{◌≡◌, ℕ, refl, sym, ap, ◌∙◌, arith, true, List, length, Option}
use Rattle.aid_filings.specs.declared.filing.Filing.{Filing}
use Rattle.aid_stamps.specs.declared.stamp.Stamp.{Stamp}
use Rattle.audit.specs.Findings.{AreGood, Asked, Finds, FindsBy, front_seal, yes_of, bad, fewer, rewritten, stands, unnoted, yes}
use Rattle.audit.specs.Steps.{Told, nothing}
use Rattle.audit.specs.declared.finding.Finding.{Finding}
use Rattle.audit.specs.declared.finding.Finding.TheVariants.{No}
use Rattle.audit.specs.declared.note.Note.{Note}
use Rattle.audit.proofs.Runs.{good_runs, one_end, one_finding}

-- lines that are good to the end tell one thing
one_told : (most : ℕ) (lines : List (List ℕ)) (past : List Filing) (stamps : List Stamp) (asked : List Asked) (past' : List Filing) (stamps' : List Stamp) (asked' : List Asked)
    → AreGood most lines past stamps asked true → AreGood most lines past' stamps' asked' true
    → ◌≡◌ {A = Told} (record { past = past; stamps = stamps; asked = asked; ended = true }) (record { past = past'; stamps = stamps'; asked = asked'; ended = true })
one_told most lines past stamps asked past' stamps' asked' good good' = one_end most nothing lines _ _ (good_runs most lines past stamps asked true good) (good_runs most lines past' stamps' asked' true good')

not_bad : (most : ℕ) (lines : List (List ℕ)) (past : List Filing) (stamps : List Stamp) (asked : List Asked) (line cause : ℕ) → AreGood most lines past stamps asked true → Finds most lines (No line cause) → ⊥
not_bad most lines past stamps asked line cause good finds = let same = one_finding most lines _ _ (yes past stamps asked good) finds in let bad : ⊥ = cc in bad

module _ (most : ℕ) (lines : List (List ℕ)) (note : Note) (past : List Filing) (stamps : List Stamp) (asked : List Asked) (past' : List Filing) (stamps' : List Stamp) (asked' : List Asked) (good : AreGood most lines past stamps asked true) (good' : AreGood most lines past' stamps' asked' true) where
  same_length : length past ≡ length past'
  same_length = ap (λ (t : Told). length t.past) (one_told most lines past stamps asked past' stamps' asked' good good')

  same_front : front_seal note.count past stamps ≡ front_seal note.count past' stamps'
  same_front = ap (λ (t : Told). front_seal note.count t.past t.stamps) (one_told most lines past stamps asked past' stamps' asked' good good')

  same_yes : yes_of past stamps asked ≡ yes_of past' stamps' asked'
  same_yes = ap (λ (t : Told). yes_of t.past t.stamps t.asked) (one_told most lines past stamps asked past' stamps' asked' good good')

pub one_held : (most : ℕ) (lines : List (List ℕ)) (by : Option Note) (x y : Finding) → FindsBy most lines by x → FindsBy most lines by y → x ≡ y
one_held most lines by x y (unnoted _ one) (unnoted _ other) = one_finding most lines x y one other
one_held most lines by x y (bad n l c one) (bad m k d other) = one_finding most lines x y one other
one_held most lines by x y (bad n l c one) (stands m p s a good few same) = absurd (not_bad most lines p s a l c good one)
one_held most lines by x y (bad n l c one) (rewritten m p s a good few not) = absurd (not_bad most lines p s a l c good one)
one_held most lines by x y (bad n l c one) (fewer m p s a good few) = absurd (not_bad most lines p s a l c good one)
one_held most lines by x y (stands n p s a good few same) (bad m l c one) = absurd (not_bad most lines p s a l c good one)
one_held most lines by x y (stands n p s a good few same) (stands m p' s' a' good' few' same') = same_yes most lines n p s a p' s' a' good good'
one_held most lines by x y (stands n p s a good few same) (rewritten m p' s' a' good' few' not) = absurd (not (sym (same_front most lines n p s a p' s' a' good good') ∙ same))
one_held most lines by x y (stands n p s a good few same) (fewer m p' s' a' good' few') = absurd (omega (arith, few, few', same_length most lines n p s a p' s' a' good good'))
one_held most lines by x y (rewritten n p s a good few not) (bad m l c one) = absurd (not_bad most lines p s a l c good one)
one_held most lines by x y (rewritten n p s a good few not) (stands m p' s' a' good' few' same) = absurd (not (same_front most lines n p s a p' s' a' good good' ∙ same))
one_held most lines by x y (rewritten n p s a good few not) (rewritten m p' s' a' good' few' not') = refl
one_held most lines by x y (rewritten n p s a good few not) (fewer m p' s' a' good' few') = absurd (omega (arith, few, few', same_length most lines n p s a p' s' a' good good'))
one_held most lines by x y (fewer n p s a good few) (bad m l c one) = absurd (not_bad most lines p s a l c good one)
one_held most lines by x y (fewer n p s a good few) (stands m p' s' a' good' few' same) = absurd (omega (arith, few, few', same_length most lines n p s a p' s' a' good good'))
one_held most lines by x y (fewer n p s a good few) (rewritten m p' s' a' good' few' not) = absurd (omega (arith, few, few', same_length most lines n p s a p' s' a' good good'))
one_held most lines by x y (fewer n p s a good few) (fewer m p' s' a' good' few') = refl
