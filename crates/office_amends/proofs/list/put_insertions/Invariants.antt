use Rattle.std.proofs.Common.{ℕ, ◌≤◌, ◌+◌, List, ◌++◌, take}
use Rattle.aid_filings.specs.declared.filing.Filing.{Filing}
use Rattle.log_stamps.specs.declared.entry.StampedEntry.{StampedEntry}
use Rattle.office_amends.specs.Amended.{before}
use Rattle.office_amends.specs.Lines.{inserted_line}
use Rattle.office_amends.specs.Stood.{Makes}
use Rattle.office_amends.specs.Texts.{told_put}
use Rattle.office_amends.proofs.list.put_insertions.Given as goal

abbrev pub invariant-loop-correction : goal.invariant-loop-correction
invariant-loop-correction l =
    (l.made.position ≤ l.fn.made.position + l.correction-index)
    × ((list : List (StampedEntry Filing)) (text : List ℕ) → Makes list text l.fn.made
    → Makes (before l.run (take l.correction-index l.corrections) l.key ++ list) (text ++ told_put inserted_line list (before l.run (take l.correction-index l.corrections) l.key)) l.made)
