use Rattle.std.proofs.Common.{◌≡◌, ℕ, replicate, take}
use Rattle.std.proofs.lemmas.List.{take-replicate}
use Rattle.sheet_need.proofs.NeedPieces.{appended}
use Rattle.sheet_need.proofs.lines.put_blanks.Goals as goal

pub returns : goal.returns
returns c =
    let blanks : take {A = ℕ} c.args.count (replicate {A = ℕ} 44 32) ≡ replicate {A = ℕ} c.args.count 32 = take-replicate c.args.count 44 32 c.requires in
    appended c.extend_from_slice.result _ _ _ (rw blanks at c.extend_from_slice.ensures.items)
