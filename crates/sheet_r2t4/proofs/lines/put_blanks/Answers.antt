use Rattle.std.proofs.Common.{◌≡◌, ℕ, replicate, take}
use Rattle.std.proofs.lemmas.List.{take-replicate}
use Rattle.office_reports.proofs.Pieces.{appended}
use Rattle.sheet_r2t4.proofs.lines.put_blanks.Goals as goal

pub returns : goal.returns
returns c =
    let blanks : take {A = ℕ} c.args.count (replicate {A = ℕ} 77 32) ≡ replicate {A = ℕ} c.args.count 32 = take-replicate c.args.count 77 32 c.requires in
    appended c.extend_from_slice.result _ _ _ (rw blanks at c.extend_from_slice.ensures.items)
