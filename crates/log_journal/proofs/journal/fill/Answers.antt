use Rattle.std.proofs.Common.{◌∷◌, [], ◌++◌, List, ℕ, length, ◌∙◌, ap}
use Rattle.std.specs.Int.{to_le_bytes, w32}
use Rattle.log_journal.proofs.Fills.{filled}
use Rattle.log_journal.proofs.journal.fill.Goals as goal

pub returns : goal.returns
returns c =
    let x = c.copy_from_slice.new.self in
    let y = c.copy_from_slice-2.new.self in
    let n = length c.args.payload.now in
    let x_is = c.copy_from_slice.ensures.after ∙ c.to_le_bytes.ensures in
    filled c.args.block.now x y n c.requires.size (ap length x_is) (ap length c.copy_from_slice-2.ensures.after)
    ∙ ap (λ (l : List ℕ). l ++ (y ++ 0 ∷ [])) x_is
    ∙ ap (λ (l : List ℕ). to_le_bytes w32 n ++ (l ++ 0 ∷ [])) c.copy_from_slice-2.ensures.after
