use Rattle.std.proofs.Common.{◌∷◌, ◌++◌, List, ℕ, length, ◌∙◌, ap, arith}
use Rattle.std.specs.Int.{to_le_bytes, w32}
use Rattle.log_builds.proofs.Blocks.{filled}
use Rattle.log_builds.proofs.records.fill.Goals as goal

pub returns : goal.returns
returns c =
    let x = c.copy_from_slice.new.self in
    let y = c.copy_from_slice-2.new.self in
    let x_is = c.copy_from_slice.ensures.after ∙ c.to_le_bytes.ensures in
    filled c.args.block.now x y (omega (arith, c.requires.size)) (ap length x_is)
    ∙ ap (λ (l : List ℕ). 1 ∷ (l ++ y)) x_is
    ∙ ap (λ (l : List ℕ). 1 ∷ (to_le_bytes w32 (length c.args.payload.now) ++ l)) c.copy_from_slice-2.ensures.after
