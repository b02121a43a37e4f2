use Rattle.std.proofs.Common.{◌++◌, [], ◌∷◌, List, ℕ, length, ◌∙◌, ap}
use Rattle.log_builds.proofs.Blocks.{named}
use Rattle.log_builds.proofs.records.behind_first.Goals as goal

pub returns : goal.returns
returns c =
    let x = c.copy_from_slice.new.self in
    let y = c.copy_from_slice-2.new.self in
    let x_is = c.copy_from_slice.ensures.after in
    named x y (ap length x_is ∙ c.args.header.name_size)
    ∙ ap (λ (l : List ℕ). (l ++ y) ++ 0 ∷ 0 ∷ 0 ∷ []) x_is
    ∙ ap (λ (l : List ℕ). (c.args.header.name ++ l) ++ 0 ∷ 0 ∷ 0 ∷ []) (c.copy_from_slice-2.ensures.after ∙ c.to_le_bytes.ensures)
