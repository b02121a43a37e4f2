use Rattle.std.proofs.Common.{◌++◌, [], ◌∷◌, List, ℕ, length, ◌∙◌, ap}
use Rattle.log_journal.proofs.Headers.{laid}
use Rattle.log_journal.proofs.header.Header.empty_file.Goals as goal

pub returns : goal.returns
returns c =
    let x = c.copy_from_slice.new.self in
    let y = c.copy_from_slice-2.new.self in
    let x_is = c.copy_from_slice.ensures.after in
    laid x y (ap length x_is ∙ c.args.self.name_size)
    ∙ ap (λ (l : List ℕ). 1 ∷ (l ++ y ++ 0 ∷ 0 ∷ 0 ∷ []) ++ 0 ∷ []) x_is
    ∙ ap (λ (l : List ℕ). 1 ∷ (c.args.self.name ++ l ++ 0 ∷ 0 ∷ 0 ∷ []) ++ 0 ∷ []) (c.copy_from_slice-2.ensures.after ∙ c.to_le_bytes.ensures)
