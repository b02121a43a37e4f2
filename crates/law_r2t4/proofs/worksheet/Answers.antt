use Rattle.std.proofs.Common.{◌≡◌, ℕ, ◌+◌, ◌≤◌, sym, subst}
use Rattle.std.specs.Prelude.{sum, slice_index}
use Rattle.law_r2t4.specs.declared.Lines.{Lines}
use Rattle.law_r2t4.proofs.Programs.{sum-returned, sum-laid, within-net}
use Rattle.law_r2t4.proofs.worksheet.Goals as goal

pub returns-clause-returned : goal.returns-clause-returned
returns-clause-returned c =
    let i = c.args.i.now in
    subst (λ (l : Lines). sum l.returned ≡ l.school) (sym c.worked_out.ensures) (sum-returned i.completed i.total i.charges i.net i.could)

pub returns-clause-laid : goal.returns-clause-laid
returns-clause-laid c =
    let i = c.args.i.now in
    subst (λ (l : Lines). sum l.laid ≡ l.student) (sym c.worked_out.ensures) (sum-laid i.completed i.total i.charges i.net i.could)

pub returns-clause-within : goal.returns-clause-within
returns-clause-within c =
    let i = c.args.i.now in
    subst (λ (l : Lines). (p : ℕ) → slice_index l.returned p + slice_index l.laid p ≤ slice_index i.net p) (sym c.worked_out.ensures) (within-net i.completed i.total i.charges i.net i.could)
