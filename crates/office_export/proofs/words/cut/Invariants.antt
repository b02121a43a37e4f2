use Rattle.std.proofs.Common.{◌≡◌, false, take, All}
use Rattle.std.specs.Prelude.{◌==◌}
use Rattle.office_export.proofs.words.cut.Given as goal

abbrev pub invariant-loop-at : goal.invariant-loop-at
invariant-loop-at l = All (λ b. (b == 32) ≡ false) (take l.at l.text)
