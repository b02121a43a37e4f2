use Rattle.std.proofs.Common.{ap}
use Rattle.std.specs.Prelude.{Option}
use Rattle.office_amends.specs.Amended.{in_place}
use Rattle.office_amends.specs.declared.correction.Correction.{Correction}
use Rattle.office_amends.proofs.laws.others_stay.Goals as goal

pub returns : goal.returns
returns c stamp none = ap (λ (named : Option Correction). in_place stamp c.args.entry.now named) none
