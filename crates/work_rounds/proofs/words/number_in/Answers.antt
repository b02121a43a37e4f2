use Rattle.std.proofs.Common.{ℤ, arith, refl, ap, w64, of_z, to_z, ◌∙◌}
use Rattle.std.proofs.lemmas.Int.{to_z_pos}
use Rattle.work_rounds.proofs.Reading.{natural_between}
use Rattle.work_rounds.proofs.words.number_in.Goals as goal

pub returns-in-Ok-clause-in_range : goal.returns-in-Ok-clause-in_range
returns-in-Ok-clause-in_range c =
    let read = (c.in-Ok.ensures.ok c.in-Ok.number).0 refl in
    natural_between c.args.low c.args.high _ _ c.in-Ok.number
    (ap (λ (z : ℤ). to_z w64 (of_z w64 z)) c.from.ensures ∙ to_z_pos w64 c.args.low (omega (arith, c.ranges.low.fits))) (to_z_pos w64 c.args.high c.requires) c.requires read.1 read.2
