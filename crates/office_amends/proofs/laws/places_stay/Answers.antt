use Rattle.std.proofs.Common.{reverse}
use Rattle.office_amends.proofs.Whole.{in_places}
use Rattle.office_amends.proofs.laws.places_stay.Goals as goal

pub returns : goal.returns
returns c stamp = in_places stamp c.args.corrections.now (reverse c.args.list.now)
