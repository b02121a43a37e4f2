use Rattle.office_amends.proofs.Keys.{key_stays}
use Rattle.office_amends.proofs.laws.keys_stay.Goals as goal

pub returns : goal.returns
returns c past number rows lines stamp gathers = key_stays past number rows c.args.corrections.now lines stamp c.args.entry.now gathers
