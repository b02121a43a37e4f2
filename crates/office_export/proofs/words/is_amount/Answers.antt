use Rattle.std.proofs.Common.{◌∙◌}
use Rattle.aid_types.specs.Cents.{cents_of}
use Rattle.office_export.proofs.Readings.{cents_well}
use Rattle.office_export.proofs.words.is_amount.Goals as goal

pub returns : goal.returns
returns c = c.is_spelled.ensures ∙ cents_well 99999999 (cents_of c.args.text.now) c.read_cents.result c.read_cents.ensures.value
