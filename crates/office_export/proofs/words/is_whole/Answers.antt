use Rattle.std.proofs.Common.{◌∙◌, pos}
use Rattle.aid_types.specs.Whole.{whole_of}
use Rattle.office_export.proofs.Readings.{whole_well}
use Rattle.office_export.proofs.words.is_whole.Goals as goal

pub returns : goal.returns
returns c = c.is_spelled.ensures ∙ whole_well (pos 0) (pos 0) (whole_of c.args.text.now) c.read_whole.result c.read_whole.ensures.value
