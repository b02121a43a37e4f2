use Rattle.format_rows.proofs.TextLaws.{text_once}
use Rattle.format_rows.proofs.laws.one_text.Goals as goal

pub returns : goal.returns
returns c words form text other z one two = text_once words form text other z one two
