use Rattle.std.proofs.Common.{arith, ap, length, drop}
use Rattle.std.proofs.lemmas.List.Sums.{count_by-le-length}
use Rattle.std.proofs.lemmas.Slice.Zip.{length-zip}
use Rattle.std.proofs.Math.Nat.{min-le_left}
use Rattle.std.specs.List.{zip}
use Rattle.csv.specs.Reading.{default_config, records, strip_bom}
use Rattle.format_rows.proofs.ReadingLemmas.{meanings_from-length, rows_few}
use Rattle.format_rows.specs.Left.{ends_a_line}
use Rattle.format_rows.specs.TableRowFormat.{row_meaning}
use Rattle.log_rules.proofs.forms.TableRowFormatRowFormatRuleMachine.read.Goals as goal

pub returns-clause-few : goal.returns-clause-few
returns-clause-few g c =
    let text = c.args.text.items in
    omega (
      arith,
      c.requires.short,
      ap length c.new.ensures,
      meanings_from-length (row_meaning g.R.KindTable.words g.R.KindTable.key g.R.KindTable.kinds) 1 (records default_config (strip_bom text)),
      rows_few text,
      count_by-le-length ends_a_line (zip text (drop 1 text)),
      length-zip text (drop 1 text),
      min-le_left (length text) (length (drop 1 text)),
    )
