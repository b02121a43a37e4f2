use Rattle.format_table.proofs.EntryLaws.{is_alone}
use Rattle.format_table.proofs.RowLaws.{length-row_bytes}
use Rattle.format_table.proofs.writing.put.Goals as goal

pub returns-clause-fits : goal.returns-clause-fits
returns-clause-fits g c = length-row_bytes _ _ _ _ g.met.T.KindTable.sound c.put_row.ensures.is_entry

pub returns-clause-alone : goal.returns-clause-alone
returns-clause-alone g c = λ other rest within e. is_alone _ _ g.T.EntryCodec.code_of g.T.EntryCodec.numbers_of g.met.T.KindTable.sound g.met.T.EntryCodec.one c.args.entry.now other rest c.put_row.ensures.is_entry within e
