use Rattle.std.proofs.Common.{arith}
use Rattle.format_table.proofs.EntryLaws.{is_found, is_only}
use Rattle.format_table.proofs.reading.take.Goals as goal

pub returns-clause-found : goal.returns-clause-found
returns-clause-found g c = is_found _ _ g.T.EntryCodec.code_of g.T.EntryCodec.numbers_of c.args.bytes.now c.entry_in.result (λ i. omega (arith, c.type_inv.bytes i)) c.entry_in.ensures.exact

pub returns-clause-only : goal.returns-clause-only
returns-clause-only g c = is_only _ _ g.T.EntryCodec.code_of g.T.EntryCodec.numbers_of g.met.T.KindTable.sound g.met.T.EntryCodec.one c.args.bytes.now c.entry_in.result c.entry_in.ensures.exact
