use Rattle.std.proofs.Common.{arith, reverse, sym, subst}
use Rattle.format_table.specs.Tables.{IsRow}
use Rattle.format_table.proofs.RowLaws.{takes}
use Rattle.format_table.proofs.reading.entry_in.Goals as goal

pub entry-requires : goal.entry-requires
entry-requires g c =
    let all = takes g.T.KindTable.key g.T.KindTable.kinds c.in-Ok.code (reverse c.in-Ok.draft.earlier) c.args.bytes.now (λ i. omega (arith, c.type_inv.bytes i)) c.in-Ok.ensures in
    subst (IsRow g.T.KindTable.key g.T.KindTable.kinds c.in-Ok.code) (sym c.numbers.ensures.numbers) all.0
