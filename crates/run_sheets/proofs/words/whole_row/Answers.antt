use Rattle.std.proofs.Common.{◌∷◌, Global, None, map, string_bytes, subst}
use Rattle.run_sheets.specs.Words.{ReadsRequest}
use Rattle.run_sheets.proofs.RowLemmas.{no_whole_row, reads_row}
use Rattle.run_sheets.proofs.words.whole_row.Goals as goal

pub returns-in-Some : goal.returns-in-Some
returns-in-Some c =
    reads_row (c.args.first.now ∷ map (string_bytes {Z = Global}) c.args.behind.now) (record { upto = None; request = c.in-Some.request })
    ((c.request_named.ensures c.in-Some.request).0 c.in-Some.is)

pub returns-in-None : goal.returns-in-None
returns-in-None c =
    let words = c.args.first.now ∷ map (string_bytes {Z = Global}) c.args.behind.now in
    no_whole_row c.args.first.now (map (string_bytes {Z = Global}) c.args.behind.now) c.requires (subst (ReadsRequest words) c.in-None.is c.request_named.ensures)
