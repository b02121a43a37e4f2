use Rattle.std.proofs.Common.{◌∷◌, Global, Some, ap, codes, decimal, map, string_bytes, subst}
use Rattle.run_sheets.specs.Words.{ReadsRequest}
use Rattle.run_sheets.proofs.RowLemmas.{no_request, reads_row}
use Rattle.run_sheets.proofs.words.row_upto.Goals as goal

pub returns-in-Some : goal.returns-in-Some
returns-in-Some c =
    let position = c.args.position in
    reads_row (codes "upto" ∷ decimal position.number ∷ map (string_bytes {Z = Global}) c.args.words.now) (record { upto = Some position; request = c.in-Some.request })
    (ap (λ ws. codes "upto" ∷ decimal position.number ∷ ws) ((c.request_of.ensures c.in-Some.request).0 c.in-Some.is))

pub returns-in-None : goal.returns-in-None
returns-in-None c =
    let words = map (string_bytes {Z = Global}) c.args.words.now in
    no_request (decimal c.args.position.number) words (subst (ReadsRequest words) c.in-None.is c.request_of.ensures)
