use Rattle.std.proofs.Common.{Global, map, string_bytes, subst}
use Rattle.run_sheets.specs.Words.{ReadsTerm}
use Rattle.run_sheets.proofs.RowLemmas.{reads_no_payments, reads_payments}
use Rattle.run_sheets.proofs.words.read_payments.Goals as goal

pub returns-in-Some : goal.returns-in-Some
returns-in-Some c =
    let words = map (string_bytes {Z = Global}) c.args.behind.now in
    reads_payments words c.in-Some.term (subst (ReadsTerm words) c.in-Some.is c.term_of.ensures)

pub returns-in-None : goal.returns-in-None
returns-in-None c =
    let words = map (string_bytes {Z = Global}) c.args.behind.now in
    reads_no_payments words (subst (ReadsTerm words) c.in-None.is c.term_of.ensures)
