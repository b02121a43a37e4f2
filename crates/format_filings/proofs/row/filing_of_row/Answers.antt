use Rattle.std.proofs.Common.{◌≡◌, true, sym, ap, ◌∙◌}
use Rattle.csv.specs.Records.{fields_of as texts_of}
use Rattle.format_filings.specs.Rows.{has_rows, row_of}
use Rattle.format_filings.proofs.RowsLemmas.{named_text, of_kind}
use Rattle.format_filings.proofs.row.filing_of_row.Goals as goal

pub returns-in-Some : goal.returns-in-Some
returns-in-Some c =
    let texts = texts_of c.args.texts.now in
    let rows : has_rows c.in-Some.kind ≡ true = sym c.is_row_kind.ensures ∙ c.if-is_row_kind.true in
    c.filing_of_kind.ensures ∙ sym (ap (row_of c.args.row texts) (sym c.kind_at_start.ensures ∙ c.in-Some.is) ∙ of_kind c.args.row texts c.in-Some.kind rows)

pub filing_of_kind-requires-clause-named : goal.filing_of_kind-requires-clause-named
filing_of_kind-requires-clause-named c = named_text (texts_of c.args.texts.now) c.in-Some.kind (sym c.kind_at_start.ensures ∙ c.in-Some.is)
