use Rattle.csv.specs.Records.{fields_of as texts_of}
use Rattle.format_table.specs.TableRows.{row_of as kind_row}
use Rattle.format_rows.proofs.TableFormLemmas.{named_kind}
use Rattle.format_rows.proofs.row.entry_of_row.Goals as goal

pub entry_of_kind-requires : goal.entry_of_kind-requires
entry_of_kind-requires g c =
    let both = named_kind g.T.KindTable.key g.T.KindTable.kinds (texts_of c.args.texts.now) (kind_row c.in-Some.kind) g.met.T.KindTable.sound c.in-Some.ensures in
    record { kind = both.0; named = both.1 }
