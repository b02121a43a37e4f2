use Rattle.std.proofs.Common.{ap}
use Rattle.office_index.proofs.RowsFound.{own_account, own_before}
use Rattle.office_history.specs.declared.rows.PlaceRow.{PlaceRow}
use Rattle.office_index.proofs.own_entry.own_entry.Goals as goal

pub entry_of-requires-clause-withdrawn : goal.entry_of-requires-clause-withdrawn
entry_of-requires-clause-withdrawn g c = λ p is.
    ap (λ (row : PlaceRow). row.withdrawn_at) (own_before (g.P.HistoryView.history c.args.past.now) c.args.filing.now c.args.row.now c.requires.row p is)

pub entry_of-requires-clause-account : goal.entry_of-requires-clause-account
entry_of-requires-clause-account g c = own_account (g.P.HistoryView.history c.args.past.now) c.args.filing.now c.args.row.now c.requires.row
