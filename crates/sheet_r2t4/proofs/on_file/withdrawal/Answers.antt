use Rattle.std.proofs.Common.{ℕ, List, ◌++◌, ap, ◌∙◌}
use Rattle.std.specs.Prelude.{Option}
use Rattle.std.specs.Option.{option_copied}
use Rattle.aid_filings.specs.declared.filing.Filing.{Filing}
use Rattle.office_history.specs.Rows.{filing_in}
use Rattle.office_history.specs.declared.rows.PlaceRow.{PlaceRow}
use Rattle.sheet_r2t4.specs.ReturnSheet.{return_sheet, sheet_at}
use Rattle.sheet_r2t4.proofs.on_file.withdrawal.Goals as goal

pub returns : goal.returns
unfolding return_sheet
returns c =
    let now = c.args.office.now.history in
    let position = c.place-position.result.withdrawn_at in
    c.in_ok-put_found.ensures
    ∙ ap (λ (old : List ℕ). old ++ sheet_at now position (option_copied c.filing.result)) c.new-out.ensures.items
    ∙ ap (λ (f : Option Filing). sheet_at now position f) c.filing.ensures.value
    ∙ ap (λ (n : ℕ). sheet_at now n (filing_in now n)) (ap (λ (r : PlaceRow). r.withdrawn_at) c.place-position.ensures)
