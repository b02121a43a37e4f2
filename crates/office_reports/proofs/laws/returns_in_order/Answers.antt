use Rattle.std.proofs.Common.{List, reverse, ap, ◌∙◌}
use Rattle.aid_filings.specs.declared.filing.Filing.{Filing}
use Rattle.office_history.proofs.Oldest.{reverse-middle}
use Rattle.office_reports.specs.Rows.{return_rows}
use Rattle.office_reports.proofs.Exactly.{returns_come}
use Rattle.office_reports.proofs.laws.returns_in_order.Goals as goal

pub returns : goal.returns
returns c year =
    let before = c.args.before.now in
    let f = c.args.filing.now in
    let after = c.args.after.now in
    let come = returns_come year (reverse after) (reverse before) f in
    (come.0, ap (λ (past : List Filing). return_rows past year) (reverse-middle before after f) ∙ come.1)
