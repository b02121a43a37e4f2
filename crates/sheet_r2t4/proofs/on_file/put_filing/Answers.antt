use Rattle.std.proofs.Common.{◌-◌, List, ◌++◌, sym, ap, subst, ◌∙◌}
use Rattle.std.proofs.lemmas.Result.{on_ok_weaker}
use Rattle.aid_filings.specs.declared.filing.Filing.{Filing}
use Rattle.aid_filings.specs.declared.filing.What.{What}
use Rattle.office_history.specs.Sheets.{CanBeWorkedOut}
use Rattle.sheet_r2t4.specs.ReturnSheet.{return_text, sheet_of}
use Rattle.sheet_r2t4.proofs.ReturnPlaces.{are_before, inside, legal_before, stands_worked_out}
use Rattle.sheet_r2t4.proofs.on_file.put_filing.Goals as goal

pub new-before-requires : goal.new-before-requires
new-before-requires c =
    legal_before c.filings-filings.result.now c.args.office.now.history (c.args.position - 1) c.filings-filings.ensures c.front-front.ensures.legal

pub put_return-requires : goal.put_return-requires
put_return-requires c =
    subst (λ (past : List Filing). CanBeWorkedOut past c.args.filing.now.key c.in-Withdraw.withdrawal) (sym c.new-before.ensures)
    (stands_worked_out c.filings-filings.result.now c.args.office.now.history c.args.position c.args.filing.now c.in-Withdraw.withdrawal
    c.filings-filings.ensures c.front-front.ensures.legal c.requires c.in-Withdraw.is)

pub returns-in-Withdraw : goal.returns-in-Withdraw
returns-in-Withdraw c =
    let now = c.args.office.now.history in
    let position = c.args.position in
    let key = c.args.filing.now.key in
    let old = c.args.out.now.items in
    let index = inside c.filings-filings.result.now now position c.args.filing.now c.filings-filings.ensures c.requires in
    let past = c.new-before.ensures ∙ are_before c.filings-filings.result.now now position c.filings-filings.ensures index.1 in
    on_ok_weaker c.put_return.result
    (λ last. last ∙ ap (λ (past : List Filing). old ++ return_text past now position key c.in-Withdraw.withdrawal) past
    ∙ ap (λ (what : What). old ++ sheet_of now position key what) (sym c.in-Withdraw.is))
    c.put_return.ensures
