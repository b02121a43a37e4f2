use Rattle.std.proofs.Common.{◌+◌, ◌++◌, List, arith, ap, sym, ◌∙◌}
use Rattle.std.proofs.lemmas.Result.{on_ok_weaker}
use Rattle.aid_filings.specs.declared.filing.Filing.{Filing}
use Rattle.aid_filings.specs.declared.reply.Outcome.{Outcome}
use Rattle.office_history.specs.Answer.{outcome_at}
use Rattle.office_reports.proofs.Passes.{outcome-there}
use Rattle.office_sheets.specs.Lists.{list_line}
use Rattle.office_sheets.proofs.ListLemmas.{list-more}
use Rattle.office_sheets.proofs.lists.put_line_at.Goals as goal

pub overflow_add-index : goal.overflow_add-index
overflow_add-index c = omega (arith, c.requires.inside, c.requires.few)

pub returns : goal.returns
returns c =
    let h = c.args.filings.now in
    let i = c.args.index in
    let f = c.index-filings-place.result in
    let s = c.index-stamps-place.result in
    let brought = c.in-Some.ensures.value ∙ ap (λ (past : List Filing). outcome_at past (i + 1)) (sym c.requires.all) ∙ outcome-there h i f c.requires.inside c.index-filings-place.is in
    on_ok_weaker c.put_list_line.result
    (λ e. list-more h c.args.stamps.now i f s c.requires.inside c.requires.stamped c.index-filings-place.is c.index-stamps-place.is _ _ c.requires.before
    (e ∙ ap (λ (o : Outcome). c.args.out.now.items ++ list_line (i + 1) s f o) brought))
    c.put_list_line.ensures
