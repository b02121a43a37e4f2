use Rattle.std.proofs.Common.{◌+◌, ◌++◌, List, arith, reverse, take, ap, sym, ◌∙◌}
use Rattle.std.proofs.lemmas.Result.{on_ok_weaker}
use Rattle.aid_filings.specs.declared.filing.Filing.{Filing}
use Rattle.office_history.specs.Answer.{outcome_at}
use Rattle.office_reports.specs.Rows.{returns_in}
use Rattle.office_reports.proofs.Passes.{outcome-there, returns-more}
use Rattle.office_reports.proofs.listed.put_return_at.Goals as goal

pub overflow_add-index : goal.overflow_add-index
overflow_add-index c = omega (arith, c.requires.inside, c.requires.few)

pub returns : goal.returns
returns c =
    let h = c.args.filings.now in
    let i = c.args.index in
    let f = c.index-filings-index.result in
    let brought = c.in-Some.ensures.value ∙ ap (λ (past : List Filing). outcome_at past (i + 1)) (sym c.requires.all) ∙ outcome-there h i f c.requires.inside c.index-filings-index.is in
    on_ok_weaker c.put_return.result
    (λ e. e ∙ ap (λ rows. rows ++ returns_in (reverse (take i h)) c.args.year f f.what) c.requires.before ∙ sym (returns-more c.args.year h i f c.requires.inside c.index-filings-index.is))
    (c.put_return.ensures (reverse (take i h)) brought)
