use Rattle.std.proofs.Common.{List, reverse, ap, ◌∙◌}
use Rattle.aid_filings.specs.declared.filing.Filing.{Filing}
use Rattle.sheet_returns.specs.Sendings.{sendings}
use Rattle.sheet_returns.proofs.Passes.{few_sendings}
use Rattle.sheet_returns.proofs.years.return_rows.Goals as goal

pub put_return_at-requires : goal.put_return_at-requires
put_return_at-requires c =
    let school = c.args.school in
    let year = c.args.year in
    let sent = c.as_slice.ensures.value ∙ c.in_ok-sent.ensures ∙ ap (λ (now : List Filing). reverse (sendings school year now)) c.filings.ensures in
    few_sendings school year c.front-front.result c.args.office.now.history c.as_slice.result.now sent c.front-front.ensures.value c.front-front.ensures.few
