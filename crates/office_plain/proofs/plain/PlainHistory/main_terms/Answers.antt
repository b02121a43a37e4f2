use Rattle.std.proofs.Common.{rules, ◌≡◌, ◌∙◌, ap, List}
use borrow.Author.Tests.{tests}
use Rattle.std.specs.Prelude.{count_by}
use Rattle.aid_filings.specs.declared.filing.Filing.{Filing}
use Rattle.office_history.specs.FiledTerms.{is_main_term}
use Rattle.office_history.specs.Positions.{main_term_count}
use Rattle.office_history.proofs.FiledTerms.{main_count}
use Rattle.office_plain.proofs.plain.PlainHistory.main_terms.Goals as goal

pub returns : goal.returns
returns c =
    let h = c.self.inside.filings.now in
    let count : c.count.result ≡ count_by (λ f. is_main_term c.args.school c.args.year f.key.school f.what) h = search (rules, tests) in
    count ∙ main_count c.args.school c.args.year h ∙ ap (λ (l : List Filing). main_term_count l c.args.school c.args.year) c.self.view_is
