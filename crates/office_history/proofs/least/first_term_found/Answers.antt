use Rattle.std.proofs.Common.{List, reverse, subst, All}
use Rattle.std.proofs.lemmas.List.{reverse-reverse}
use Rattle.aid_filings.specs.declared.filing.Filing.{Filing}
use Rattle.office_history.specs.Least.{IsFiledTerm}
use Rattle.office_history.specs.Past.{terms_on_file}
use Rattle.office_history.specs.Positions.{first_term_at}
use Rattle.office_history.proofs.LeastNumbers.{position_tells, told_least, told_none}
use Rattle.office_history.proofs.TermsOnFile.{positions_fall, terms_filed}
use Rattle.office_history.proofs.least.first_term_found.Goals as goal

pub returns-clause-filed : goal.returns-clause-filed
returns-clause-filed c =
    let h = c.args.history.now in
    subst (λ (l : List Filing). All (IsFiledTerm l) (terms_on_file (reverse h))) (reverse-reverse h) (terms_filed (reverse h))

pub returns-clause-none : goal.returns-clause-none
returns-clause-none c passes =
    let past = reverse c.args.history.now in
    told_none (λ t. t.position) passes (terms_on_file past) (first_term_at passes (terms_on_file past)) (position_tells passes (terms_on_file past) (positions_fall past))

pub returns-clause-first : goal.returns-clause-first
returns-clause-first c passes position =
    let past = reverse c.args.history.now in
    told_least (λ t. t.position) passes (terms_on_file past) (first_term_at passes (terms_on_file past)) position (position_tells passes (terms_on_file past) (positions_fall past))
