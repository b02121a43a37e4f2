use Rattle.std.proofs.Common.{sym, subst, List}
use Rattle.aid_filings.specs.declared.filing.Filing.{Filing}
use Rattle.office_history.specs.Answer.{IsLegal}
use Rattle.sheet_review.proofs.on_file.book.Goals as goal

pub new-plain-requires : goal.new-plain-requires
new-plain-requires c = subst (λ (past : List Filing). IsLegal past) (sym c.filings-filings.ensures) c.front-front.ensures.legal
