use Rattle.std.proofs.Common.{List, reverse, ap, ◌∙◌, arith}
use Rattle.std.proofs.lemmas.List.{reverse-append, length-reverse}
use Rattle.aid_filings.specs.declared.filing.Filing.{Filing}
use Rattle.office_history.specs.Answer.{outcome_at}
use Rattle.office_history.proofs.Recorded.{outcome_at-older}
use Rattle.office_history.proofs.laws.older_outcome.Goals as goal

pub returns : goal.returns
returns c position below =
    ap (λ (past : List Filing). outcome_at past position) (reverse-append c.args.history.now c.args.later.now)
    ∙ outcome_at-older (reverse c.args.later.now) (reverse c.args.history.now) position (omega (arith, length-reverse c.args.history.now))
