use Rattle.law_rules.proofs.LimitLaws.{post_most}
use Rattle.law_rules.proofs.quote_limits.post_dollars.Goals as goal

pub returns : goal.returns
returns c =
    rw c.min.ensures (post_most c.args.f.now c.dollars_between-of_pell.result c.dollars_between.result
    (rw c.at.ensures at c.dollars_between-of_pell.ensures) c.dollars_between.ensures)
