use Rattle.std.proofs.Common.{arith}
use Rattle.law_rules.proofs.LimitLaws.{enrolled_most, withdrawn_most}
use Rattle.law_rules.proofs.quote_limits.most_dollars.Goals as goal

pub returns-then-f-eq0 : goal.returns-then-f-eq0
returns-then-f-eq0 c = enrolled_most c.args.f.now c.limit_dollars-dollars.result (omega arith) c.limit_dollars-dollars.ensures

pub returns-else-f-eq0 : goal.returns-else-f-eq0
returns-else-f-eq0 c =
    rw c.min.ensures (withdrawn_most c.args.f.now c.limit_dollars-dollars.result c.post_dollars.result (omega arith) c.limit_dollars-dollars.ensures c.post_dollars.ensures)
