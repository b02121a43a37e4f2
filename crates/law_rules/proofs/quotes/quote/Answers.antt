use Rattle.std.proofs.Common.{refl, sym}
use Rattle.law_rules.proofs.Payable.{greatest_within, greatest_none}
use Rattle.law_rules.proofs.quotes.quote.Goals as goal

pub returns-then-may_be_paid-clause-value : goal.returns-then-may_be_paid-clause-value
returns-then-may_be_paid-clause-value c =
    rw c.min.ensures (sym (greatest_within c.args.f.now c.args.school c.args.student c.args.year c.args.term c.most_dollars.result (c.if-may_be_paid.ensures.0 refl) c.most_dollars.ensures))

pub returns-else-may_be_paid-clause-value : goal.returns-else-may_be_paid-clause-value
returns-else-may_be_paid-clause-value c =
    sym (greatest_none c.args.f.now c.args.school c.args.student c.args.year c.args.term (λ may. let e = c.if-may_be_paid.ensures.1 may in cc))
