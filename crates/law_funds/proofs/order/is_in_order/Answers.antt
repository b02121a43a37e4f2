use Rattle.std.proofs.Common.{rules, of_calls}
use Rattle.std.proofs.lemmas.List.Sorted.{answers_always}
use Rattle.law_funds.specs.Order.{comes_before}
use Rattle.law_funds.proofs.Ordered.{told_in_order}
use Rattle.law_funds.proofs.order.is_in_order.Goals as goal

pub returns : goal.returns
returns c =
    told_in_order c.args.list.now c.is_sorted_by.result (c.is_sorted_by.ensures.cases comes_before (answers_always _ _ _ (λ f a r after called. search (of_calls, rules))))
