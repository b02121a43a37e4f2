use Rattle.std.proofs.Common.{rules, reverse}
use Rattle.std.proofs.lemmas.List.Filters.{dedup_is}
use Rattle.std.proofs.lemmas.List.Sorted.{IsPermutation-reverse, IsPermutation-sym, IsPermutation-trans, answers_always}
use Rattle.office_export.proofs.InOrder.{sorted}
use Rattle.sheet_returns.proofs.DueOrder.{due_exact, due_order_total, due_ties}
use Rattle.sheet_returns.proofs.withdrawals.sort_by_due.Goals as goal

pub returns : goal.returns
returns c =
    let old = c.args.list.now.items in
    let moved = IsPermutation-trans (reverse old) old _ (IsPermutation-sym old (reverse old) (IsPermutation-reverse old)) c.sort_unstable_by_key.ensures.permutation in
    let up = c.sort_unstable_by_key.ensures.sorted (λ at. (at.determined, at.position)) (answers_always _ _ _ (λ f a r g h. search rules)) in
    sorted due_order_total _ due_ties due_exact (reverse old) c.sort_unstable_by_key.new.self.items _ moved up (dedup_is _ _ _ c.dedup.ensures.filtered)
