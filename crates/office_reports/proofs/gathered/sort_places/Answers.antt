use Rattle.std.proofs.Common.{rules, reverse}
use Rattle.std.proofs.lemmas.List.Filters.{dedup_is}
use Rattle.std.proofs.lemmas.List.Sorted.{IsPermutation-reverse, IsPermutation-sym, IsPermutation-trans, answers_always}
use Rattle.office_export.proofs.InOrder.{sorted}
use Rattle.office_reports.proofs.Orders.{place_exact, place_order_total, place_ties}
use Rattle.office_reports.proofs.gathered.sort_places.Goals as goal

pub returns : goal.returns
returns c =
    let old = c.args.places.now.items in
    let moved = IsPermutation-trans (reverse old) old _ (IsPermutation-sym old (reverse old) (IsPermutation-reverse old)) c.sort_unstable_by_key.ensures.permutation in
    let up = c.sort_unstable_by_key.ensures.sorted (λ p. (p.school, p.student, p.term)) (answers_always _ _ _ (λ f a r g h. search rules)) in
    sorted place_order_total _ place_ties place_exact (reverse old) c.sort_unstable_by_key.new.self.items _ moved up (dedup_is _ _ _ c.dedup.ensures.filtered)
