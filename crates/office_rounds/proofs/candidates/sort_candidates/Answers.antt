use Rattle.std.proofs.Common.{rules, ◌≡◌, true, sym, subst}
use Rattle.std.specs.List.{Any, Contains, dedup}
use Rattle.std.proofs.lemmas.Fn.{dedup_same}
use Rattle.std.proofs.lemmas.List.Kept.{Any-dedup, Contains-from_dedup, IsStrictlySortedBy-dedup}
use Rattle.std.proofs.lemmas.List.Sorted.{Contains-permutation, IsPermutation-sym, answers_always}
use Rattle.law_funds.specs.Order.{IsInOrder}
use Rattle.office_rounds.specs.Candidates.{is_alike}
use Rattle.office_rounds.proofs.InLine.{alike_equiv, alike_ties, award_order_total, in_order}
use Rattle.office_rounds.proofs.candidates.sort_candidates.Goals as goal

pub returns-clause-order : goal.returns-clause-order
returns-clause-order c =
    let sorted = c.sort_unstable_by_key.new.self.items in
    let up = c.sort_unstable_by_key.ensures.sorted (λ d. (d.sai, d.student)) (answers_always _ _ _ (λ f a r g h. search rules)) in
    let kept = dedup_same _ is_alike _ (λ x y b f' x' y' k. search rules) _ _ c.dedup_by_key.ensures.filtered in
    subst IsInOrder (sym kept) (in_order (dedup is_alike sorted) (IsStrictlySortedBy-dedup award_order_total alike_ties sorted up))

pub returns-clause-only : goal.returns-clause-only
returns-clause-only c = λ d there.
    let old = c.args.candidates.now.items in
    let sorted = c.sort_unstable_by_key.new.self.items in
    let kept = dedup_same _ is_alike _ (λ x y b f' x' y' k. search rules) _ _ c.dedup_by_key.ensures.filtered in
    Contains-permutation sorted old d (IsPermutation-sym old sorted c.sort_unstable_by_key.ensures.permutation)
    (Contains-from_dedup is_alike sorted d (subst (λ ds. Contains ds d) kept there))

pub returns-clause-kept : goal.returns-clause-kept
returns-clause-kept c = λ d there.
    let old = c.args.candidates.now.items in
    let sorted = c.sort_unstable_by_key.new.self.items in
    let kept = dedup_same _ is_alike _ (λ x y b f' x' y' k. search rules) _ _ c.dedup_by_key.ensures.filtered in
    subst (λ ds. Any (λ e. is_alike d e ≡ true) ds) (sym kept)
    (Any-dedup alike_equiv sorted d (Contains-permutation old sorted d c.sort_unstable_by_key.ensures.permutation there))
