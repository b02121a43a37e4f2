use Rattle.std.proofs.Common.{rules, sym, subst}
use Rattle.std.specs.Cmp.{unsigned_ties}
use Rattle.std.specs.List.{Contains}
use Rattle.std.specs.List.Sorted.{IsStrictlySortedBy}
use Rattle.std.specs.Ordering.{nat_cmp}
use Rattle.std.proofs.lemmas.Cmp.{nat_cmp_total}
use Rattle.std.proofs.lemmas.List.Filters.{dedup_is}
use Rattle.std.proofs.lemmas.List.Kept.{Contains-dedup_nat, IsStrictlySortedBy-dedup}
use Rattle.std.proofs.lemmas.List.Sorted.{Contains-permutation, answers_always}
use Rattle.office_rounds.proofs.fund.sort_students.Goals as goal

pub returns-clause-order : goal.returns-clause-order
returns-clause-order c =
    let sorted = c.sort_unstable_by_key.new.self.items in
    let up = c.sort_unstable_by_key.ensures.sorted (λ student. student) (answers_always _ _ _ (λ f a r g h. search rules)) in
    subst (IsStrictlySortedBy nat_cmp) (sym (dedup_is _ _ _ c.dedup.ensures.filtered)) (IsStrictlySortedBy-dedup nat_cmp_total unsigned_ties sorted up)

pub returns-clause-kept : goal.returns-clause-kept
returns-clause-kept c = λ student there.
    let old = c.args.students.now.items in
    let sorted = c.sort_unstable_by_key.new.self.items in
    subst (λ ss. Contains ss student) (sym (dedup_is _ _ _ c.dedup.ensures.filtered))
    (Contains-dedup_nat sorted student (Contains-permutation old sorted student c.sort_unstable_by_key.ensures.permutation there))
