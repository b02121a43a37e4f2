use Rattle.std.proofs.Common.{rules, reverse}
use Rattle.std.specs.Cmp.{unsigned_ties}
use Rattle.std.proofs.lemmas.Cmp.{nat_cmp_total}
use Rattle.std.proofs.lemmas.List.Filters.{dedup_is}
use Rattle.std.proofs.lemmas.List.Sorted.{IsPermutation-reverse, IsPermutation-sym, IsPermutation-trans, answers_always}
use Rattle.std.proofs.lemmas.Map.Lookups.{exact_unsigned}
use Rattle.office_export.proofs.InOrder.{sorted}
use Rattle.office_reports.proofs.gathered.sort_students.Goals as goal

pub returns : goal.returns
returns c =
    let old = c.args.students.now.items in
    let moved = IsPermutation-trans (reverse old) old _ (IsPermutation-sym old (reverse old) (IsPermutation-reverse old)) c.sort_unstable_by_key.ensures.permutation in
    let up = c.sort_unstable_by_key.ensures.sorted (λ student. student) (answers_always _ _ _ (λ f a r g h. search rules)) in
    sorted nat_cmp_total _ unsigned_ties exact_unsigned (reverse old) c.sort_unstable_by_key.new.self.items _ moved up (dedup_is _ _ _ c.dedup.ensures.filtered)
