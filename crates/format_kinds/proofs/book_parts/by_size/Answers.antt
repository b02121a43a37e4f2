use Rattle.std.proofs.Common.{◌+◌, ◌++◌, pos, refl, subst, rules, arith}
use Rattle.std.specs.Prelude.{slice_index_or}
use Rattle.aid_books.proofs.RangeLemmas.{EachIsAmount-at}
use Rattle.aid_types.specs.Ranges.{IsAmount}
use Rattle.format_kinds.specs.Sections.{AreAmounts}
use Rattle.format_kinds.proofs.Amounts.{amounts_behind, fewer_amounts, first_amounts, length-amounts}
use Rattle.format_kinds.proofs.book_parts.by_size.Goals as goal

pub take-sizes-requires : goal.take-sizes-requires
take-sizes-requires g c =
    (search rules, (let all = length-amounts (g.row.COUNT + 1) c.args.section.now c.requires in omega arith))

pub take-requires : goal.take-requires
take-requires g c =
    let step = c.take-sizes in
    (search rules, length-amounts 1 step.new.self (amounts_behind g.row.COUNT 1 (g.row.COUNT + 1) c.args.section.now step.result step.new.self step.ensures.numbers step.ensures.count refl c.requires))

pub invariant_of-result : goal.invariant_of-result
invariant_of-result g c =
    let n = g.row.COUNT in
    let step = c.take-sizes in
    let one = amounts_behind n 1 (n + 1) c.args.section.now step.result step.new.self step.ensures.numbers step.ensures.count refl c.requires in
    let each = first_amounts 1 c.take.result c.take.new.self c.take.ensures.count (subst (AreAmounts 1) c.take.ensures.numbers one) in
    let extra : IsAmount (slice_index_or c.take.result 0 (pos 0)) = EachIsAmount-at c.take.result 0 each in
    record {
      sizes_counted = step.ensures.count;
      sizes_in_range = first_amounts n step.result step.new.self step.ensures.count
          (fewer_amounts n (n + 1) (step.result ++ step.new.self) (omega arith) (subst (AreAmounts (n + 1)) step.ensures.numbers c.requires));
      extra_in_range = search rules;
    }
