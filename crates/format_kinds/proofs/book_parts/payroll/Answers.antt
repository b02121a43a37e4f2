use Rattle.std.proofs.Common.{pos, refl, rules, ◌∙◌, arith, lit<}
use Rattle.std.specs.Prelude.{slice_index_or}
use Rattle.aid_types.specs.Ranges.{IsAmount, IsRate}
use Rattle.format_kinds.specs.Sections.{payroll_slots}
use Rattle.format_kinds.proofs.Plain.{each_of, enough, six_first}
use Rattle.format_kinds.proofs.book_parts.payroll.Goals as goal

pub invariant_of-result : goal.invariant_of-result
invariant_of-result c =
    let xs = c.take.result in
    let each = each_of payroll_slots c.args.section.now xs c.take.new.self refl c.requires c.take.ensures.numbers in
    let all : IsAmount (slice_index_or xs 0 (pos 0)) × IsRate (slice_index_or xs 1 (pos 0)) × IsRate (slice_index_or xs 2 (pos 0)) × IsRate (slice_index_or xs 3 (pos 0)) × IsAmount (slice_index_or xs 4 (pos 0)) × IsAmount (slice_index_or xs 5 (pos 0)) = (each 0 _ (omega arith) refl, each 1 _ (omega arith) refl, each 2 _ (omega arith) refl, each 3 _ (omega arith) refl, each 4 _ (omega arith) refl, each 5 _ (omega arith) refl) in
    search rules

pub take-requires : goal.take-requires
take-requires c = (lit< tt, enough 6 payroll_slots c.args.section.now refl refl c.requires)

pub returns : goal.returns
returns c =
    let formed = c.well_formed in
    let typed = c.take.type_inv in
    let count = c.take.ensures.count in
    let whole = c.take.ensures.numbers ∙ six_first c.take.result c.take.new.self count in
    search rules
