use Rattle.std.proofs.Common.{rules, pos, get_or, SFits, w64}
use Rattle.std.proofs.lemmas.Int.{to_z-of_z}
use Rattle.format_table.specs.Parts.{line_of}
use Rattle.format_kinds.specs.Kinds.{words_of_programs}
use Rattle.format_filings.proofs.WritingLemmas.{adds_next, adds_none, is_next, none_spelled}
use Rattle.format_filings.proofs.written_row.put_numbers.Goals.{in-Some+in_ok-put_field, in_default}
use Rattle.format_filings.proofs.written_row.put_numbers.Goals as goal

pub put_field-requires : goal.put_field-requires
put_field-requires c =
    let fits : SFits w64 (get_or c.args.numbers.now c.loop-number.number-index (pos 0)) = search rules in
    (is_next words_of_programs c.loop-number.layout c.args.numbers.now c.loop-number.number-index (line_of c.in-Some.field.now) _ (pos 0) c.in-Some.ensures c.loop-number-test.true (to_z-of_z w64 _ fits) c.loop-number.invariant.spelled).spelled

pub loop-number-preserved : goal.loop-number-preserved
loop-number-preserved c = elim c.match-next.branch [
  | in-Some+in_ok-put_field w ↦
      let fits : SFits w64 (get_or c.args.numbers.now c.loop-number.number-index (pos 0)) = search rules in
      let next = is_next words_of_programs c.loop-number.layout c.args.numbers.now c.loop-number.number-index (line_of w.in-Some.field.now) _ (pos 0) w.in-Some.ensures c.loop-number-test.true (to_z-of_z w64 _ fits) c.loop-number.invariant.spelled in
      rw (w.out-is, w.layout-is, w.advance.ensures) (record {
        spelled = next.rest;
        added = adds_next words_of_programs c.loop-number.layout c.args.numbers.now c.loop-number.number-index (line_of w.in-Some.field.now) _ c.loop-number.out.items _ _ next w.in_ok-put_field.ensures c.loop-number.invariant.added;
      })
  | in_default w ↦
      rw (w.out-is, w.layout-is) (record {
        spelled = none_spelled c.loop-number.layout _ w.in_default.ensures;
        added = adds_none words_of_programs c.loop-number.layout c.args.numbers.now c.loop-number.number-index c.loop-number.out.items _ w.in_default.ensures c.loop-number.invariant.added;
      })
]
