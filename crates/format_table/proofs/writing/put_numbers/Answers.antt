use Rattle.std.proofs.Common.{arith, rules, pos, get_or, SFits, w64}
use Rattle.std.proofs.lemmas.Int.{to_z-of_z}
use Rattle.format_table.specs.Parts.{line_of}
use Rattle.format_table.proofs.WritingLemmas.{adds_next, adds_none}
use Rattle.format_table.proofs.writing.put_numbers.Goals.{in-Some, in_default}
use Rattle.format_table.proofs.writing.put_numbers.Goals as goal

pub loop-number-preserved : goal.loop-number-preserved
loop-number-preserved c = elim c.match-next.branch [
  | in-Some w ↦
      let fits : SFits w64 (get_or c.args.numbers.now c.loop-number.number-index (pos 0)) = search rules in
      let added = adds_next c.loop-number.layout w.advance.new.self c.args.numbers.now c.loop-number.number-index (line_of w.in-Some.field.now) (pos 0) _ c.loop-number.room w.put_number.new.room _
      w.in-Some.ensures c.loop-number-test.true (to_z-of_z w64 _ fits) w.put_number.ensures.added w.advance.ensures c.loop-number.invariant.added in
      rw (w.room-is, w.layout-is) (record { fits = omega arith; added = added })
  | in_default w ↦
      rw (w.room-is, w.layout-is) (record { fits = omega arith; added = adds_none c.loop-number.layout c.args.numbers.now c.loop-number.number-index c.loop-number.room _ w.in_default.ensures c.loop-number.invariant.added })
]
