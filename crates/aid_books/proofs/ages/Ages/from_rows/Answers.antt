use Rattle.std.proofs.Common.{pos, All, arith, subst, sym}
use Rattle.aid_books.specs.Ages.{IsAgeRow, IsByAge}
use Rattle.aid_books.specs.declared.ages.AgeRow.{AgeRow}
use Rattle.aid_types.proofs.FilledLemmas.{filled_to-step, holds_list}
use Rattle.aid_books.proofs.ages.Ages.from_rows.Goals as goal

none : AgeRow
none = record { start = pos 0; single = pos 0; married = pos 0 }

pub invariant_of-result : goal.invariant_of-result
unfolding none
invariant_of-result c =
    let held = holds_list 64 none c.args.rows.now c.loop-i.array c.loop-i.i c.loop-i.invariant c.loop-i.auto.i-end c.loop-i-test.false c.requires.few in
    (held.is_filled, subst (All IsAgeRow) (sym held.listed) c.requires.in_range, subst IsByAge (sym held.listed) c.requires.by_age)

pub loop-i-preserved : goal.loop-i-preserved
unfolding none
loop-i-preserved c =
    rw c.loop-i.invariant (filled_to-step 64 none c.args.rows.now c.loop-i.i none c.loop-i-test.true (omega arith))
