use Rattle.std.proofs.Common.{pos, All, arith, subst, sym}
use Rattle.aid_books.specs.Marginal.{IsBracket, IsMarginal}
use Rattle.aid_books.specs.declared.marginal.Bracket.{Bracket}
use Rattle.aid_types.proofs.FilledLemmas.{filled_to-step, holds_list}
use Rattle.aid_books.proofs.marginal.Brackets.from_rows.Goals as goal

none : Bracket
none = record { over = pos 0; base = pos 0; rate = pos 0 }

pub invariant_of-result : goal.invariant_of-result
unfolding none
invariant_of-result c =
    let held = holds_list 16 none c.args.rows.now c.loop-i.array c.loop-i.i c.loop-i.invariant c.loop-i.auto.i-end c.loop-i-test.false c.requires.few in
    (held.is_filled, subst (All IsBracket) (sym held.listed) c.requires.in_range, subst IsMarginal (sym held.listed) c.requires.marginal)

pub loop-i-preserved : goal.loop-i-preserved
unfolding none
loop-i-preserved c =
    rw c.loop-i.invariant (filled_to-step 16 none c.args.rows.now c.loop-i.i none c.loop-i-test.true (omega arith))
