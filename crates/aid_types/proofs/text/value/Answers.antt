use Rattle.aid_types.proofs.DigitsLemmas.{value_step}
use Rattle.aid_types.proofs.text.value.Goals as goal

pub loop-digit-preserved : goal.loop-digit-preserved
loop-digit-preserved c =
    let step = value_step c.args.digits.now c.loop-digit.digit-index c.loop-digit.value c.requires c.loop-digit-test.true c.loop-digit.invariant in
    rw (c.saturating_add-value.ensures, c.saturating_mul.ensures, c.from.ensures) step
