use Rattle.std.proofs.Common.{◌≡◌, ℕ, ◌+◌, ◌-◌, refl, sym, subst, arith}
use Rattle.law_terms.specs.Terms.{AreAfter, long_days}
use Rattle.law_terms.proofs.TermDays.{counted-none, break_begins, break_step}
use Rattle.law_terms.proofs.terms.days.Goals as goal

pub loop-from-init : goal.loop-from-init
loop-from-init c = sym (counted-none c.count-first.result (c.count-end.result + 1 - c.count-first.result))

pub long_break_days-count-requires-clause-started : goal.long_break_days-count-requires-clause-started
long_break_days-count-requires-clause-started c =
    let here = break_begins c.args.term.now.first c.as_slice-from-items.result.now c.loop-from.from-index c.loop-from-item.result c.loop-from-test.true c.loop-from-item.is (subst (AreAfter c.args.term.now.first) (sym c.as_slice-from-items.ensures) c.requires.lawful.breaks) in
    omega (arith, here.0, c.count-first.ensures.value, c.count.ensures.value)

pub long_break_days-count-requires-clause-ordered : goal.long_break_days-count-requires-clause-ordered
long_break_days-count-requires-clause-ordered c =
    let here = break_begins c.args.term.now.first c.as_slice-from-items.result.now c.loop-from.from-index c.loop-from-item.result c.loop-from-test.true c.loop-from-item.is (subst (AreAfter c.args.term.now.first) (sym c.as_slice-from-items.ensures) c.requires.lawful.breaks) in
    omega (arith, here.1, c.count.ensures.value, c.count-in-loop-from.ensures.value)

pub overflow_sub-count-in-loop-from : goal.overflow_sub-count-in-loop-from
overflow_sub-count-in-loop-from c =
    let first = c.count-first.result in
    let n = c.count-end.result + 1 - first in
    let step = break_step first n c.as_slice-from-items.result.now c.loop-from.from-index c.loop-from-item.result c.loop-from-test.true c.loop-from-item.is (subst (λ (d : ℕ). AreAfter d c.as_slice-from-items.result.now) (sym c.count-first.ensures.value) (subst (AreAfter c.args.term.now.first) (sym c.as_slice-from-items.ensures) c.requires.lawful.breaks)) in
    let same : long_days (c.count.result, c.count-in-loop-from.result) first n ≡ long_days c.loop-from-item.result first n = rw (c.count.ensures.value, c.count-in-loop-from.ensures.value) refl in
    omega (arith, step, same, c.long_break_days-count.ensures, c.loop-from.invariant)

pub loop-from-preserved : goal.loop-from-preserved
loop-from-preserved c =
    let first = c.count-first.result in
    let n = c.count-end.result + 1 - first in
    let step = break_step first n c.as_slice-from-items.result.now c.loop-from.from-index c.loop-from-item.result c.loop-from-test.true c.loop-from-item.is (subst (λ (d : ℕ). AreAfter d c.as_slice-from-items.result.now) (sym c.count-first.ensures.value) (subst (AreAfter c.args.term.now.first) (sym c.as_slice-from-items.ensures) c.requires.lawful.breaks)) in
    let same : long_days (c.count.result, c.count-in-loop-from.result) first n ≡ long_days c.loop-from-item.result first n = rw (c.count.ensures.value, c.count-in-loop-from.ensures.value) refl in
    omega (arith, step, same, c.long_break_days-count.ensures, c.loop-from.invariant)
