use Rattle.std.proofs.Common.{◌≡◌, ◌+◌, ◌-◌, ◌*◌, ◌^◌, ◌≤◌, length, arith, ℕ, subst, Some, ◌/◌}
use Rattle.std.specs.List.{slice_get}
use Rattle.sorted_rows.proofs.Looks.{AreLooks, one_look, one_missed, all_missed, compared}
use Rattle.sorted_rows.proofs.search.search.Goals as goal

pub returns-in-Equal-clause-lookups : goal.returns-in-Equal-clause-lookups
returns-in-Equal-clause-lookups g c =
    let n = length c.args.rows.now in
    let lookups : AreLooks n (c.loop-low.steps - c.args.steps.now + 1) 0 = one_look n (c.loop-low.steps - c.args.steps.now) (c.loop-low.high - c.loop-low.low) 0 c.loop-low.invariant.lookups (omega arith) (omega arith) in
    subst (λ (k : ℕ). 2 ^ k ≤ 2 * n + 1) {x = c.loop-low.steps - c.args.steps.now + 1} (omega arith) lookups.few

pub loop-low-preserved-in-Less : goal.loop-low-preserved-in-Less
loop-low-preserved-in-Less g c =
    let n = length c.args.rows.now in
    let rest = c.loop-low.low + (c.loop-low.high - c.loop-low.low) / 2 - c.loop-low.low in
    let lookups : AreLooks n (c.loop-low.steps - c.args.steps.now + 1) rest = one_look n (c.loop-low.steps - c.args.steps.now) (c.loop-low.high - c.loop-low.low) rest c.loop-low.invariant.lookups (omega arith) (omega arith) in
    record {
      order = omega arith;
      within = omega arith;
      before = c.loop-low.invariant.before;
      after = compared g.K.Ord.cmp c.args.key.now c.args.rows.now _ c.index-rows-middle.result _ (rw (← c.cmp.ensures) c.in-Less.is);
      missed = subst (λ (k : ℕ). n + 2 ≤ 2 ^ k * (rest + 2)) {x = c.loop-low.steps - c.args.steps.now + 1} (omega arith)
          (one_missed n (c.loop-low.steps - c.args.steps.now) (c.loop-low.high - c.loop-low.low) rest c.loop-low.invariant.missed (omega arith));
      later = omega arith;
      lookups = subst (λ (k : ℕ). AreLooks n k rest) {x = c.loop-low.steps - c.args.steps.now + 1} (omega arith) lookups;
    }

pub loop-low-preserved : goal.loop-low-preserved
loop-low-preserved g c =
    let n = length c.args.rows.now in
    let rest = c.loop-low.high - (c.loop-low.low + (c.loop-low.high - c.loop-low.low) / 2 + 1) in
    let lookups : AreLooks n (c.loop-low.steps - c.args.steps.now + 1) rest = one_look n (c.loop-low.steps - c.args.steps.now) (c.loop-low.high - c.loop-low.low) rest c.loop-low.invariant.lookups (omega arith) (omega arith) in
    record {
      order = omega arith;
      within = omega arith;
      before = λ j e next at.
          let same : j ≡ c.loop-low.low + (c.loop-low.high - c.loop-low.low) / 2 = omega arith in
          compared g.K.Ord.cmp c.args.key.now c.args.rows.now _ c.index-rows-middle.result _ (rw (← c.cmp.ensures) c.in-Greater.is) e (subst (λ (i : ℕ). slice_get c.args.rows.now i ≡ Some e) same at);
      after = c.loop-low.invariant.after;
      missed = subst (λ (k : ℕ). n + 2 ≤ 2 ^ k * (rest + 2)) {x = c.loop-low.steps - c.args.steps.now + 1} (omega arith)
          (one_missed n (c.loop-low.steps - c.args.steps.now) (c.loop-low.high - c.loop-low.low) rest c.loop-low.invariant.missed (omega arith));
      later = omega arith;
      lookups = subst (λ (k : ℕ). AreLooks n k rest) {x = c.loop-low.steps - c.args.steps.now + 1} (omega arith) lookups;
    }

pub returns-clause-missed : goal.returns-clause-missed
returns-clause-missed g c =
    all_missed (length c.args.rows.now) (c.loop-low.steps - c.args.steps.now) (c.loop-low.high - c.loop-low.low) c.loop-low.invariant.missed (omega arith)
