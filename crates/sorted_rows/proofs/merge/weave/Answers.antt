use Rattle.std.proofs.Common.{◌≡◌, ℕ, ◌+◌, ◌-◌, ◌<◌, Some, subst, sym, ap, ◌∙◌, arith, refl}
use Rattle.std.specs.List.{slice_get}
use Rattle.std.specs.declared.cmp.Ordering.TheVariants.{Less}
use Rattle.std.proofs.lemmas.Option.{slice_get-get_or, get_or_from_slice_get}
use Rattle.sorted_rows.proofs.Woven.{IsWoven, woven_start, woven_end, woven_move, woven_place}
use Rattle.sorted_rows.specs.Places.{IsBelowPrior}
use Rattle.sorted_rows.proofs.merge.weave.Goals as goal

pub loop-waiting-init : goal.loop-waiting-init
loop-waiting-init g c = woven_start g.met.K.Ord.total c.args.tail.now c.args.rows.now c.args.count c.requires.fit c.requires.apart

pub loop-waiting-preserved-then-is_below_prior : goal.loop-waiting-preserved-then-is_below_prior
loop-waiting-preserved-then-is_below_prior g c =
    let tail = c.args.tail.now in
    let old = c.args.rows.now in
    let now = c.loop-waiting.rows in
    let i = c.loop-waiting.left - 1 in
    let k = c.loop-waiting.place - 1 in
    let x = c.index-rows-left.result in
    let order : c.loop-waiting.place ≡ c.loop-waiting.left + c.loop-waiting.waiting = c.loop-waiting.invariant.order in
    let prior : 0 < c.loop-waiting.left = (c.if-is_below_prior.ensures.below refl).prior in
    let i_is : c.loop-waiting.left ≡ i + 1 = omega arith in
    let k_is : c.loop-waiting.place ≡ k + 1 = omega arith in
    let from : IsWoven g.K.Ord.cmp tail old c.args.count now (i + 1) c.loop-waiting.waiting (k + 1) =
    subst (λ (n : ℕ). IsWoven g.K.Ord.cmp tail old c.args.count now (i + 1) c.loop-waiting.waiting n) k_is (subst (λ (n : ℕ). IsWoven g.K.Ord.cmp tail old c.args.count now n c.loop-waiting.waiting c.loop-waiting.place) i_is c.loop-waiting.invariant) in
    let at : slice_get now i ≡ Some x = slice_get-get_or now i x (omega arith) ∙ ap (λ (y : g.row.K.Denot × g.row.V.Denot). Some y) (sym c.index-rows-left.is) in
    woven_move g.met.K.Ord.total tail old c.args.count now i c.loop-waiting.waiting k x from c.index-rows-left.is
    (λ y at_y.
    subst (λ (z : g.row.K.Denot × g.row.V.Denot). g.K.Ord.cmp z.0 x.0 ≡ Less) (get_or_from_slice_get tail (c.loop-waiting.waiting - 1) y c.index-tail-waiting.result at_y) ((c.if-is_below_prior.ensures.below refl).below x at))

pub loop-waiting-preserved : goal.loop-waiting-preserved
loop-waiting-preserved g c =
    let tail = c.args.tail.now in
    let old = c.args.rows.now in
    let now = c.loop-waiting.rows in
    let j = c.loop-waiting.waiting - 1 in
    let k = c.loop-waiting.place - 1 in
    let y = c.index-tail-waiting-else-is_below_prior.result in
    let order : c.loop-waiting.place ≡ c.loop-waiting.left + c.loop-waiting.waiting = c.loop-waiting.invariant.order in
    let j_is : c.loop-waiting.waiting ≡ j + 1 = omega arith in
    let k_is : c.loop-waiting.place ≡ k + 1 = omega arith in
    let from : IsWoven g.K.Ord.cmp tail old c.args.count now c.loop-waiting.left (j + 1) (k + 1) =
    subst (λ (n : ℕ). IsWoven g.K.Ord.cmp tail old c.args.count now c.loop-waiting.left (j + 1) n) k_is (subst (λ (n : ℕ). IsWoven g.K.Ord.cmp tail old c.args.count now c.loop-waiting.left n c.loop-waiting.place) j_is c.loop-waiting.invariant) in
    let at : slice_get tail j ≡ Some y = slice_get-get_or tail j y (omega (arith, c.loop-waiting.invariant.in_tail)) ∙ ap (λ (z : g.row.K.Denot × g.row.V.Denot). Some z) (sym c.index-tail-waiting-else-is_below_prior.is) in
    woven_place g.met.K.Ord.total tail old c.args.count now c.loop-waiting.left j k y from c.requires.apart at
    (subst (λ (z : g.row.K.Denot × g.row.V.Denot). IsBelowPrior g.K.Ord.cmp z.0 now c.loop-waiting.left → ⊥) (get_or_from_slice_get tail j y c.index-tail-waiting.result at) (c.if-is_below_prior.ensures.not_below refl))

pub returns-clause-sorted : goal.returns-clause-sorted
returns-clause-sorted g c =
    let none : c.loop-waiting.waiting ≡ 0 = omega arith in
    (woven_end g.met.K.Ord.total c.args.tail.now c.args.rows.now c.args.count c.loop-waiting.rows c.loop-waiting.left c.loop-waiting.place (subst (λ (n : ℕ). IsWoven g.K.Ord.cmp c.args.tail.now c.args.rows.now c.args.count c.loop-waiting.rows c.loop-waiting.left n c.loop-waiting.place) none c.loop-waiting.invariant)).0

pub returns-clause-values : goal.returns-clause-values
returns-clause-values g c =
    let none : c.loop-waiting.waiting ≡ 0 = omega arith in
    (woven_end g.met.K.Ord.total c.args.tail.now c.args.rows.now c.args.count c.loop-waiting.rows c.loop-waiting.left c.loop-waiting.place (subst (λ (n : ℕ). IsWoven g.K.Ord.cmp c.args.tail.now c.args.rows.now c.args.count c.loop-waiting.rows c.loop-waiting.left n c.loop-waiting.place) none c.loop-waiting.invariant)).1
