use Rattle.std.proofs.Common.{◌≡◌, ◌<◌, ◌≤◌, ◌∙◌, arith, List, refl, reverse, subst}
use Rattle.log_stamps.specs.Entries.{stamped}
use Rattle.office_amends.specs.Amended.{amended}
use Rattle.office_amends.specs.Stood.{Makes}
use Rattle.office_amends.specs.Texts.{told}
use Rattle.office_amends.specs.declared.correction.Correction.{Correction}
use Rattle.office_amends.proofs.Planned.{fewer, made, refused, wrong}
use Rattle.office_amends.proofs.plan.plan_amendment.Goals as goal

pub returns-then-errors-gt0 : goal.returns-then-errors-gt0
returns-then-errors-gt0 c =
    let some : 0 < c.in_ok-fits.field-0.errors = search (c.in_ok-fits.errors-is, c.if-errors-gt0.true) in
    wrong c.args.old.now.history (reverse c.args.stamps.now) c.args.stamp.now c.args.number c.args.input.items c.in_ok-fits.field-0 c.in_ok-fits.ensures.gathered c.put_errors.new.out some
    (search (c.in_ok-put_errors.ensures, c.in_ok-fits.errors-is, c.in_ok-fits.lines-is))

pub overflow_sub-refused : goal.overflow_sub-refused
overflow_sub-refused c =
    let past = stamped c.args.old.now.history (reverse c.args.stamps.now) in
    let none : c.in_ok-fits.field-0.errors ≤ 0 = search (c.in_ok-fits.errors-is, c.if-errors-gt0.false) in
    let fits : c.as_slice.result.now ≡ c.in_ok-fits.field-0.fits.items = search (c.as_slice.ensures.value, c.in_ok-fits.fits-is) in
    let makes = subst (λ (cs : List Correction). Makes (amended c.args.stamp.now cs past) (told c.args.stamp.now cs past) c.in_ok-made.made) fits c.in_ok-made.ensures in
    fewer c.args.old.now.history (reverse c.args.stamps.now) c.args.stamp.now c.args.number c.args.input.items c.in_ok-fits.field-0 c.in_ok-fits.ensures.gathered none c.in_ok-made.made makes
    c.from.result (c.from.ensures ∙ c.front.ensures.value)

pub returns-then-refused-gt0 : goal.returns-then-refused-gt0
returns-then-refused-gt0 c =
    let past = stamped c.args.old.now.history (reverse c.args.stamps.now) in
    let none : c.in_ok-fits.field-0.errors ≤ 0 = search (c.in_ok-fits.errors-is, c.if-errors-gt0.false) in
    let fits : c.as_slice.result.now ≡ c.in_ok-fits.field-0.fits.items = search (c.as_slice.ensures.value, c.in_ok-fits.fits-is) in
    let makes = subst (λ (cs : List Correction). Makes (amended c.args.stamp.now cs past) (told c.args.stamp.now cs past) c.in_ok-made.made) fits c.in_ok-made.ensures in
    refused c.args.old.now.history (reverse c.args.stamps.now) c.args.stamp.now c.args.number c.args.input.items c.in_ok-fits.field-0 c.in_ok-fits.ensures.gathered none c.in_ok-made.made makes
    c.from.result c.put_refused_total.new.out (c.from.ensures ∙ c.front.ensures.value) c.if-refused-gt0.true c.in_ok-put_refused_total.ensures

pub returns : goal.returns
returns c =
    let past = stamped c.args.old.now.history (reverse c.args.stamps.now) in
    let none : c.in_ok-fits.field-0.errors ≤ 0 = search (c.in_ok-fits.errors-is, c.if-errors-gt0.false) in
    let fits : c.as_slice.result.now ≡ c.in_ok-fits.field-0.fits.items = search (c.as_slice.ensures.value, c.in_ok-fits.fits-is) in
    let makes = subst (λ (cs : List Correction). Makes (amended c.args.stamp.now cs past) (told c.args.stamp.now cs past) c.in_ok-made.made) fits c.in_ok-made.ensures in
    made c.args.old.now.history (reverse c.args.stamps.now) c.args.stamp.now c.args.number c.args.input.items c.in_ok-fits.field-0 c.in_ok-fits.ensures.gathered none c.in_ok-made.made makes
    c.from.result _ (c.from.ensures ∙ c.front.ensures.value) (λ more. omega (arith, more, c.if-refused-gt0.false)) refl refl c.in_ok-put_amended.ensures
