use Rattle.std.proofs.Common.{◌≡◌, ◌+◌, ◌<◌, ℕ, List, length, get_or, arith, ap, refl, sym, subst, ◌∙◌}
use Rattle.std.proofs.lemmas.List.{drop_all, get_or_default}
use Rattle.law_work.specs.declared.filing.WorkFiling.{WorkFiling}
use Rattle.work_rounds.proofs.Awarding.{AreSoFar, award_end, award_in_range, award_none, award_one, longer, sum_from}
use Rattle.work_rounds.proofs.awards.awards.Goals as goal
use Rattle.work_rounds.proofs.awards.awards.Goals.{then-award-gt0+in_ok-push, else-award-gt0}

pub invariant_of-facts : goal.invariant_of-facts
invariant_of-facts c =
    let awards = c.args.awards.now in
    let i = c.loop-index.index in
    let inside : i < length awards = omega (arith, c.loop-index-test.true, c.requires.count) in
    let fits = award_in_range c.args.candidates.now awards c.requires.within i (get_or awards i 0) c.loop-index-test.true (get_or_default awards i 0 (get_or awards i 0) inside) c.if-award-gt0.true in
    record { in_range = omega (arith, fits.1) }

pub loop-index-preserved : goal.loop-index-preserved
loop-index-preserved c =
    let r = c.args.request.now in
    let cs = c.args.candidates.now in
    let awards = c.args.awards.now in
    let i = c.loop-index.index in
    let award = get_or awards i 0 in
    let inside : i < length awards = omega (arith, c.loop-index-test.true, c.requires.count) in
    let at = get_or_default awards i 0 award inside in
    let candidate = c.index-candidates-index.result in
    let here = c.index-candidates-index.is in
    let known = c.loop-index.invariant in
    let next = sum_from awards i award inside at in
    elim c.if-award-gt0.branch [
      | then-award-gt0+in_ok-push w ↦
          let more = ap (λ v. v.items) w.filings-is ∙ w.in_ok-push.ensures.items in
          let fits = award_in_range cs awards c.requires.within i award c.loop-index-test.true at w.if-award-gt0.true in
          record {
            so_far =
                subst (λ (n : ℕ). AreSoFar r cs awards (i + 1) n c.if-award-gt0.filings.items) (sym w.number-is)
                (award_one r cs awards i c.loop-index.number c.loop-index.filings.items c.if-award-gt0.filings.items candidate award _
                c.loop-index-test.true inside here at w.if-award-gt0.true more (record { facts = _; what = refl; school = refl; number = refl; student = refl; year = refl; amount = refl }) known.so_far);
            count = omega (arith, known.count, w.number-is, longer c.loop-index.filings.items c.if-award-gt0.filings.items _ more);
            spent = omega (arith, known.spent, next, fits.0, w.number-is);
          }
      | else-award-gt0 w ↦
          let same = ap (λ v. v.items) w.filings-is in
          let none : award ≡ 0 = omega (arith, w.if-award-gt0.false) in
          record {
            so_far =
                subst (λ (n : ℕ). AreSoFar r cs awards (i + 1) n c.if-award-gt0.filings.items) (sym w.number-is)
                (subst (λ (fs : List WorkFiling). AreSoFar r cs awards (i + 1) c.loop-index.number fs) (sym same)
                (award_none r cs awards i c.loop-index.number c.loop-index.filings.items candidate award c.loop-index-test.true inside here at none known.so_far));
            count = omega (arith, known.count, w.number-is, ap length same);
            spent = omega (arith, known.spent, next, none, w.number-is);
          }
    ]

pub returns-clause-awards : goal.returns-clause-awards
returns-clause-awards c =
    award_end c.args.request.now c.args.candidates.now c.args.awards.now c.loop-index.index c.loop-index.number c.loop-index.filings.items
    (drop_all c.loop-index.index c.args.candidates.now (omega (arith, c.loop-index-test.false))) c.loop-index.invariant.so_far

pub returns-clause-few : goal.returns-clause-few
returns-clause-few c =
    let known = c.loop-index.invariant in
    omega (arith, known.count, known.spent, c.requires.fund)
