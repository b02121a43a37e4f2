use Rattle.std.proofs.Common.{◌≡◌, ◌+◌, ◌<◌, ℕ, List, [], ◌∷◌, length, length-append, get_or, arith, ap, sym, subst, ◌∙◌}
use Rattle.std.proofs.lemmas.List.{drop_all, get_or_default}
use Rattle.aid_filings.specs.declared.filing.Filing.{Filing}
use Rattle.office_rounds.proofs.Paying.{ArePaidSoFar, award_most, pay_end, pay_none, pay_one}
use Rattle.office_rounds.proofs.payments.payments.Goals as goal
use Rattle.office_rounds.proofs.payments.payments.Goals.{then-award-gt0+in_ok-push, else-award-gt0}

pub payment-requires-clause-award : goal.payment-requires-clause-award
payment-requires-clause-award c =
    let awards = c.args.awards.now in
    let i = c.loop-index.index in
    let inside : i < length awards = omega (arith, c.loop-index-test.true, c.requires.count) in
    award_most c.args.candidates.now awards c.requires.within i (get_or awards i 0) c.loop-index-test.true (get_or_default awards i 0 (get_or awards i 0) inside)

pub loop-index-preserved : goal.loop-index-preserved
loop-index-preserved c =
    let r = c.args.request.now in
    let cs = c.args.candidates.now in
    let awards = c.args.awards.now in
    let i = c.loop-index.index in
    let award = get_or awards i 0 in
    let inside : i < length awards = omega (arith, c.loop-index-test.true, c.requires.count) in
    let at = get_or_default awards i 0 award inside in
    let candidate = c.index-candidates-index.result in
    let here = c.index-candidates-index.is in
    let few = c.loop-index.invariant.1 in
    let low = c.loop-index.invariant.2 in
    let high = c.loop-index.invariant.3 in
    elim c.if-award-gt0.branch [
      | then-award-gt0+in_ok-push w ↦
          let more = ap (λ v. v.items) w.filings-is ∙ w.in_ok-push.ensures.items in
          let next = w.number-is in (
            subst (λ (n : ℕ). ArePaidSoFar r cs awards (i + 1) n c.if-award-gt0.filings.items) (sym next)
                (pay_one r cs awards i c.loop-index.number c.loop-index.filings.items c.if-award-gt0.filings.items candidate award w.payment.result
                c.loop-index-test.true inside here at w.if-award-gt0.true more w.payment.ensures c.loop-index.invariant.0),
            omega (arith, few, ap length more, length-append c.loop-index.filings.items (w.payment.result ∷ [])),
            omega (arith, low, next),
            omega (arith, high, next),
          )
      | else-award-gt0 w ↦
          let same = ap (λ v. v.items) w.filings-is in
          let next = w.number-is in
          let none : award ≡ 0 = omega (arith, w.if-award-gt0.false) in (
            subst (λ (n : ℕ). ArePaidSoFar r cs awards (i + 1) n c.if-award-gt0.filings.items) (sym next)
                (subst (λ (fs : List Filing). ArePaidSoFar r cs awards (i + 1) c.loop-index.number fs) (sym same)
                (pay_none r cs awards i c.loop-index.number c.loop-index.filings.items candidate award c.loop-index-test.true inside here at none c.loop-index.invariant.0)),
            omega (arith, few, ap length same),
            omega (arith, low, next),
            omega (arith, high, next),
          )
    ]

pub returns-clause-payments : goal.returns-clause-payments
returns-clause-payments c =
    pay_end c.args.request.now c.args.candidates.now c.args.awards.now c.loop-index.index c.loop-index.number c.loop-index.filings.items
    (drop_all c.loop-index.index c.args.candidates.now (omega (arith, c.loop-index-test.false))) c.loop-index.invariant.0
