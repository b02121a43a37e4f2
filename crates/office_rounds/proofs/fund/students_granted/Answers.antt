use Rattle.std.proofs.Common.{[], ◌∷◌, length, length-append, arith, ap, sym, ◌∙◌}
use Rattle.office_rounds.proofs.Grants.{grants_none, grants_one}
use Rattle.office_rounds.proofs.fund.students_granted.Goals as goal
use Rattle.office_rounds.proofs.fund.students_granted.Goals.{in-Some+in_ok-push, in_default}

pub loop-filing-preserved : goal.loop-filing-preserved
loop-filing-preserved c =
    let r = c.args.request.now in
    let h = c.args.filings.now in
    let i = c.loop-filing.filing-index in
    let f = c.filing-item.result in
    let before = c.loop-filing.students.items in
    let after = c.match-granted_to.students.items in
    elim c.match-granted_to.branch [
      | in-Some+in_ok-push w ↦
          let more = ap (λ v. v.items) w.students-is ∙ w.in_ok-push.ensures.items in (
            grants_one r h i f before after w.in-Some.student c.loop-filing-test.true c.filing-item.is (sym c.granted_to.ensures ∙ w.in-Some.is) more c.loop-filing.invariant.0,
            omega (arith, ap length more, length-append before (w.in-Some.student ∷ []), c.loop-filing.invariant.1),
          )
      | in_default w ↦
          let same = ap (λ v. v.items) w.students-is in (
            grants_none r h i f before after c.loop-filing-test.true c.filing-item.is (sym c.granted_to.ensures ∙ w.in_default.is) same c.loop-filing.invariant.0,
            omega (arith, ap length same, c.loop-filing.invariant.1),
          )
    ]
