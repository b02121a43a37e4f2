use Rattle.std.proofs.Common.{refl, sym, ap, ◌∙◌}
use Rattle.std.proofs.lemmas.Result.{on_ok_weaker}
use Rattle.law_funds.specs.declared.candidate.Candidate.{Candidate}
use Rattle.work_rounds.proofs.Gathering.{take_awarded, take_candidate, take_error, take_repeated}
use Rattle.work_rounds.proofs.gather.Gathered.take.Goals as goal

pub returns-then-not-branch : goal.returns-then-not-branch
returns-then-not-branch c =
    let key = ap (λ (d : Candidate). d.student) c.candidate.view_is in
    on_ok_weaker c.put_repeated.result (λ lines before at g. rw c.in-Ok.is
    (take_repeated c.args.desk.now.list c.args.request.now before _ _ g c.in-Ok.candidate key c.in_ok-insert-in-Ok.ensures.updates c.args.number at (sym c.in_ok-insert-in-Ok.ensures.added ∙ c.if-not-branch.true) lines refl)) c.put_repeated.ensures

pub returns-then-has_award : goal.returns-then-has_award
returns-then-has_award c before at g =
    let key = ap (λ (d : Candidate). d.student) c.candidate.view_is in
    rw c.in-Ok.is
    (take_awarded c.args.desk.now.list c.args.request.now before _ _ g c.in-Ok.candidate key c.in_ok-insert-in-Ok.ensures.updates (sym c.in_ok-insert-in-Ok.ensures.added ∙ c.if-not-branch.false) (sym c.has_award.ensures ∙ c.if-has_award.true) refl refl)

pub returns-in_ok-push-in-Ok : goal.returns-in_ok-push-in-Ok
returns-in_ok-push-in-Ok c before at g =
    let key = ap (λ (d : Candidate). d.student) c.candidate.view_is in
    rw c.in-Ok.is
    (take_candidate c.args.desk.now.list c.args.request.now before _ _ g c.in-Ok.candidate key c.in_ok-insert-in-Ok.ensures.updates (sym c.in_ok-insert-in-Ok.ensures.added ∙ c.if-not-branch.false) (sym c.has_award.ensures ∙ c.if-has_award.false) refl c.in_ok-push-in-Ok.ensures.items)

pub returns-in-Err : goal.returns-in-Err
returns-in-Err c =
    on_ok_weaker c.put_error.result (λ lines before at g. rw c.in-Err.is (take_error c.args.desk.now.list c.args.request.now before _ _ g c.in-Err.error lines refl refl)) c.put_error.ensures.ok
