use Rattle.std.proofs.Common.{refl, subst}
use Rattle.log_runs.specs.Puts.{HasCut, HasPut}
use Rattle.audit.specs.Answers.{answered, cut, starved, unread}
use Rattle.audit.proofs.answering.answer_input.Goals as goal

pub returns-in-Err-clause-answers : goal.returns-in-Err-clause-answers
returns-in-Err-clause-answers g c = unread c.in-Err.stop (rw c.limit.ensures.value at c.in-Err.ensures.unread) refl

pub returns-in_default-clause-answers : goal.returns-in_default-clause-answers
returns-in_default-clause-answers g c = starved (rw c.limit.ensures.value at c.in-Ok.ensures.whole) refl

pub returns-in-Ok-put-clause-answers : goal.returns-in-Ok-put-clause-answers
returns-in-Ok-put-clause-answers g c =
    answered c.in-Ok.read.items c.in-Ok-answer.text.items (rw c.limit.ensures.value at c.in-Ok.ensures.whole) c.in-Ok.ensures.bytes c.in-Ok-answer.ensures
    (subst (λ text. HasPut g.K.Sink text c.args.out.now c.put.new.out) c.deref.ensures.value c.in-Ok-put.ensures)

pub returns-clause-answers : goal.returns-clause-answers
returns-clause-answers g c =
    cut c.in-Ok.read.items c.in-Ok-answer.text.items (rw c.limit.ensures.value at c.in-Ok.ensures.whole) c.in-Ok.ensures.bytes c.in-Ok-answer.ensures
    (subst (λ text. HasCut g.K.Sink text c.args.out.now c.put.new.out) c.deref.ensures.value c.in-Err-put.ensures)
