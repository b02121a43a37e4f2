use Rattle.audit.specs.declared.words.AuditCommand.TheVariants.{Audit, Clock, Whole}
use Rattle.audit.proofs.Ran.{by_command}
use Rattle.audit.proofs.run.do_command.Goals as goal

pub returns-in-Audit-clause-answers : goal.returns-in-Audit-clause-answers
returns-in-Audit-clause-answers g c =
    by_command c.args.command (Audit c.in-Audit.note) g.K.Sink _ c.args.out.now c.answer_input.new.out c.answer_input.result c.in-Audit.is (rw c.new.ensures at c.answer_input.ensures.answers)

pub returns-in-Whole-clause-answers : goal.returns-in-Whole-clause-answers
returns-in-Whole-clause-answers g c =
    by_command c.args.command (Whole c.in-Whole.note) g.K.Sink _ c.args.out.now c.answer_input-in-Whole.new.out c.answer_input-in-Whole.result c.in-Whole.is
    (rw c.new-in-Whole.ensures at c.answer_input-in-Whole.ensures.answers)

pub returns-in-Clock-clause-answers : goal.returns-in-Clock-clause-answers
returns-in-Clock-clause-answers g c = by_command c.args.command Clock g.K.Sink _ c.args.out.now c.answer_input-in-Clock.new.out c.answer_input-in-Clock.result c.in-Clock.is c.answer_input-in-Clock.ensures.answers
