use Rattle.std.proofs.Common.{ap, Err, arith, refl, subst, sym, length, ◌≤◌, ◌∙◌}
use Rattle.std.specs.Prelude.{map, string_bytes}
use Rattle.log_session.specs.Edges.{Input}
use Rattle.log_runs.specs.declared.stop.RunStop.TheVariants as stops
use Rattle.log_runs.proofs.EndLaws.{ends_honest, ends_later, sink_moved, stood}
use Rattle.log_runs.proofs.Shown.{ends_done, ends_show}
use Rattle.audit.specs.Answers.{answers_of}
use Rattle.audit.specs.Runs.{did, edges, no_row}
use Rattle.audit.specs.Words.{command_in, limit_of}
use Rattle.audit.specs.declared.words.AuditCommand.{AuditCommand}
use Rattle.audit.proofs.Ran.{caused_by, done_by, excused_by, same_command, still}
use Rattle.audit.proofs.run.run_audit.Goals as goal

pub returns-in-Some-clause-ran : goal.returns-in-Some-clause-ran
returns-in-Some-clause-ran g c =
    let done = c.do_command-ended in
    let input : Input = record { honest = g.S.Source.honest c.args.input.now; before = g.S.Source.left c.args.input.now; after = g.S.Source.left done.new.input } in
    let words = ap (λ ws. command_in (map string_bytes ws)) (sym c.as_slice.ensures.value) ∙ (sym c.command_by.ensures ∙ c.in-Some.is) in
    rw words
    (did c.in-Some.command done.new.out done.result c.end.result done.ensures.answers
    (caused_by (limit_of c.in-Some.command) (answers_of c.in-Some.command) g.K.Sink input (g.S.Source.faults c.args.input.now, g.S.Source.faults done.new.input) c.args.out.now done.new.out c.end.new.out done.result c.end.result done.ensures.answers done.ensures.source done.ensures.sink_later done.ensures.sink c.end.ensures)
    c.end.ensures)

pub returns-in-Some-clause-done : goal.returns-in-Some-clause-done
returns-in-Some-clause-done g c it is zero honest tells =
    let done = c.do_command-ended in
    let input : Input = record { honest = g.S.Source.honest c.args.input.now; before = g.S.Source.left c.args.input.now; after = g.S.Source.left done.new.input } in
    let words = ap (λ ws. command_in (map string_bytes ws)) (sym c.as_slice.ensures.value) ∙ (sym c.command_by.ensures ∙ c.in-Some.is) in
    done_by c.in-Some.command it g.K.Sink input c.args.out.now done.new.out c.end.new.out done.result c.end.result (sym words ∙ is) done.ensures.answers c.end.ensures zero honest tells

pub returns-in-Some-clause-shows : goal.returns-in-Some-clause-shows
returns-in-Some-clause-shows g c =
    let done = c.do_command-ended in
    let input : Input = record { honest = g.S.Source.honest c.args.input.now; before = g.S.Source.left c.args.input.now; after = g.S.Source.left done.new.input } in
    ends_show g.K.Sink done.new.out c.end.new.out (edges (g.S.Source.faults c.args.input.now, g.S.Source.faults done.new.input) (g.K.Sink.faults c.args.out.now, g.K.Sink.faults c.end.new.out)) done.result c.end.result
    (caused_by (limit_of c.in-Some.command) (answers_of c.in-Some.command) g.K.Sink input (g.S.Source.faults c.args.input.now, g.S.Source.faults done.new.input) c.args.out.now done.new.out c.end.new.out done.result c.end.result done.ensures.answers done.ensures.source done.ensures.sink_later done.ensures.sink c.end.ensures)
    c.end.ensures

pub returns-in-Some-clause-complete : goal.returns-in-Some-clause-complete
returns-in-Some-clause-complete g c it is honest short no_source no_sink =
    let done = c.do_command-ended in
    let input : Input = record { honest = g.S.Source.honest c.args.input.now; before = g.S.Source.left c.args.input.now; after = g.S.Source.left done.new.input } in
    let words = ap (λ ws. command_in (map string_bytes ws)) (sym c.as_slice.ensures.value) ∙ (sym c.command_by.ensures ∙ c.in-Some.is) in
    ends_done g.K.Sink
    (edges (g.S.Source.faults c.args.input.now, g.S.Source.faults done.new.input) (g.K.Sink.faults c.args.out.now, g.K.Sink.faults c.end.new.out))
    done.new.out c.end.new.out done.result c.end.result
    (caused_by (limit_of c.in-Some.command) (answers_of c.in-Some.command) g.K.Sink input (g.S.Source.faults c.args.input.now, g.S.Source.faults done.new.input) c.args.out.now done.new.out c.end.new.out done.result c.end.result done.ensures.answers done.ensures.source done.ensures.sink_later done.ensures.sink c.end.ensures)
    c.end.ensures
    (excused_by (limit_of c.in-Some.command) (answers_of c.in-Some.command) g.K.Sink input c.args.out.now done.new.out done.result done.ensures.answers honest (subst (λ (command : AuditCommand). length input.before ≤ limit_of command) (same_command c.in-Some.command it (sym words ∙ is)) short))
    no_source no_sink still

pub returns-in-Some-clause-sink_later : goal.returns-in-Some-clause-sink_later
returns-in-Some-clause-sink_later g c =
    let before = c.do_command-ended.ensures.sink_later in
    let behind = ends_later g.K.Sink c.do_command-ended.new.out c.end.new.out c.do_command-ended.result c.end.result c.end.ensures in
    omega (arith, before, behind)

pub returns-in-Some-clause-sink_honest : goal.returns-in-Some-clause-sink_honest
returns-in-Some-clause-sink_honest g c =
    ends_honest g.K.Sink c.do_command-ended.new.out c.end.new.out c.do_command-ended.result c.end.result c.end.ensures ∙ c.do_command-ended.ensures.sink_honest

pub returns-in-None-clause-ran : goal.returns-in-None-clause-ran
returns-in-None-clause-ran g c =
    let words = ap (λ ws. command_in (map string_bytes ws)) (sym c.as_slice.ensures.value) ∙ (sym c.command_by.ensures ∙ c.in-None.is) in
    rw words
    (no_row c.end-in-None.result refl
    (record {
      source = stood _ _ refl;
      disk = stood _ _ refl;
      sink = sink_moved g.K.Sink c.args.out.now c.end-in-None.new.out (Err stops.Usage) c.end-in-None.result (g.K.Sink.faults c.args.out.now) (omega arith) (stood _ _ refl) c.end-in-None.ensures;
    })
    c.end-in-None.ensures)
