use Rattle.std.proofs.Common.{◌∙◌, Err, arith, refl, sym}
use Rattle.log_machine.proofs.Histories.{recovers_once}
use Rattle.log_runs.specs.Lists.{did, no_row}
use Rattle.log_runs.specs.declared.stop.RunStop.TheVariants as stops
use Rattle.log_runs.proofs.EndLaws.{done_at, ends_honest, ends_later, sink_moved, stood}
use Rattle.log_runs.proofs.ListImages.{excused_by, list_moments, stands_by}
use Rattle.log_runs.proofs.Shown.{ends_done, ends_show}
use Rattle.log_runs.proofs.list.run_list.Goals as goal

pub returns-in-Some-clause-ran : goal.returns-in-Some-clause-ran
returns-in-Some-clause-ran g c =
    let done = c.do_command-ended in
    rw c.in-Some.is
    (did c.in-Some.command done.new.out done.result.0 c.end.result done.ensures.does done.ensures.sink_honest
    (record {
      source = done.ensures.source;
      disk = done.ensures.disk;
      sink = sink_moved g.K.Sink done.new.out c.end.new.out done.result.0 c.end.result (g.K.Sink.faults c.args.out.now) done.ensures.sink_later done.ensures.sink c.end.ensures;
    })
    c.end.ensures)

pub returns-in-Some-clause-moments : goal.returns-in-Some-clause-moments
returns-in-Some-clause-moments g c past honest each =
    let done = c.do_command-ended in
    rw c.in-Some.is
    (list_moments g.D.Disk g.R.StateMachine.scheme g.met.D.Disk.only_now g.met.D.Disk.reads_as_image g.R.StateMachine.semantics _ _
    (λ file one other stands also. recovers_once g.R.StateMachine.scheme g.met.R.StateMachine.alone file one other stands also) _ _ _ _ c.in-Some.command _ past done.ensures.does honest each)

pub returns-in-Some-clause-stands : goal.returns-in-Some-clause-stands
returns-in-Some-clause-stands g c it past is well honest stood =
    let done = c.do_command-ended in
    stands_by g.D.Disk g.R.StateMachine.scheme g.met.D.Disk.only_now g.met.D.Disk.reads_as_image g.R.StateMachine.semantics _ _
    (λ file one other stands also. recovers_once g.R.StateMachine.scheme g.met.R.StateMachine.alone file one other stands also) _ _ _ _ c.in-Some.command it _ past (sym c.in-Some.is ∙ is) done.ensures.does
    (done_at g.K.Sink done.new.out c.end.new.out done.result.0 c.end.result c.end.ensures well) honest stood

pub returns-in-Some-clause-shows : goal.returns-in-Some-clause-shows
returns-in-Some-clause-shows g c =
    let done = c.do_command-ended in
    ends_show g.K.Sink done.new.out c.end.new.out _ done.result.0 c.end.result
    (record {
      source = done.ensures.source;
      disk = done.ensures.disk;
      sink = sink_moved g.K.Sink done.new.out c.end.new.out done.result.0 c.end.result (g.K.Sink.faults c.args.out.now) done.ensures.sink_later done.ensures.sink c.end.ensures;
    })
    c.end.ensures

pub returns-in-Some-clause-complete : goal.returns-in-Some-clause-complete
returns-in-Some-clause-complete g c it is can no_source no_sink no_disk =
    let done = c.do_command-ended in
    ends_done g.K.Sink
    (record {
      source = (g.S.Source.faults c.args.input.now, g.S.Source.faults done.new.input);
      sink = (g.K.Sink.faults c.args.out.now, g.K.Sink.faults c.end.new.out);
      disk = (g.D.Disk.faults c.args.disk, g.D.Disk.faults done.result.1);
    })
    done.new.out c.end.new.out done.result.0 c.end.result
    (record {
      source = done.ensures.source;
      disk = done.ensures.disk;
      sink = sink_moved g.K.Sink done.new.out c.end.new.out done.result.0 c.end.result (g.K.Sink.faults c.args.out.now) done.ensures.sink_later done.ensures.sink c.end.ensures;
    })
    c.end.ensures
    (excused_by g.D.Disk g.R.StateMachine.scheme g.met.D.Disk.only_now g.met.D.Disk.reads_as_image g.R.StateMachine.semantics _ _
    (λ file one other stands also. recovers_once g.R.StateMachine.scheme g.met.R.StateMachine.alone file one other stands also) _ _ _ _ c.in-Some.command it _ (sym c.in-Some.is ∙ is) done.ensures.does can)
    no_source no_sink no_disk

pub returns-in-Some-clause-sink_later : goal.returns-in-Some-clause-sink_later
returns-in-Some-clause-sink_later g c =
    let before = c.do_command-ended.ensures.sink_later in
    let behind = ends_later g.K.Sink c.do_command-ended.new.out c.end.new.out c.do_command-ended.result.0 c.end.result c.end.ensures in
    omega (arith, before, behind)

pub returns-in-Some-clause-sink_honest : goal.returns-in-Some-clause-sink_honest
returns-in-Some-clause-sink_honest g c =
    ends_honest g.K.Sink c.do_command-ended.new.out c.end.new.out c.do_command-ended.result.0 c.end.result c.end.ensures ∙ c.do_command-ended.ensures.sink_honest

pub returns-in-None-clause-ran : goal.returns-in-None-clause-ran
returns-in-None-clause-ran g c =
    rw c.in-None.is
    (no_row c.end-in-None.result refl refl
    (record {
      source = stood _ _ refl;
      disk = stood _ _ refl;
      sink = sink_moved g.K.Sink c.args.out.now c.end-in-None.new.out (Err stops.Usage) c.end-in-None.result (g.K.Sink.faults c.args.out.now) (omega arith) (stood _ _ refl) c.end-in-None.ensures;
    })
    c.end-in-None.ensures)
