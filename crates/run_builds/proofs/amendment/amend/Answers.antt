use Rattle.run_builds.proofs.Made.{amend_moved, complete, made, moments, not_made, refused, untouched}
use Rattle.run_builds.proofs.amendment.amend.Goals as goal

pub returns-clause-amending : goal.returns-clause-amending
returns-clause-amending g c =
    let done = c.read_and_amend-end in
    let ends = rw c.as_slice.ensures.value at c.tell.ensures in
    record {
      end = done.result.0;
      text = done.result.1.items;
      amends = done.ensures.amends;
      cause = record {
        input = done.ensures.input_cause;
        source = done.ensures.source_cause;
        target = done.ensures.target_cause;
        sink = amend_moved g.K.Sink c.args.out.now c.tell.new.out done.result.0 done.result.1.items c.tell.result ends;
      };
      ends = ends;
    }

pub returns-clause-untouched : goal.returns-clause-untouched
returns-clause-untouched g c honest =
    let done = c.read_and_amend-end in
    untouched g.A.Disk g.B.Disk c.args.request.stamp c.args.request.number _ c.args.source c.args.target done.result.3 done.result.0 done.result.1.items done.ensures.amends honest

pub returns-clause-not_made : goal.returns-clause-not_made
returns-clause-not_made g c one =
    let done = c.read_and_amend-end in
    not_made g.A.Disk g.B.Disk c.args.request.stamp c.args.request.number _ c.args.source c.args.target done.result.3 g.K.Sink c.args.out.now c.tell.new.out done.result.0 done.result.1.items c.tell.result
    done.ensures.amends (rw c.as_slice.ensures.value at c.tell.ensures) one

pub returns-clause-moments : goal.returns-clause-moments
returns-clause-moments g c past sincere recovers frank honest =
    let done = c.read_and_amend-end in
    moments g.A.Disk g.B.Disk c.args.request.stamp c.args.request.number _ c.args.source c.args.target done.result.3 g.met.B.Disk.only_now done.result.0 done.result.1.items done.ensures.amends past sincere recovers frank honest

pub returns-clause-made : goal.returns-clause-made
returns-clause-made g c past none sincere recovers frank =
    let done = c.read_and_amend-end in
    made g.A.Disk g.B.Disk c.args.request.stamp c.args.request.number _ c.args.source c.args.target done.result.3 g.K.Sink c.args.out.now c.tell.new.out done.result.0 done.result.1.items c.tell.result
    done.ensures.amends (rw c.as_slice.ensures.value at c.tell.ensures) none past sincere recovers frank

pub returns-clause-refused : goal.returns-clause-refused
returns-clause-refused g c past one sincere recovers frank =
    let done = c.read_and_amend-end in
    refused g.A.Disk g.B.Disk c.args.request.stamp c.args.request.number _ c.args.source c.args.target done.result.3 g.K.Sink c.args.out.now c.tell.new.out done.result.0 done.result.1.items c.tell.result
    done.ensures.amends (rw c.as_slice.ensures.value at c.tell.ensures) one past sincere recovers frank

pub returns-clause-complete : goal.returns-clause-complete
returns-clause-complete g c office honest unborn short no_input no_source no_target no_sink =
    let done = c.read_and_amend-end in
    let ends = rw c.as_slice.ensures.value at c.tell.ensures in
    complete g.A.Disk g.B.Disk c.args.request.stamp c.args.request.number _ c.args.source c.args.target done.result.3 g.K.Sink c.args.out.now c.tell.new.out office honest unborn short
    (record {
      input = (g.S.Source.faults c.args.input.now, g.S.Source.faults c.read_and_amend-end.new.input);
      source = (g.A.Disk.faults c.args.source, g.A.Disk.faults done.result.2);
      target = (g.B.Disk.faults c.args.target, g.B.Disk.faults done.result.3);
      sink = (g.K.Sink.faults c.args.out.now, g.K.Sink.faults c.tell.new.out);
    })
    no_input no_source no_target done.result.0 done.result.1.items c.tell.result done.ensures.amends
    (record {
      input = done.ensures.input_cause;
      source = done.ensures.source_cause;
      target = done.ensures.target_cause;
      sink = amend_moved g.K.Sink c.args.out.now c.tell.new.out done.result.0 done.result.1.items c.tell.result ends;
    })
    ends no_sink
