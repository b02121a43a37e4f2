use Rattle.run_builds.proofs.Compared.{changes_moved, complete, shown}
use Rattle.run_builds.proofs.comparing.changes.Goals as goal

pub returns-clause-comparing : goal.returns-clause-comparing
returns-clause-comparing g c =
    let done = c.read_and_compare-end in
    let ends = rw c.as_slice.ensures.value at c.tell.ensures in
    record {
      end = done.result.0;
      text = done.result.1.items;
      compares = done.ensures.compares;
      cause = record {
        old = done.ensures.old_cause;
        new = done.ensures.new_cause;
        sink = changes_moved g.K.Sink c.args.out.now c.tell.new.out done.result.0 done.result.1.items c.tell.result ends;
      };
      ends = ends;
    }

pub returns-clause-shown : goal.returns-clause-shown
returns-clause-shown g c past now none sincere recovers frank reads tells =
    let done = c.read_and_compare-end in
    shown g.A.Disk g.B.Disk c.args.old c.args.new g.K.Sink c.args.out.now c.tell.new.out done.result.0 done.result.1.items c.tell.result done.ensures.compares
    (rw c.as_slice.ensures.value at c.tell.ensures) none past now sincere recovers frank reads tells

pub returns-clause-complete : goal.returns-clause-complete
returns-clause-complete g c office also no_old no_new no_sink =
    let done = c.read_and_compare-end in
    let ends = rw c.as_slice.ensures.value at c.tell.ensures in
    complete g.A.Disk g.B.Disk c.args.old c.args.new g.K.Sink c.args.out.now c.tell.new.out
    (record {
      old = (g.A.Disk.faults c.args.old, g.A.Disk.faults done.result.2);
      new = (g.B.Disk.faults c.args.new, g.B.Disk.faults done.result.3);
      sink = (g.K.Sink.faults c.args.out.now, g.K.Sink.faults c.tell.new.out);
    })
    done.result.0 done.result.1.items c.tell.result done.ensures.compares
    (record {
      old = done.ensures.old_cause;
      new = done.ensures.new_cause;
      sink = changes_moved g.K.Sink c.args.out.now c.tell.new.out done.result.0 done.result.1.items c.tell.result ends;
    })
    ends office also no_old no_new no_sink
