use Rattle.run_builds.proofs.Ended.{complete, copied_and_told, moments, told_moved, untouched}
use Rattle.run_builds.proofs.upgrading.upgrade.Goals as goal

pub returns-clause-upgrades : goal.returns-clause-upgrades
returns-clause-upgrades g c =
    let done = c.read_and_copy-end in
    record {
      end = done.result.0;
      copies = done.ensures.copies;
      cause = record {
        source = done.ensures.source_cause;
        target = done.ensures.target_cause;
        sink = told_moved g.K.Sink c.args.out.now c.tell.new.out done.result.0 c.tell.result c.tell.ensures;
      };
      ends = c.tell.ensures;
    }

pub returns-clause-untouched : goal.returns-clause-untouched
returns-clause-untouched g c honest =
    let done = c.read_and_copy-end in
    untouched g.A.Disk g.B.Disk c.args.source c.args.target done.result.2 done.result.0 done.ensures.copies honest

pub returns-clause-moments : goal.returns-clause-moments
returns-clause-moments g c history sincere recovers =
    let done = c.read_and_copy-end in
    moments g.A.Disk g.B.Disk c.args.source c.args.target done.result.2 g.met.B.Disk.only_now done.result.0 done.ensures.copies history sincere recovers

pub returns-clause-copied : goal.returns-clause-copied
returns-clause-copied g c history none sincere recovers honest =
    let done = c.read_and_copy-end in
    (copied_and_told g.A.Disk g.B.Disk c.args.source c.args.target done.result.2 g.K.Sink c.args.out.now c.tell.new.out done.result.0 c.tell.result c.tell.ensures done.ensures.copies none history sincere recovers).0 honest

pub returns-clause-told : goal.returns-clause-told
returns-clause-told g c history none sincere recovers sound =
    let done = c.read_and_copy-end in
    (copied_and_told g.A.Disk g.B.Disk c.args.source c.args.target done.result.2 g.K.Sink c.args.out.now c.tell.new.out done.result.0 c.tell.result c.tell.ensures done.ensures.copies none history sincere recovers).1.written sound

pub returns-clause-complete : goal.returns-clause-complete
returns-clause-complete g c office honest unborn no_source no_target no_sink =
    let done = c.read_and_copy-end in
    complete g.A.Disk g.B.Disk c.args.source c.args.target done.result.2 g.K.Sink c.args.out.now c.tell.new.out office honest unborn
    (record {
      source = (g.A.Disk.faults c.args.source, g.A.Disk.faults done.result.1);
      target = (g.B.Disk.faults c.args.target, g.B.Disk.faults done.result.2);
      sink = (g.K.Sink.faults c.args.out.now, g.K.Sink.faults c.tell.new.out);
    })
    no_source no_target done.result.0 c.tell.result done.ensures.copies
    (record {
      source = done.ensures.source_cause;
      target = done.ensures.target_cause;
      sink = told_moved g.K.Sink c.args.out.now c.tell.new.out done.result.0 c.tell.result c.tell.ensures;
    })
    c.tell.ensures no_sink
