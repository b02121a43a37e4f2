use Rattle.log_runs.proofs.Puts.{puts_of}
use Rattle.log_runs.proofs.ending.put.Goals as goal

pub returns : goal.returns
returns g c =
    let e = c.write_whole.ensures in
    puts_of g.K.Sink c.args.bytes.now c.write_whole.result c.args.out.now c.write_whole.new.sink e.honest e.written e.failed e.later e.cause e.unmoved
