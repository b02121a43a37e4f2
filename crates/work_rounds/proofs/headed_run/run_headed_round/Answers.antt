use Rattle.std.proofs.Common.{◌∙◌, arith, sym}
use Rattle.log_machine.proofs.Histories.{recovers_once}
use Rattle.log_runs.proofs.EndLaws.{done_at, ends_honest, ends_later}
use Rattle.log_runs.proofs.Shown.{ends_done, ends_show}
use Rattle.work_rounds.proofs.Excused.{headed_excused}
use Rattle.work_rounds.proofs.Moments.{moments_of_headed, stands_of_headed}
use Rattle.work_rounds.proofs.HeadedRan.{caused, ran_as, excused_as, done_as}
use Rattle.work_rounds.proofs.headed_run.run_headed_round.Goals as goal

pub returns-clause-ran : goal.returns-clause-ran
returns-clause-ran g c =
    let done = c.do_round-ended in
    let (ended, is, session) = done.ensures.does in
    ran_as g.D.Disk g.K.Sink g.R.StateMachine.scheme g.R.StateMachine.semantics g.P.Rows.Rows.texts (g.P.RoundPlan.plans c.args.plan.now) done.ensures.source done.ensures.sink done.ensures.disk done.ensures.sink_later done.ensures.sink_honest
    ended is session c.end.ensures

pub returns-clause-moments : goal.returns-clause-moments
returns-clause-moments g c past honest each =
    let (ended, is, session) = c.do_round-ended.ensures.does in
    moments_of_headed g.D.Disk g.R.StateMachine.scheme g.R.StateMachine.semantics g.met.D.Disk.only_now g.P.Rows.Rows.texts g.met.P.RoundPlan.apart
    (λ file one other stands also. recovers_once g.R.StateMachine.scheme g.met.R.StateMachine.alone file one other stands also) g.met.D.Disk.reads_as_image (g.P.RoundPlan.plans c.args.plan.now) 16777216 _ _ ended past _ _ honest each session

pub returns-clause-stands : goal.returns-clause-stands
returns-clause-stands g c past well honest reads =
    let done = c.do_round-ended in
    let (ended, is, session) = done.ensures.does in
    stands_of_headed g.D.Disk g.R.StateMachine.scheme g.R.StateMachine.semantics g.met.D.Disk.only_now g.P.Rows.Rows.texts g.met.P.RoundPlan.apart
    (λ file one other stands also. recovers_once g.R.StateMachine.scheme g.met.R.StateMachine.alone file one other stands also) g.met.D.Disk.reads_as_image (g.P.RoundPlan.plans c.args.plan.now) 16777216 _ _ ended past _ _
    (done_as ended (sym is ∙ done_at g.K.Sink done.new.out c.end.new.out done.result.0 c.end.result c.end.ensures well)) honest reads session

pub returns-clause-shows : goal.returns-clause-shows
returns-clause-shows g c =
    let done = c.do_round-ended in
    ends_show g.K.Sink done.new.out c.end.new.out _ done.result.0 c.end.result
    (caused g.K.Sink done.ensures.source done.ensures.sink done.ensures.disk done.ensures.sink_later c.end.ensures) c.end.ensures

pub returns-clause-complete : goal.returns-clause-complete
returns-clause-complete g c short can no_source no_sink no_disk =
    let done = c.do_round-ended in
    let (ended, is, session) = done.ensures.does in
    ends_done g.K.Sink _ done.new.out c.end.new.out done.result.0 c.end.result
    (caused g.K.Sink done.ensures.source done.ensures.sink done.ensures.disk done.ensures.sink_later c.end.ensures) c.end.ensures
    (excused_as ended is (headed_excused g.D.Disk g.R.StateMachine.scheme g.R.StateMachine.semantics g.P.Rows.Rows.texts _ _ _ can (g.P.RoundPlan.plans c.args.plan.now) 16777216 _ ended session short.0 short.1))
    no_source no_sink no_disk

pub returns-clause-sink_later : goal.returns-clause-sink_later
returns-clause-sink_later g c =
    let before = c.do_round-ended.ensures.sink_later in
    let behind = ends_later g.K.Sink c.do_round-ended.new.out c.end.new.out c.do_round-ended.result.0 c.end.result c.end.ensures in
    omega (arith, before, behind)

pub returns-clause-sink_honest : goal.returns-clause-sink_honest
returns-clause-sink_honest g c =
    ends_honest g.K.Sink c.do_round-ended.new.out c.end.new.out c.do_round-ended.result.0 c.end.result c.end.ensures ∙ c.do_round-ended.ensures.sink_honest
