use Rattle.std.proofs.Common.{◌∙◌, ◌+◌, ◌-◌, ◌++◌, ℕ, IsTrue, List, [], None, take, ap, length, refl, reverse, sym, subst}
use Rattle.io_traits.specs.DiskState.{EachMoment, IsHonest}
use Rattle.log_machine.specs.Kept.{IsSound}
use Rattle.log_machine.specs.Recovers.{Recovers}
use Rattle.log_machine.specs.Submits.{with_entry}
use Rattle.log_desks.specs.Shares.{RecoversBetween, stand_of}
use Rattle.log_desks.proofs.Going.{entries_filed}
use Rattle.log_desks.proofs.Reaching.{moments_of}
use Rattle.log_runs.specs.Ends.{EndsWith}
use Rattle.log_machine.specs.declared.names.RowName.{RowName}
use Rattle.log_desk_runs.specs.DeskTexts.{admitted_text, desks_status, desks_text}
use Rattle.log_desk_runs.specs.Names.{names_of}
use Rattle.log_desk_runs.specs.RanDesksOn.{FilesAll, unopened, starved}
use Rattle.log_runs.specs.Statuses.{fault_line, status_of}
use Rattle.log_runs.specs.declared.stop.RunStop.TheVariants.{File}
use Rattle.log_desk_runs.proofs.Filers.{files_worked}
use Rattle.log_desk_runs.proofs.desks.file_read.Goals as goal

pub returns-in-Err : goal.returns-in-Err
returns-in-Err g c =
    unopened c.in-Err.error c.end_with.result c.in-Err.ensures.unopened c.in-Err.ensures.cause c.in-Err.ensures.unmoved_err
    (subst (λ s. EndsWith g.K.Sink (fault_line (File s)) (status_of (File s)) c.args.out.now c.end_with.new.out c.end_with.result) c.into.ensures c.end_with.ensures)

pub returns-in-Ok-file_all : goal.returns-in-Ok-file_all
returns-in-Ok-file_all g c =
    let at = c.in-Ok.kept in
    let kept = c.in-Ok-file_all.kept in
    let log = c.in-Ok-file_all.log in
    let e = c.in-Ok-file_all.ensures in
    let opened = c.in-Ok.ensures.opened in
    let past : IsHonest (g.D.Disk.tells kept.disk) → IsHonest (g.D.Disk.tells at.disk) = λ is. subst IsTrue e.ran.1.ran.fixed is in
    let first : IsHonest (g.D.Disk.tells kept.disk) → (file : List ℕ) → (g.D.Disk.tells at.disk).image_since (g.D.Disk.tells at.disk).moment file → Recovers g.R.StateMachine.scheme file at.history =
    λ is file since. opened.images (subst IsTrue opened.honest (past is)) file (c.only_now.ensures at.disk file (past is) since) in
    let moments : IsHonest (g.D.Disk.tells kept.disk) → EachMoment (g.D.Disk.tells at.disk) (g.D.Disk.tells kept.disk) (RecoversBetween g.R.StateMachine.scheme at.history (with_entry kept.pending kept.history)) =
    λ is. moments_of g.D.Disk g.R.StateMachine.scheme (g.D.Disk.tells at.disk).moment (λ t file. (g.D.Disk.tells at.disk).image_since t file) (stand_of at.history None [] None (g.D.Disk.faults at.disk) (g.D.Disk.tells at.disk).honest) at.history at.disk kept.disk kept.history kept.pending
    refl (λ t file has. has) (first is) (entries_filed at.history []) e.reached is in
    files_worked g.R.StateMachine.scheme g.R.StateMachine.semantics g.R.SingleEntryMachine.own g.C.EntryCopies.copied g.C.EntryMatch.same g.L.Rows.texts g.L.Rows.left g.D.Disk g.K.Sink c.args.disk at.disk kept.disk c.close.result.1 c.args.desks.now c.file_all.new.desks at.history kept.history kept.pending (reverse log.items) e.ran.0
    c.front-front.result c.close.result.0 c.args.out.now c.close.new.out c.requires opened c.in-Ok.ensures.unmoved e.ran.1 c.close.ensures.disk
    (subst (λ d. IsHonest (g.D.Disk.tells d) → IsSound g.R.StateMachine.scheme (g.D.Disk.tells d) kept.history kept.pending) (sym c.close.ensures.disk) e.sound) moments
    (c.front-front.ensures.value ∙ ap length c.machine.ensures)
    (subst (λ (l : List RowName). EndsWith g.K.Sink
    (desks_text c.file_all.new.desks ++ admitted_text (c.front-front.result + 1) (names_of g.C.EntryMatch.same c.file_all.new.desks (c.front-front.result + 1) (reverse (take (length kept.history - c.front-front.result) (reverse l)))))
    (desks_status c.file_all.new.desks) c.args.out.now c.close.new.out c.close.result.0) c.deref.ensures.value c.close.ensures.ends)

pub returns-in-Err-file_all : goal.returns-in-Err-file_all
returns-in-Err-file_all g c =
    subst (λ d. FilesAll g.R.StateMachine.scheme g.R.StateMachine.semantics g.R.SingleEntryMachine.own g.C.EntryCopies.copied g.C.EntryMatch.same g.L.Rows.texts g.L.Rows.left g.D.Disk g.K.Sink c.args.disk d c.args.desks.now c.args.out.now c.end_with-in-Err-file_all.new.out c.end_with-in-Err-file_all.result)
    (sym (c.into_disk.ensures.disk ∙ c.in-Err-file_all.ensures.disk))
    (starved c.in-Ok.kept.history c.end_with-in-Err-file_all.result c.in-Ok.ensures.opened c.in-Ok.ensures.unmoved
    (subst (λ s. EndsWith g.K.Sink (fault_line (File s)) (status_of (File s)) c.args.out.now c.end_with-in-Err-file_all.new.out c.end_with-in-Err-file_all.result) c.into-in-Err-file_all.ensures c.end_with-in-Err-file_all.ensures))
