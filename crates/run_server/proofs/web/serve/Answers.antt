use Rattle.std.proofs.Common.{rules, ◌≡◌, ℕ, IsTrue, List, [], ◌++◌, None, length, map, reverse, take, drop, refl, ◌∙◌, sym, ap, subst, arith, Err}
use Rattle.std.proofs.lemmas.List.{take_at}
use Rattle.io_traits.specs.DiskState.{EachMoment, IsHonest}
use Rattle.log_machine.specs.Kept.{IsSound}
use Rattle.log_machine.specs.Recovers.{Recovers}
use Rattle.log_machine.specs.Submits.{with_entry}
use Rattle.office_log.specs.Scheme.{office_scheme}
use Rattle.office_log.specs.Submits.{filing_asked, filing_semantics}
use Rattle.log_stamps.specs.Rows.{semantics_under, own_under}
use Rattle.log_desks.specs.Shares.{RecoversBetween, stand_of}
use Rattle.log_desks.proofs.Going.{entries_filed}
use Rattle.log_desks.proofs.Reaching.{moments_of}
use Rattle.log_runs.specs.Ends.{Ends}
use Rattle.web_workers.specs.Workers.{HasServed, ports_of, worker_of}
use Rattle.run_server.specs.OfficeApi.{office_web}
use Rattle.run_server.specs.RanWeb.{CanServe, RanWeb, starved, unasked, unopened, web_end}
use Rattle.log_runs.specs.declared.stop.RunStop.TheVariants.{File}
use Rattle.run_server.proofs.WebCauses.{ports_back, web_served}
use Rattle.run_server.proofs.web.serve.Goals as goal

pub returns-then-not-can_serve : goal.returns-then-not-can_serve
returns-then-not-can_serve g c = unasked c.end.result (search rules) refl refl c.end.ensures

pub returns-in-Err : goal.returns-in-Err
returns-in-Err g c =
    unopened c.in-Err.error c.end-in-Err.result (search rules) c.in-Err.ensures.unopened c.in-Err.ensures.cause c.in-Err.ensures.unmoved_err refl
    (subst (λ s. Ends g.K.Sink c.args.out.now c.end-in-Err.new.out (Err (File s)) c.end-in-Err.result) c.into.ensures c.end-in-Err.ensures)

pub returns-in_default : goal.returns-in_default
returns-in_default g c =
    subst (λ d. RanWeb g.D.Disk g.K.Sink g.P.Acceptor.tells g.P.Acceptor.faults c.args.sessions c.args.stamp c.args.disk d c.args.ports.now.items c.into_workers.new.ports.items c.args.out.now c.end-in_default.new.out c.end-in_default.result)
    (sym c.into_disk.ensures.disk)
    (starved c.in-Ok.kept.history c.end-in_default.result (search rules) c.in-Ok.ensures.opened c.in-Ok.ensures.unmoved (ap (λ v. v.items) c.in_default.ensures.same)
    (subst (λ s. Ends g.K.Sink c.args.out.now c.end-in_default.new.out (Err (File s)) c.end-in_default.result) c.into-2.ensures c.end-in_default.ensures))

pub serve_ports-requires-clause-few : goal.serve_ports-requires-clause-few
serve_ports-requires-clause-few g c κs within =
    let can : CanServe (length c.args.ports.now.items) c.args.sessions = search (rules, c.can_serve.ensures.yes c.if-not-can_serve.false) in
    omega (arith, ap length c.deref_mut.ensures.value, c.in-Ok-into_workers.ensures.count, can.few)

pub returns-in-Ok-serve_ports : goal.returns-in-Ok-serve_ports
returns-in-Ok-serve_ports g c =
    let laws = (g.met.D.Disk g.world.𝓛 g.world.𝓜 g.world.𝓡 ((λ s x. x), (λ x. x), (λ x. x), λ x. x)) in
    let at = c.in-Ok.kept in
    let kept = c.in-Ok-serve_ports.kept in
    let e = c.in-Ok-serve_ports.ensures in
    let opened = c.in-Ok.ensures.opened in
    let workers = c.serve_ports.new.workers in
    let made : c.deref_mut.result.now ≡ map worker_of c.args.ports.now.items = c.deref_mut.ensures.value ∙ c.in-Ok-into_workers.ensures.workers in
    let items = c.in-Ok-into_workers.workers.items in
    let size : length workers ≡ c.in-Ok-into_workers.workers.len = omega (arith, e.workers, ap length c.deref_mut.ensures.value, c.in-Ok-into_workers.workers.ok) in
    let all : take c.in-Ok-into_workers.workers.len (workers ++ drop (length workers) items) ≡ workers = take_at workers (drop (length workers) items) c.in-Ok-into_workers.workers.len size in
    let back : c.give_back.new.ports.items ≡ ports_of workers = c.give_back.ensures ∙ ap (λ l. l ++ ports_of (take c.in-Ok-into_workers.workers.len (workers ++ drop (length workers) items))) c.in-Ok-into_workers.ensures.emptied ∙ ap ports_of all in
    let ended : c.web_end.result ≡ web_end workers = c.web_end.ensures ∙ ap web_end (c.deref.ensures.value ∙ all) in
    let can : CanServe (length c.args.ports.now.items) c.args.sessions = search (rules, c.can_serve.ensures.yes c.if-not-can_serve.false) in
    let was : IsHonest (g.D.Disk.tells kept.disk) → IsHonest (g.D.Disk.tells at.disk) = λ is. subst IsTrue e.served.1.ran.fixed is in
    let first : IsHonest (g.D.Disk.tells kept.disk) → (file : List ℕ) → (g.D.Disk.tells at.disk).image_since (g.D.Disk.tells at.disk).moment file → Recovers office_scheme file at.history =
    λ is file since. opened.images (subst IsTrue opened.honest (was is)) file (laws.only_now at.disk file (was is) since) in
    let moments : IsHonest (g.D.Disk.tells kept.disk) → EachMoment (g.D.Disk.tells at.disk) (g.D.Disk.tells kept.disk) (RecoversBetween office_scheme at.history (with_entry kept.pending kept.history)) =
    λ is. moments_of g.D.Disk office_scheme (g.D.Disk.tells at.disk).moment (λ t file. (g.D.Disk.tells at.disk).image_since t file) (stand_of at.history None [] None (g.D.Disk.faults at.disk) (g.D.Disk.tells at.disk).honest) at.history at.disk kept.disk kept.history kept.pending
    refl (λ t file has. has) (first is) (entries_filed at.history []) e.reached is in
    web_served g.D.Disk g.K.Sink g.P.Acceptor.tells g.P.Acceptor.faults c.args.sessions c.args.stamp c.args.disk at.disk kept.disk c.into_disk-in-Ok-serve_ports.result c.args.ports.now.items c.give_back.new.ports.items workers at.history kept.history kept.pending (reverse c.in-Ok-serve_ports.field-0-1.items) e.served.0
    c.args.out.now c.end-status.new.out c.end-status.result c.web_end.result can opened c.in-Ok.ensures.unmoved
    (subst (λ before. HasServed (semantics_under c.args.stamp filing_semantics) (own_under c.args.stamp filing_asked) office_web g.P.Acceptor.tells g.P.Acceptor.faults c.args.sessions (stand_of at.history None [] None (g.D.Disk.faults at.disk) (g.D.Disk.tells at.disk).honest) (stand_of kept.history kept.pending (reverse c.in-Ok-serve_ports.field-0-1.items) e.served.0 (g.D.Disk.faults kept.disk) (g.D.Disk.tells kept.disk).honest) before workers) made e.served.1)
    back c.into_disk-in-Ok-serve_ports.ensures.disk
    (subst (λ d. IsHonest (g.D.Disk.tells d) → IsSound office_scheme (g.D.Disk.tells d) kept.history kept.pending) (sym c.into_disk-in-Ok-serve_ports.ensures.disk) e.sound) moments ended c.end-status.ensures

pub returns : goal.returns
returns g c =
    let ports = c.args.ports.now.items in
    let made : c.deref_mut.result.now ≡ map worker_of ports = c.deref_mut.ensures.value ∙ c.in-Ok-into_workers.ensures.workers in
    let workers = c.serve_ports.new.workers in
    let items = c.in-Ok-into_workers.workers.items in
    let size : length workers ≡ c.in-Ok-into_workers.workers.len = omega (arith, c.in-Err-serve_ports.ensures.workers, ap length c.deref_mut.ensures.value, c.in-Ok-into_workers.workers.ok) in
    let all : take c.in-Ok-into_workers.workers.len (workers ++ drop (length workers) items) ≡ workers = take_at workers (drop (length workers) items) c.in-Ok-into_workers.workers.len size in
    let back : c.give_back-in-Err-serve_ports.new.ports.items ≡ ports_of workers = c.give_back-in-Err-serve_ports.ensures ∙ ap (λ l. l ++ ports_of (take c.in-Ok-into_workers.workers.len (workers ++ drop (length workers) items))) c.in-Ok-into_workers.ensures.emptied ∙ ap ports_of all in
    let can : CanServe (length ports) c.args.sessions = search (rules, c.can_serve.ensures.yes c.if-not-can_serve.false) in
    let same : c.give_back-in-Err-serve_ports.new.ports.items ≡ ports = back ∙ ap ports_of (c.in-Err-serve_ports.ensures.same ∙ made) ∙ ports_back ports in
    subst (λ d. RanWeb g.D.Disk g.K.Sink g.P.Acceptor.tells g.P.Acceptor.faults c.args.sessions c.args.stamp c.args.disk d ports c.give_back-in-Err-serve_ports.new.ports.items c.args.out.now c.end-in-Err-serve_ports.new.out c.end-in-Err-serve_ports.result)
    (sym (c.into_disk-in-Err-serve_ports.ensures.disk ∙ c.in-Err-serve_ports.ensures.disk))
    (starved c.in-Ok.kept.history c.end-in-Err-serve_ports.result can c.in-Ok.ensures.opened c.in-Ok.ensures.unmoved same
    (subst (λ s. Ends g.K.Sink c.args.out.now c.end-in-Err-serve_ports.new.out (Err (File s)) c.end-in-Err-serve_ports.result) c.into-2.ensures c.end-in-Err-serve_ports.ensures))
