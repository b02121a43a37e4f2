use Rattle.std.proofs.Common.{Ok, Err, refl, subst, take}
use Rattle.web_session.specs.Heads.{Judges}
use Rattle.web_session.proofs.NextRequestLemmas.{tell_end, tell_whole, tell_short}
use Rattle.web_session.proofs.next_request.await_request.Goals as goal

pub returns-in-Err-clause-request : goal.returns-in-Err-clause-request
returns-in-Err-clause-request g c honest found =
    tell_end c.args.held.now.items (g.L.Connection.tells c.args.link.now).left c.args.end (Err c.in-Err.status) _ c.requires.within found
    (subst (λ l. Judges (take c.args.end l) (Err c.in-Err.status)) c.deref.ensures.value c.in-Err.ensures.said) refl

pub returns-then-branch-clause-request : goal.returns-then-branch-clause-request
returns-then-branch-clause-request g c honest found =
    tell_end c.args.held.now.items (g.L.Connection.tells c.args.link.now).left c.args.end (Ok c.in-Ok.head) _ c.requires.within found
    (subst (λ l. Judges (take c.args.end l) (Ok c.in-Ok.head)) c.deref.ensures.value c.in-Ok.ensures.said)
    (tell_whole _ c.await_bytes.new.held.items (g.L.Connection.tells c.await_bytes.new.link).left c.args.end c.in-Ok.head _ refl
    (c.in_ok-await_bytes-in-Ok.ensures.bytes honest)
    (c.in_ok-await_bytes-in-Ok.ensures.enough c.if-branch.true))

pub returns-else-branch-clause-request : goal.returns-else-branch-clause-request
returns-else-branch-clause-request g c honest found =
    tell_end c.args.held.now.items (g.L.Connection.tells c.args.link.now).left c.args.end (Ok c.in-Ok.head) _ c.requires.within found
    (subst (λ l. Judges (take c.args.end l) (Ok c.in-Ok.head)) c.deref.ensures.value c.in-Ok.ensures.said)
    (tell_short _ c.await_bytes.new.held.items (g.L.Connection.tells c.await_bytes.new.link).left c.args.end c.in-Ok.head _ refl
    (c.in_ok-await_bytes-in-Ok.ensures.bytes honest)
    (c.in_ok-await_bytes-in-Ok.ensures.end honest c.if-branch.false)
    (c.in_ok-await_bytes-in-Ok.ensures.few c.if-branch.false))
