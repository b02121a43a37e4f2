use Rattle.std.proofs.Common.{rules, ◌≡◌, [], None, length, reverse, ap}
use Rattle.io_traits.specs.DiskState.{IsHonest, EachMoment}
use Rattle.log_machine.specs.Submits.{Submits, RecoversOnWay}
use Rattle.log_machine.specs.declared.reply.LogReply.TheVariants.{NoMemory}
use Rattle.log_desks.specs.Notes.{Notes}
use Rattle.log_desks.proofs.Going.{goes, is_turn}
use Rattle.log_desks.proofs.Reaching.{reaches}
use Rattle.log_desks.proofs.shared.SharedListLockedState.submit.Goals as goal

pub returns-clause-goes : goal.returns-clause-goes
returns-clause-goes g c =
    let old = c.args.self.now in
    let new = c.submit_guessing-reply.new.self in
    let turned : Submits g.R.StateMachine.semantics old.history old.pending c.args.operation.operation c.submit_guessing-reply.result new.history new.pending = rw (← c.self.view_is) c.submit_guessing-reply.ensures.submit in
    let front : c.front-front.result ≡ length old.history = search rules in
    let noted : Notes g.R.SingleEntryMachine.adds c.args.operation.by (length old.history) c.submit_guessing-reply.result old.log old.waiting (reverse c.note.new.log.items) c.note.new.waiting = search rules in
    goes g.R.StateMachine.semantics g.R.SingleEntryMachine.own g.R.SingleEntryMachine.adds g.met.R.SingleEntryMachine.own_added g.met.R.SingleEntryMachine.adds_added
    old.history old.pending old.log old.waiting (g.D.Disk.faults old.disk) (g.D.Disk.tells old.disk).honest
    new.history new.pending (reverse c.note.new.log.items) c.note.new.waiting (g.D.Disk.faults new.disk) (g.D.Disk.tells new.disk).honest
    c.args.operation.operation c.args.operation.by (search rules) c.submit_guessing-reply.result turned noted

pub returns-clause-meets : goal.returns-clause-meets
returns-clause-meets g c =
    let old = c.args.self.now in
    let new = c.submit_guessing-reply.new.self in
    let turned : Submits g.R.StateMachine.semantics old.history old.pending c.args.operation.operation c.submit_guessing-reply.result new.history new.pending = rw (← c.self.view_is) c.submit_guessing-reply.ensures.submit in
    is_turn g.R.StateMachine.semantics g.R.SingleEntryMachine.own g.R.SingleEntryMachine.adds g.met.R.SingleEntryMachine.own_added g.met.R.SingleEntryMachine.adds_added
    old.history old.pending old.log old.waiting (g.D.Disk.faults old.disk) (g.D.Disk.tells old.disk).honest
    new.history new.pending (reverse c.note.new.log.items) c.note.new.waiting (g.D.Disk.faults new.disk) (g.D.Disk.tells new.disk).honest
    c.args.operation.operation c.args.operation.by c.submit_guessing-reply.result turned

pub returns-clause-reaches : goal.returns-clause-reaches
returns-clause-reaches g c start reached =
    let old = c.args.self.now in
    let new = c.submit_guessing-reply.new.self in
    let reply = c.submit_guessing-reply.result in
    let turned : Submits g.R.StateMachine.semantics old.history old.pending c.args.operation.operation reply new.history new.pending = rw (← c.self.view_is) c.submit_guessing-reply.ensures.submit in
    let honest : (g.D.Disk.tells new.disk).honest ≡ (g.D.Disk.tells old.disk).honest = rw (← c.self.view_is) c.submit_guessing-reply.ensures.honest in
    let way : IsHonest (g.D.Disk.tells old.disk) → EachMoment (g.D.Disk.tells old.disk) (g.D.Disk.tells new.disk) (RecoversOnWay g.R.StateMachine.scheme old.history old.pending new.history new.pending) = rw (← c.self.view_is) c.submit_guessing-reply.ensures.way in
    let none : reply ≡ NoMemory → new.disk ≡ old.disk = rw (← c.self.view_is) (λ e. ap (λ k. k.disk) (c.submit_guessing-reply.ensures.no_memory e)) in
    reaches g.D.Disk g.R.StateMachine.scheme g.M.Since.moment g.M.Since.already g.R.StateMachine.semantics start old (record { disk = new.disk; history = new.history; pending = new.pending; room = 0; log = []; waiting = None }) c.args.operation.operation reply none turned honest way reached
