use Rattle.std.proofs.Common.{◌≡◌, ◌≢◌, Bool, false, not, Option, Some, None, sym, ap, ◌∙◌}
use Rattle.std.specs.Prelude.{is_some}
use Rattle.log_machine.specs.declared.machine.NewEntry.{NewEntry}
use Rattle.log_machine.specs.NewEntry.{entry_of}
use Rattle.log_machine.proofs.Sound.{still_whole, settled_whole, settling_moments, undecided_stands}
use Rattle.log_machine.proofs.log.Log.settle.Goals as goal

isnt_none : {Entry Ruling : Type 0} (o : Option (NewEntry Entry Ruling)) (r : Bool) → is_some o ≡ not r → r ≡ false → entry_of o ≢ None
isnt_none None r is shut none = cc (is, ap not shut)
isnt_none (Some e) r is shut none = cc

pub settle-requires-clause-stands : goal.settle-requires-clause-stands
settle-requires-clause-stands g c honest =
    let i = c.self.inside in
    undecided_stands g.D.Disk g.R.StateMachine.scheme i.journal (g.R.StateMachine.history i.machine) (g.R.StateMachine.spare i.machine) (entry_of i.pending) (isnt_none i.pending c.is_none.result c.is_none.ensures c.if-is_none.false) c.self.invariant.0 honest

pub invariant_of-self : goal.invariant_of-self
invariant_of-self g c =
    let i = c.self.inside in (
      still_whole g.D.Disk g.R.StateMachine.scheme g.met.D.Disk.reads_as_image g.met.R.StateMachine.legal_past i.journal c.settle.new.self (g.R.StateMachine.history i.machine) (g.R.StateMachine.spare i.machine) c.settle.ensures.honest
          (entry_of i.pending) (isnt_none i.pending c.is_none.result c.is_none.ensures c.if-is_none.false) c.self.invariant.0 c.in_err-settle.ensures.count_err c.in_err-settle.ensures.undecided_err
          (λ honest b p may. c.in_err-settle.ensures.still honest g.R.StateMachine.scheme.header b p may),
      c.self.invariant.1,
    )

pub invariant_of-self-in-Some : goal.invariant_of-self-in-Some
invariant_of-self-in-Some g c =
    let i = c.self.inside in
    rw c.take.ensures.after (
      settled_whole g.D.Disk g.R.StateMachine.scheme g.met.D.Disk.reads_as_image g.met.R.StateMachine.legal_past i.journal c.settle.new.self (g.R.StateMachine.history i.machine) (g.R.StateMachine.spare i.machine) c.settle.ensures.honest
          (entry_of i.pending) c.in-Some.added.entry (g.R.StateMachine.history c.admit.new.self) (g.R.StateMachine.spare c.admit.new.self) (ap entry_of (sym c.take.ensures.value ∙ c.in-Some.is)) c.self.invariant.0 c.admit.ensures.history c.admit.ensures.room
          c.in_ok-settle.ensures.count c.in_ok-settle.ensures.decided (λ honest b p may. c.in_ok-settle.ensures.kept honest g.R.StateMachine.scheme.header b p may),
      tt,
    )

pub returns-in_err-settle-clause-moments : goal.returns-in_err-settle-clause-moments
returns-in_err-settle-clause-moments g c =
    let i = c.self.inside in
    rw (← c.self.view_is) (λ honest. settling_moments g.D.Disk g.R.StateMachine.scheme g.met.D.Disk.reads_as_image g.met.R.StateMachine.legal_past i.journal _ (g.R.StateMachine.history i.machine) (g.R.StateMachine.spare i.machine)
    (entry_of i.pending) (isnt_none i.pending c.is_none.result c.is_none.ensures c.if-is_none.false) c.self.invariant.0 honest (λ b p may. c.settle.ensures.moments honest g.R.StateMachine.scheme.header b p may))

pub returns-in-Some-clause-moments : goal.returns-in-Some-clause-moments
returns-in-Some-clause-moments g c =
    let i = c.self.inside in
    rw (← c.self.view_is) (λ honest. settling_moments g.D.Disk g.R.StateMachine.scheme g.met.D.Disk.reads_as_image g.met.R.StateMachine.legal_past i.journal _ (g.R.StateMachine.history i.machine) (g.R.StateMachine.spare i.machine)
    (entry_of i.pending) (isnt_none i.pending c.is_none.result c.is_none.ensures c.if-is_none.false) c.self.invariant.0 honest (λ b p may. c.settle.ensures.moments honest g.R.StateMachine.scheme.header b p may))
