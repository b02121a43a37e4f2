use Rattle.log_machine.specs.NewEntry.{entry_of}
use Rattle.log_machine.proofs.Sound.{same_whole}
use Rattle.log_machine.proofs.log.Log.allow_lengthening.Goals as goal

pub invariant_of-self : goal.invariant_of-self
invariant_of-self g c =
    let i = c.self.inside in
    let same = c.allow_lengthening.ensures in (
      same_whole g.D.Disk g.R.StateMachine.scheme i.journal c.allow_lengthening.new.self (g.R.StateMachine.history i.machine) (g.R.StateMachine.spare i.machine) (entry_of i.pending)
          same.disk same.kept same.may_keep same.count same.decided same.undecided c.self.invariant.0,
      c.self.invariant.1,
    )
