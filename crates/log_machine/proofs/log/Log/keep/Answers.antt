use Rattle.std.proofs.Common.{◌∙◌, IsTrue, Option, None, ap, arith, rules, subst, sym}
use Rattle.log_machine.specs.Kept.{Kept, IsWhole}
use Rattle.log_machine.specs.Recovers.{payloads_of}
use Rattle.log_machine.specs.NewEntry.{entry_of}
use Rattle.log_machine.proofs.Sound.{IsPut, none_ruled, left_whole, refused_whole, kept_whole, put_moments, not_put_moments}
use Rattle.log_machine.proofs.log.Log.keep.Goals as goal

pub invariant_of-self-then-this : goal.invariant_of-self-then-this
invariant_of-self-then-this g c =
    let scheme = g.R.StateMachine.scheme in
    let i = c.self.inside in
    let h = g.R.StateMachine.history i.machine in
    let admitted : IsTrue (scheme.admits h c.args.added.entry) = subst (λ (k : Kept g.row.D.Denot g.row.R-Entry.Denot). IsTrue (scheme.admits k.history c.args.added.entry)) (sym c.self.view_is) c.requires.admitted in
    let ruled : g.R.StateMachine.IsRuling h c.args.added.entry c.args.added.ruling =
    subst (λ (k : Kept g.row.D.Denot g.row.R-Entry.Denot). g.R.StateMachine.IsRuling k.history c.args.added.entry c.args.added.ruling) (sym c.self.view_is) c.requires.ruled in
    let put : IsPut g.D.Disk scheme i.journal c.lengthen_and_put.new.journal h (g.R.StateMachine.spare i.machine) (entry_of i.pending) c.args.added.entry c.bytes.result.now = record {
      none = ap (λ k. k.pending) c.self.view_is ∙ c.requires.decided;
      whole = c.self.invariant.0;
      same = c.lengthen_and_put.ensures.honest;
      spelled = c.bytes.ensures.held ∙ c.encode.ensures.spelled;
      is_entry = c.encode.ensures.in_range;
      admitted = admitted;
      legal = λ legal. g.met.R.StateMachine.admitted_legal h c.args.added.entry legal admitted;
    } in (
      left_whole g.D.Disk scheme g.met.D.Disk.reads_as_image g.met.R.StateMachine.legal_past i.journal c.lengthen_and_put.new.journal h (g.R.StateMachine.spare i.machine) (entry_of i.pending) c.args.added.entry c.bytes.result.now put
          c.in-Err-DiskFault-true.ensures.count_err (search rules) (omega (arith, ap (λ k. k.room) c.self.view_is, c.requires.room))
          (λ honest keeps. c.in-Err-DiskFault-true.ensures.undecided honest scheme.header (payloads_of scheme.spelling h) keeps (search rules)),
      ruled,
    )

pub invariant_of-self-else-this : goal.invariant_of-self-else-this
invariant_of-self-else-this g c =
    let scheme = g.R.StateMachine.scheme in
    let i = c.self.inside in
    let h = g.R.StateMachine.history i.machine in
    let admitted : IsTrue (scheme.admits h c.args.added.entry) = subst (λ (k : Kept g.row.D.Denot g.row.R-Entry.Denot). IsTrue (scheme.admits k.history c.args.added.entry)) (sym c.self.view_is) c.requires.admitted in
    let put : IsPut g.D.Disk scheme i.journal c.lengthen_and_put.new.journal h (g.R.StateMachine.spare i.machine) (entry_of i.pending) c.args.added.entry c.bytes.result.now = record {
      none = ap (λ k. k.pending) c.self.view_is ∙ c.requires.decided;
      whole = c.self.invariant.0;
      same = c.lengthen_and_put.ensures.honest;
      spelled = c.bytes.ensures.held ∙ c.encode.ensures.spelled;
      is_entry = c.encode.ensures.in_range;
      admitted = admitted;
      legal = λ legal. g.met.R.StateMachine.admitted_legal h c.args.added.entry legal admitted;
    } in (
      rw put.none (refused_whole g.D.Disk scheme g.met.D.Disk.reads_as_image g.met.R.StateMachine.legal_past i.journal c.lengthen_and_put.new.journal h (g.R.StateMachine.spare i.machine) (entry_of i.pending) c.args.added.entry c.bytes.result.now put
          c.in-Err-DiskFault-false.ensures.count_err (search rules) (λ honest keeps. c.in-Err-DiskFault-false.ensures.before honest scheme.header (payloads_of scheme.spelling h) keeps (search rules))),
      c.self.invariant.1,
    )

pub lengthen_and_put-requires-clause-stands : goal.lengthen_and_put-requires-clause-stands
lengthen_and_put-requires-clause-stands g c honest =
    let scheme = g.R.StateMachine.scheme in
    let i = c.self.inside in
    let whole : IsWhole g.D.Disk scheme i.journal (g.R.StateMachine.history i.machine) (g.R.StateMachine.spare i.machine) None =
    subst (λ (o : Option g.row.R-Entry.Denot). IsWhole g.D.Disk scheme i.journal (g.R.StateMachine.history i.machine) (g.R.StateMachine.spare i.machine) o) (ap (λ k. k.pending) c.self.view_is ∙ c.requires.decided) c.self.invariant.0 in
    (scheme.header, (payloads_of scheme.spelling (g.R.StateMachine.history i.machine), whole.keeps honest))

pub invariant_of-self : goal.invariant_of-self
invariant_of-self g c =
    let scheme = g.R.StateMachine.scheme in
    let i = c.self.inside in
    let h = g.R.StateMachine.history i.machine in
    let admitted : IsTrue (scheme.admits h c.args.added.entry) = subst (λ (k : Kept g.row.D.Denot g.row.R-Entry.Denot). IsTrue (scheme.admits k.history c.args.added.entry)) (sym c.self.view_is) c.requires.admitted in
    let put : IsPut g.D.Disk scheme i.journal c.lengthen_and_put.new.journal h (g.R.StateMachine.spare i.machine) (entry_of i.pending) c.args.added.entry c.bytes.result.now = record {
      none = ap (λ k. k.pending) c.self.view_is ∙ c.requires.decided;
      whole = c.self.invariant.0;
      same = c.lengthen_and_put.ensures.honest;
      spelled = c.bytes.ensures.held ∙ c.encode.ensures.spelled;
      is_entry = c.encode.ensures.in_range;
      admitted = admitted;
      legal = λ legal. g.met.R.StateMachine.admitted_legal h c.args.added.entry legal admitted;
    } in (
      rw put.none (kept_whole g.D.Disk scheme g.met.D.Disk.reads_as_image g.met.R.StateMachine.legal_past i.journal c.lengthen_and_put.new.journal h (g.R.StateMachine.spare i.machine) (entry_of i.pending) c.args.added.entry c.bytes.result.now put
          (g.R.StateMachine.history c.admit.new.self) (g.R.StateMachine.spare c.admit.new.self) c.admit.ensures.history c.admit.ensures.room
          c.in-Ok.ensures.count c.in-Ok.ensures.decided (λ honest keeps. c.in-Ok.ensures.kept honest scheme.header (payloads_of scheme.spelling h) keeps)),
      none_ruled i.pending _ put.none,
    )

pub returns-in-Ok-clause-sound : goal.returns-in-Ok-clause-sound
returns-in-Ok-clause-sound g c =
    let scheme = g.R.StateMachine.scheme in
    let i = c.self.inside in
    let h = g.R.StateMachine.history i.machine in
    let admitted : IsTrue (scheme.admits h c.args.added.entry) = subst (λ (k : Kept g.row.D.Denot g.row.R-Entry.Denot). IsTrue (scheme.admits k.history c.args.added.entry)) (sym c.self.view_is) c.requires.admitted in
    let put : IsPut g.D.Disk scheme i.journal c.lengthen_and_put.new.journal h (g.R.StateMachine.spare i.machine) (entry_of i.pending) c.args.added.entry c.bytes.result.now = record {
      none = ap (λ k. k.pending) c.self.view_is ∙ c.requires.decided;
      whole = c.self.invariant.0;
      same = c.lengthen_and_put.ensures.honest;
      spelled = c.bytes.ensures.held ∙ c.encode.ensures.spelled;
      is_entry = c.encode.ensures.in_range;
      admitted = admitted;
      legal = λ legal. g.met.R.StateMachine.admitted_legal h c.args.added.entry legal admitted;
    } in
    rw (← c.self.view_is, put.none) (λ honest. (kept_whole g.D.Disk scheme g.met.D.Disk.reads_as_image g.met.R.StateMachine.legal_past i.journal c.lengthen_and_put.new.journal h (g.R.StateMachine.spare i.machine) (entry_of i.pending) c.args.added.entry c.bytes.result.now put
    (g.R.StateMachine.history c.admit.new.self) (g.R.StateMachine.spare c.admit.new.self) c.admit.ensures.history c.admit.ensures.room
    c.in-Ok.ensures.count c.in-Ok.ensures.decided (λ honest keeps. c.in-Ok.ensures.kept honest scheme.header (payloads_of scheme.spelling h) keeps)).sound (subst IsTrue (sym put.same) honest))

pub returns-in-Ok-clause-moments : goal.returns-in-Ok-clause-moments
returns-in-Ok-clause-moments g c =
    let scheme = g.R.StateMachine.scheme in
    let i = c.self.inside in
    let h = g.R.StateMachine.history i.machine in
    let admitted : IsTrue (scheme.admits h c.args.added.entry) = subst (λ (k : Kept g.row.D.Denot g.row.R-Entry.Denot). IsTrue (scheme.admits k.history c.args.added.entry)) (sym c.self.view_is) c.requires.admitted in
    let put : IsPut g.D.Disk scheme i.journal c.lengthen_and_put.new.journal h (g.R.StateMachine.spare i.machine) (entry_of i.pending) c.args.added.entry c.bytes.result.now = record {
      none = ap (λ k. k.pending) c.self.view_is ∙ c.requires.decided;
      whole = c.self.invariant.0;
      same = c.lengthen_and_put.ensures.honest;
      spelled = c.bytes.ensures.held ∙ c.encode.ensures.spelled;
      is_entry = c.encode.ensures.in_range;
      admitted = admitted;
      legal = λ legal. g.met.R.StateMachine.admitted_legal h c.args.added.entry legal admitted;
    } in
    rw (← c.self.view_is) (λ honest. put_moments g.D.Disk scheme g.met.D.Disk.reads_as_image g.met.R.StateMachine.legal_past i.journal c.lengthen_and_put.new.journal h (g.R.StateMachine.spare i.machine) (entry_of i.pending) c.args.added.entry c.bytes.result.now put honest
    (λ keeps. c.lengthen_and_put.ensures.moments honest scheme.header (payloads_of scheme.spelling h) keeps))

pub returns-in-Err-DiskFault-true-clause-moments : goal.returns-in-Err-DiskFault-true-clause-moments
returns-in-Err-DiskFault-true-clause-moments g c =
    let scheme = g.R.StateMachine.scheme in
    let i = c.self.inside in
    let h = g.R.StateMachine.history i.machine in
    let admitted : IsTrue (scheme.admits h c.args.added.entry) = subst (λ (k : Kept g.row.D.Denot g.row.R-Entry.Denot). IsTrue (scheme.admits k.history c.args.added.entry)) (sym c.self.view_is) c.requires.admitted in
    let put : IsPut g.D.Disk scheme i.journal c.lengthen_and_put.new.journal h (g.R.StateMachine.spare i.machine) (entry_of i.pending) c.args.added.entry c.bytes.result.now = record {
      none = ap (λ k. k.pending) c.self.view_is ∙ c.requires.decided;
      whole = c.self.invariant.0;
      same = c.lengthen_and_put.ensures.honest;
      spelled = c.bytes.ensures.held ∙ c.encode.ensures.spelled;
      is_entry = c.encode.ensures.in_range;
      admitted = admitted;
      legal = λ legal. g.met.R.StateMachine.admitted_legal h c.args.added.entry legal admitted;
    } in
    rw (← c.self.view_is) (λ honest. put_moments g.D.Disk scheme g.met.D.Disk.reads_as_image g.met.R.StateMachine.legal_past i.journal c.lengthen_and_put.new.journal h (g.R.StateMachine.spare i.machine) (entry_of i.pending) c.args.added.entry c.bytes.result.now put honest
    (λ keeps. c.lengthen_and_put.ensures.moments honest scheme.header (payloads_of scheme.spelling h) keeps))

pub returns-in-Err-DiskFault-false-clause-moments : goal.returns-in-Err-DiskFault-false-clause-moments
returns-in-Err-DiskFault-false-clause-moments g c =
    let scheme = g.R.StateMachine.scheme in
    let i = c.self.inside in
    let h = g.R.StateMachine.history i.machine in
    let admitted : IsTrue (scheme.admits h c.args.added.entry) = subst (λ (k : Kept g.row.D.Denot g.row.R-Entry.Denot). IsTrue (scheme.admits k.history c.args.added.entry)) (sym c.self.view_is) c.requires.admitted in
    let put : IsPut g.D.Disk scheme i.journal c.lengthen_and_put.new.journal h (g.R.StateMachine.spare i.machine) (entry_of i.pending) c.args.added.entry c.bytes.result.now = record {
      none = ap (λ k. k.pending) c.self.view_is ∙ c.requires.decided;
      whole = c.self.invariant.0;
      same = c.lengthen_and_put.ensures.honest;
      spelled = c.bytes.ensures.held ∙ c.encode.ensures.spelled;
      is_entry = c.encode.ensures.in_range;
      admitted = admitted;
      legal = λ legal. g.met.R.StateMachine.admitted_legal h c.args.added.entry legal admitted;
    } in
    rw (← c.self.view_is) (λ honest. put_moments g.D.Disk scheme g.met.D.Disk.reads_as_image g.met.R.StateMachine.legal_past i.journal c.lengthen_and_put.new.journal h (g.R.StateMachine.spare i.machine) (entry_of i.pending) c.args.added.entry c.bytes.result.now put honest
    (λ keeps. c.lengthen_and_put.ensures.moments honest scheme.header (payloads_of scheme.spelling h) keeps))

pub returns-in-Err-DiskFault-true-clause-sound : goal.returns-in-Err-DiskFault-true-clause-sound
returns-in-Err-DiskFault-true-clause-sound g c =
    let scheme = g.R.StateMachine.scheme in
    let i = c.self.inside in
    let h = g.R.StateMachine.history i.machine in
    let admitted : IsTrue (scheme.admits h c.args.added.entry) = subst (λ (k : Kept g.row.D.Denot g.row.R-Entry.Denot). IsTrue (scheme.admits k.history c.args.added.entry)) (sym c.self.view_is) c.requires.admitted in
    let put : IsPut g.D.Disk scheme i.journal c.lengthen_and_put.new.journal h (g.R.StateMachine.spare i.machine) (entry_of i.pending) c.args.added.entry c.bytes.result.now = record {
      none = ap (λ k. k.pending) c.self.view_is ∙ c.requires.decided;
      whole = c.self.invariant.0;
      same = c.lengthen_and_put.ensures.honest;
      spelled = c.bytes.ensures.held ∙ c.encode.ensures.spelled;
      is_entry = c.encode.ensures.in_range;
      admitted = admitted;
      legal = λ legal. g.met.R.StateMachine.admitted_legal h c.args.added.entry legal admitted;
    } in
    rw (← c.self.view_is) (λ honest. (left_whole g.D.Disk scheme g.met.D.Disk.reads_as_image g.met.R.StateMachine.legal_past i.journal c.lengthen_and_put.new.journal h (g.R.StateMachine.spare i.machine) (entry_of i.pending) c.args.added.entry c.bytes.result.now put
    c.in-Err-DiskFault-true.ensures.count_err (search rules) (omega (arith, ap (λ k. k.room) c.self.view_is, c.requires.room))
    (λ honest keeps. c.in-Err-DiskFault-true.ensures.undecided honest scheme.header (payloads_of scheme.spelling h) keeps (search rules))).sound (subst IsTrue (sym put.same) honest))

pub returns-in-Err-DiskFault-false-clause-sound : goal.returns-in-Err-DiskFault-false-clause-sound
returns-in-Err-DiskFault-false-clause-sound g c =
    let scheme = g.R.StateMachine.scheme in
    let i = c.self.inside in
    let h = g.R.StateMachine.history i.machine in
    let admitted : IsTrue (scheme.admits h c.args.added.entry) = subst (λ (k : Kept g.row.D.Denot g.row.R-Entry.Denot). IsTrue (scheme.admits k.history c.args.added.entry)) (sym c.self.view_is) c.requires.admitted in
    let put : IsPut g.D.Disk scheme i.journal c.lengthen_and_put.new.journal h (g.R.StateMachine.spare i.machine) (entry_of i.pending) c.args.added.entry c.bytes.result.now = record {
      none = ap (λ k. k.pending) c.self.view_is ∙ c.requires.decided;
      whole = c.self.invariant.0;
      same = c.lengthen_and_put.ensures.honest;
      spelled = c.bytes.ensures.held ∙ c.encode.ensures.spelled;
      is_entry = c.encode.ensures.in_range;
      admitted = admitted;
      legal = λ legal. g.met.R.StateMachine.admitted_legal h c.args.added.entry legal admitted;
    } in
    rw (← c.self.view_is, put.none) (λ honest. (refused_whole g.D.Disk scheme g.met.D.Disk.reads_as_image g.met.R.StateMachine.legal_past i.journal c.lengthen_and_put.new.journal h (g.R.StateMachine.spare i.machine) (entry_of i.pending) c.args.added.entry c.bytes.result.now put
    c.in-Err-DiskFault-false.ensures.count_err (search rules) (λ honest keeps. c.in-Err-DiskFault-false.ensures.before honest scheme.header (payloads_of scheme.spelling h) keeps (search rules))).sound (subst IsTrue (sym put.same) honest))

pub returns-in-Ok-clause-way : goal.returns-in-Ok-clause-way
returns-in-Ok-clause-way g c =
    let scheme = g.R.StateMachine.scheme in
    let i = c.self.inside in
    let h = g.R.StateMachine.history i.machine in
    let admitted : IsTrue (scheme.admits h c.args.added.entry) = subst (λ (k : Kept g.row.D.Denot g.row.R-Entry.Denot). IsTrue (scheme.admits k.history c.args.added.entry)) (sym c.self.view_is) c.requires.admitted in
    let put : IsPut g.D.Disk scheme i.journal c.lengthen_and_put.new.journal h (g.R.StateMachine.spare i.machine) (entry_of i.pending) c.args.added.entry c.bytes.result.now = record {
      none = ap (λ k. k.pending) c.self.view_is ∙ c.requires.decided;
      whole = c.self.invariant.0;
      same = c.lengthen_and_put.ensures.honest;
      spelled = c.bytes.ensures.held ∙ c.encode.ensures.spelled;
      is_entry = c.encode.ensures.in_range;
      admitted = admitted;
      legal = λ legal. g.met.R.StateMachine.admitted_legal h c.args.added.entry legal admitted;
    } in
    rw (← c.self.view_is, put.none, c.admit.ensures.history) (λ honest. put_moments g.D.Disk scheme g.met.D.Disk.reads_as_image g.met.R.StateMachine.legal_past i.journal c.lengthen_and_put.new.journal h (g.R.StateMachine.spare i.machine) (entry_of i.pending) c.args.added.entry c.bytes.result.now put honest
    (λ keeps. c.lengthen_and_put.ensures.moments honest scheme.header (payloads_of scheme.spelling h) keeps))

pub returns-in-Err-DiskFault-true-clause-way : goal.returns-in-Err-DiskFault-true-clause-way
returns-in-Err-DiskFault-true-clause-way g c =
    let scheme = g.R.StateMachine.scheme in
    let i = c.self.inside in
    let h = g.R.StateMachine.history i.machine in
    let admitted : IsTrue (scheme.admits h c.args.added.entry) = subst (λ (k : Kept g.row.D.Denot g.row.R-Entry.Denot). IsTrue (scheme.admits k.history c.args.added.entry)) (sym c.self.view_is) c.requires.admitted in
    let put : IsPut g.D.Disk scheme i.journal c.lengthen_and_put.new.journal h (g.R.StateMachine.spare i.machine) (entry_of i.pending) c.args.added.entry c.bytes.result.now = record {
      none = ap (λ k. k.pending) c.self.view_is ∙ c.requires.decided;
      whole = c.self.invariant.0;
      same = c.lengthen_and_put.ensures.honest;
      spelled = c.bytes.ensures.held ∙ c.encode.ensures.spelled;
      is_entry = c.encode.ensures.in_range;
      admitted = admitted;
      legal = λ legal. g.met.R.StateMachine.admitted_legal h c.args.added.entry legal admitted;
    } in
    rw (← c.self.view_is) (λ honest. put_moments g.D.Disk scheme g.met.D.Disk.reads_as_image g.met.R.StateMachine.legal_past i.journal c.lengthen_and_put.new.journal h (g.R.StateMachine.spare i.machine) (entry_of i.pending) c.args.added.entry c.bytes.result.now put honest
    (λ keeps. c.lengthen_and_put.ensures.moments honest scheme.header (payloads_of scheme.spelling h) keeps))

pub returns-in-Err-DiskFault-false-clause-way : goal.returns-in-Err-DiskFault-false-clause-way
returns-in-Err-DiskFault-false-clause-way g c =
    let scheme = g.R.StateMachine.scheme in
    let i = c.self.inside in
    let h = g.R.StateMachine.history i.machine in
    let admitted : IsTrue (scheme.admits h c.args.added.entry) = subst (λ (k : Kept g.row.D.Denot g.row.R-Entry.Denot). IsTrue (scheme.admits k.history c.args.added.entry)) (sym c.self.view_is) c.requires.admitted in
    let put : IsPut g.D.Disk scheme i.journal c.lengthen_and_put.new.journal h (g.R.StateMachine.spare i.machine) (entry_of i.pending) c.args.added.entry c.bytes.result.now = record {
      none = ap (λ k. k.pending) c.self.view_is ∙ c.requires.decided;
      whole = c.self.invariant.0;
      same = c.lengthen_and_put.ensures.honest;
      spelled = c.bytes.ensures.held ∙ c.encode.ensures.spelled;
      is_entry = c.encode.ensures.in_range;
      admitted = admitted;
      legal = λ legal. g.met.R.StateMachine.admitted_legal h c.args.added.entry legal admitted;
    } in
    rw (← c.self.view_is, put.none) (λ honest. not_put_moments g.D.Disk scheme g.met.D.Disk.reads_as_image g.met.R.StateMachine.legal_past i.journal c.lengthen_and_put.new.journal h (g.R.StateMachine.spare i.machine) (entry_of i.pending) c.args.added.entry c.bytes.result.now put honest
    (λ keeps. c.in-Err-DiskFault-false.ensures.not_put honest scheme.header (payloads_of scheme.spelling h) keeps (search rules)))
