use Rattle.std.specs.Prelude.{is_err}
use Rattle.std.proofs.Common.{◌≡◌, ◌∷◌, ◌++◌, [], false, IsTrue, inl, refl, sym, ◌∙◌, subst, arith}
use Rattle.io_traits.specs.DiskState.{EachImage}
use Rattle.io_traits.proofs.Moments.{weaken, join}
use Rattle.log_journal.specs.Ahead.{HasNext}
use Rattle.log_journal.specs.Stands.{StandsFor, BeforeOrWith, EndsBehind, WithGateOpen}
use Rattle.log_journal.specs.Journal.{MayKeep}
use Rattle.log_journal.proofs.Exits.{on_ok, on_err, if_err, ok_any, err_any}
use Rattle.log_journal.proofs.Gates.{either}
use Rattle.log_journal.proofs.Written.{length-block_part, part_none}
use Rattle.log_journal.proofs.journal.Journal.put_ahead.Goals as goal

pub returns-then-is_err-clause-before : goal.returns-then-is_err-clause-before
returns-then-is_err-clause-before g c honest header h keep is =
    on_err c.stage_with_next.result _ (sym c.is_err.ensures.value ∙ c.if-is_err.true) (c.stage_with_next.ensures.still honest header h keep)

pub returns-then-is_err-clause-moments : goal.returns-then-is_err-clause-moments
returns-then-is_err-clause-moments g c honest header h keep =
    weaken _ _ (λ file. StandsFor header file h) (BeforeOrWith header h c.args.payload.now) (λ x stands. inl stands) (c.stage_with_next.ensures.moments honest header h keep)

pub returns-then-is_err-clause-ends : goal.returns-then-is_err-clause-ends
returns-then-is_err-clause-ends g c honest header h keep end each room =
    c.stage_with_next.ensures.ends honest header h keep end each (omega (arith, room, length-block_part c.part_ahead-next.result.now c.args.next.now c.part_ahead-next.ensures.part))

pub open-requires-clause-stands : goal.open-requires-clause-stands
open-requires-clause-stands g c honest =
    let before = subst IsTrue c.stage_with_next.ensures.honest honest in
    let (header, (h, keep)) = c.requires.stands before in
    let p = c.args.payload.now in
    let shut : is_err c.stage_with_next.result ≡ false = sym c.is_err.ensures.value ∙ c.if-is_err.false in
    let staged : EachImage (g.D.Disk.tells c.stage_with_next.new.self.disk) (WithGateOpen header h p) = on_ok c.stage_with_next.result _ shut (c.stage_with_next.ensures.staged before header h keep) in
    (header, (h, (p, record { each = λ x now. either header x h p (staged x now); gate_open = staged; undecided = refl; gate = c.stage_with_next.ensures.same.0 ∙ keep.gate; count = c.stage_with_next.ensures.same.1 ∙ keep.count })))

pub returns-clause-kept : goal.returns-clause-kept
returns-clause-kept g c honest header h keep =
    let p = c.args.payload.now in
    let shut : is_err c.stage_with_next.result ≡ false = sym c.is_err.ensures.value ∙ c.if-is_err.false in
    let next : HasNext header h p c.part_ahead-next.result.now (g.D.Disk.tells c.stage_with_next.new.self.disk).reads = on_ok c.stage_with_next.result _ shut (c.stage_with_next.ensures.next honest header h keep) in
    let staged : EachImage (g.D.Disk.tells c.stage_with_next.new.self.disk) (WithGateOpen header h p) = on_ok c.stage_with_next.result _ shut (c.stage_with_next.ensures.staged honest header h keep) in
    c.open.ensures.kept (subst IsTrue (sym c.stage_with_next.ensures.honest) honest) header h p
    (record { each = λ x now. either header x h p (staged x now); gate_open = staged; undecided = refl; gate = c.stage_with_next.ensures.same.0 ∙ keep.gate; count = c.stage_with_next.ensures.same.1 ∙ keep.count }) next

pub returns-clause-undecided : goal.returns-clause-undecided
returns-clause-undecided g c honest header h keep =
    let p = c.args.payload.now in
    let shut : is_err c.stage_with_next.result ≡ false = sym c.is_err.ensures.value ∙ c.if-is_err.false in
    let staged : EachImage (g.D.Disk.tells c.stage_with_next.new.self.disk) (WithGateOpen header h p) = on_ok c.stage_with_next.result _ shut (c.stage_with_next.ensures.staged honest header h keep) in
    if_err c.open.result (MayKeep g.D.Disk header c.open.new.self h p) _ (λ e may is. may)
    (c.open.ensures.still (subst IsTrue (sym c.stage_with_next.ensures.honest) honest) header h p
    record { each = λ x now. either header x h p (staged x now); gate_open = staged; undecided = refl; gate = c.stage_with_next.ensures.same.0 ∙ keep.gate; count = c.stage_with_next.ensures.same.1 ∙ keep.count })

pub returns-clause-moments : goal.returns-clause-moments
returns-clause-moments g c honest header h keep =
    let p = c.args.payload.now in
    let shut : is_err c.stage_with_next.result ≡ false = sym c.is_err.ensures.value ∙ c.if-is_err.false in
    let staged : EachImage (g.D.Disk.tells c.stage_with_next.new.self.disk) (WithGateOpen header h p) = on_ok c.stage_with_next.result _ shut (c.stage_with_next.ensures.staged honest header h keep) in
    join (g.D.Disk.tells c.args.self.now.disk) (g.D.Disk.tells c.stage_with_next.new.self.disk) (g.D.Disk.tells c.open.new.self.disk) (BeforeOrWith header h p)
    (weaken _ _ (λ file. StandsFor header file h) (BeforeOrWith header h p) (λ x stands. inl stands) (c.stage_with_next.ensures.moments honest header h keep))
    (c.open.ensures.moments (subst IsTrue (sym c.stage_with_next.ensures.honest) honest) header h p
    record { each = λ x now. either header x h p (staged x now); gate_open = staged; undecided = refl; gate = c.stage_with_next.ensures.same.0 ∙ keep.gate; count = c.stage_with_next.ensures.same.1 ∙ keep.count })

pub returns-clause-ends : goal.returns-clause-ends
returns-clause-ends g c honest header h keep end each room x now =
    let staged = c.stage_with_next.ensures.ends honest header h keep end each (omega (arith, room, length-block_part c.part_ahead-next.result.now c.args.next.now c.part_ahead-next.ensures.part)) in
    let from = c.open.ensures.lengths (subst IsTrue (sym c.stage_with_next.ensures.honest) honest) x now in
    omega (arith, from.2, staged from.0 from.1)

pub returns-clause-alone : goal.returns-clause-alone
returns-clause-alone g c honest none header h keep ends =
    let shut : is_err c.stage_with_next.result ≡ false = sym c.is_err.ensures.value ∙ c.if-is_err.false in
    let each : EachImage (g.D.Disk.tells c.stage_with_next.new.self.disk) (EndsBehind (h ++ c.args.payload.now ∷ [])) =
    on_ok c.stage_with_next.result _ shut (c.stage_with_next.ensures.alone honest (part_none c.part_ahead-next.result.now c.args.next.now c.part_ahead-next.ensures.part none) header h keep ends) in
    let lengths = c.open.ensures.lengths (subst IsTrue (sym c.stage_with_next.ensures.honest) honest) in
    ok_any c.open.result _ (λ x now. let from = lengths x now in from.2 ∙ each from.0 from.1)

pub returns-clause-alone_undecided : goal.returns-clause-alone_undecided
returns-clause-alone_undecided g c honest none header h keep ends =
    let shut : is_err c.stage_with_next.result ≡ false = sym c.is_err.ensures.value ∙ c.if-is_err.false in
    let each : EachImage (g.D.Disk.tells c.stage_with_next.new.self.disk) (EndsBehind (h ++ c.args.payload.now ∷ [])) =
    on_ok c.stage_with_next.result _ shut (c.stage_with_next.ensures.alone honest (part_none c.part_ahead-next.result.now c.args.next.now c.part_ahead-next.ensures.part none) header h keep ends) in
    let lengths = c.open.ensures.lengths (subst IsTrue (sym c.stage_with_next.ensures.honest) honest) in
    err_any c.open.result _ (λ e is x now. let from = lengths x now in from.2 ∙ each from.0 from.1)

pub returns-then-is_err-clause-not_put : goal.returns-then-is_err-clause-not_put
returns-then-is_err-clause-not_put g c honest header h keep is = c.stage_with_next.ensures.moments honest header h keep
