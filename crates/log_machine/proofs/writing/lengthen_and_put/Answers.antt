use Rattle.std.proofs.Common.{IsTrue, Result, Ok, Err, inl, subst, sym}
use Rattle.std.specs.Prelude.{IfErr}
use Rattle.io_traits.proofs.Moments.{join, weaken}
use Rattle.log_journal.specs.Journal.{journal_disk}
use Rattle.log_journal.specs.Stands.{StandsFor, BeforeOrWith}
use Rattle.log_machine.proofs.writing.lengthen_and_put.Goals as goal

err_map : {T E : Type 0} (r : Result T E) (P Q : E → Type 0) → ((e : E) → P e → Q e) → IfErr r P → IfErr r Q
err_map (Ok v) P Q to is = tt
err_map (Err e) P Q to is = to e is

pub returns-then-is_err-clause-before : goal.returns-then-is_err-clause-before
returns-then-is_err-clause-before g c honest header before keeps is = c.lengthen.ensures.kept honest header before keeps

pub returns-then-is_err-clause-moments : goal.returns-then-is_err-clause-moments
returns-then-is_err-clause-moments g c honest header before keeps =
    weaken (g.D.Disk.tells (journal_disk c.args.journal.now)) (g.D.Disk.tells (journal_disk c.lengthen.new.self)) (λ file. StandsFor header file before) (BeforeOrWith header before c.args.payload.now)
    (λ file stands. inl stands) (c.lengthen.ensures.moments honest header before keeps)

pub put_ahead-requires-clause-stands : goal.put_ahead-requires-clause-stands
put_ahead-requires-clause-stands g c honest =
    let old = subst IsTrue c.lengthen.ensures.honest honest in
    let (header, (before, keeps)) = c.requires.stands old in
    (header, (before, c.lengthen.ensures.kept old header before keeps))

pub returns-clause-kept : goal.returns-clause-kept
returns-clause-kept g c honest header before keeps =
    c.put_ahead.ensures.kept (subst IsTrue (sym c.lengthen.ensures.honest) honest) header before (c.lengthen.ensures.kept honest header before keeps)

pub returns-clause-before : goal.returns-clause-before
returns-clause-before g c honest header before keeps =
    c.put_ahead.ensures.before (subst IsTrue (sym c.lengthen.ensures.honest) honest) header before (c.lengthen.ensures.kept honest header before keeps)

pub returns-clause-undecided : goal.returns-clause-undecided
returns-clause-undecided g c honest header before keeps =
    c.put_ahead.ensures.undecided (subst IsTrue (sym c.lengthen.ensures.honest) honest) header before (c.lengthen.ensures.kept honest header before keeps)

pub returns-clause-moments : goal.returns-clause-moments
returns-clause-moments g c honest header before keeps =
    let old = g.D.Disk.tells (journal_disk c.args.journal.now) in
    let longer = g.D.Disk.tells (journal_disk c.lengthen.new.self) in
    let put = BeforeOrWith header before c.args.payload.now in
    join old longer (g.D.Disk.tells (journal_disk c.put_ahead.new.self)) put
    (weaken old longer (λ file. StandsFor header file before) put (λ file stands. inl stands) (c.lengthen.ensures.moments honest header before keeps))
    (c.put_ahead.ensures.moments (subst IsTrue (sym c.lengthen.ensures.honest) honest) header before (c.lengthen.ensures.kept honest header before keeps))

pub returns-then-is_err-clause-not_put : goal.returns-then-is_err-clause-not_put
returns-then-is_err-clause-not_put g c honest header before keeps is = c.lengthen.ensures.moments honest header before keeps

pub returns-clause-not_put : goal.returns-clause-not_put
returns-clause-not_put g c honest header before keeps =
    let longer = g.D.Disk.tells (journal_disk c.lengthen.new.self) in
    err_map c.put_ahead.result _ _
    (λ e told is. join (g.D.Disk.tells (journal_disk c.args.journal.now)) longer (g.D.Disk.tells (journal_disk c.put_ahead.new.self)) (λ file. StandsFor header file before)
    (c.lengthen.ensures.moments honest header before keeps) (told is))
    (c.put_ahead.ensures.not_put (subst IsTrue (sym c.lengthen.ensures.honest) honest) header before (c.lengthen.ensures.kept honest header before keeps))
