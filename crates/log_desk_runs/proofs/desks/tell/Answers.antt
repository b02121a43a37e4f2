use Rattle.std.proofs.Common.{◌+◌, ◌++◌, ℕ, sym, subst}
use Rattle.log_desk_runs.specs.DeskTexts.{admitted_text, desks_status, desks_text}
use Rattle.log_desk_runs.specs.Names.{names_of}
use Rattle.log_runs.specs.Ends.{EndsWith, told, untold}
use Rattle.log_desk_runs.proofs.desks.tell.Goals as goal

pub returns-in-Ok : goal.returns-in-Ok
returns-in-Ok g c =
    subst (λ (n : ℕ). EndsWith g.K.Sink (desks_text c.args.desks.now ++ admitted_text (c.args.front + 1) (names_of g.C.EntryMatch.same c.args.desks.now (c.args.front + 1) c.args.rows.now)) (desks_status c.args.desks.now) c.args.out.now c.put_all.new.out n) (sym c.desks_status.ensures) (told c.in-Ok.ensures)

pub returns-in-Err : goal.returns-in-Err
returns-in-Err g c = untold c.in-Err.ensures
