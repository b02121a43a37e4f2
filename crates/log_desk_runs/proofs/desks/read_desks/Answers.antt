use Rattle.io_traits.specs.Faults.{Rose}
use Rattle.log_session.specs.Sessions.{IsUnread}
use Rattle.log_desks.specs.Desks.{DeskView}
use Rattle.std.proofs.Common.{rules, ◌≡◌, ◌<◌, ◌+◌, ℕ, List, Err, ap, length, sym, subst}
use Rattle.log_desk_runs.specs.RanDesksOn.{AreRead, Joins}
use Rattle.log_desk_runs.proofs.Reading.{read_behind, read_more, read_none, unread_here}
use Rattle.log_desk_runs.proofs.desks.read_desks.Goals as goal

pub loop-i-init : goal.loop-i-init
loop-i-init g c = record {
  read = subst (λ (ds : List (DeskView g.row.R-Entry.Denot g.row.I-Rows.Denot)). AreRead g.I.Rows.Rows.left g.I.Rows.Rows.rows_of g.I.DeskSource.reads 0 c.args.inputs.now c.args.inputs.now ds) (search rules) (read_none g.I.Rows.Rows.rows_of g.I.DeskSource.reads g.I.Rows.Rows.left c.args.inputs.now);
  behind = search rules;
  size = search rules;
}

pub returns-in-Err-clause-unread : goal.returns-in-Err-clause-unread
returns-in-Err-clause-unread g c =
    let inside : c.loop-i.i < length c.args.inputs.now = search rules in
    unread_here g.I.Rows.Rows.rows_of g.I.DeskSource.reads c.args.inputs.now c.loop-i.inputs c.loop-i.i c.index-inputs-i.result c.read_desk.new.input inside c.loop-i.invariant.size c.loop-i.invariant.behind c.index-inputs-i.is
    g.I.Rows.Rows.left c.loop-i.desks.items c.in-Err.stop c.loop-i.invariant.read (subst (λ w. IsUnread c.in-Err.stop 16777216 (record { honest = g.I.DeskSource.reads.honest w; before = g.I.DeskSource.reads.left w; after = g.I.DeskSource.reads.left c.read_desk.new.input })) (sym c.index-inputs-i.is) c.in-Err.ensures.unread)
    (λ is. subst (λ w. Rose (g.I.DeskSource.reads.faults w) (g.I.DeskSource.reads.faults c.read_desk.new.input)) (sym c.index-inputs-i.is) (c.in-Err.ensures.cause (ap Err is)))
    (λ other. subst (λ w. g.I.DeskSource.reads.faults c.read_desk.new.input ≡ g.I.DeskSource.reads.faults w) (sym c.index-inputs-i.is) (c.in-Err.ensures.unmoved_err other))

pub loop-i-preserved : goal.loop-i-preserved
loop-i-preserved g c =
    let inside : c.loop-i.i < length c.args.inputs.now = search rules in
    record {
      read = read_more g.I.Rows.Rows.rows_of g.I.DeskSource.reads c.args.inputs.now c.loop-i.inputs c.loop-i.i c.index-inputs-i.result c.read_desk.new.input inside c.loop-i.invariant.size c.loop-i.invariant.behind c.index-inputs-i.is
          g.I.Rows.Rows.left c.loop-i.desks.items c.read_desk.new.desks.items c.loop-i.invariant.read
          (subst (λ w. Joins g.I.Rows.Rows.left (c.loop-i.i + 1) (g.I.Rows.Rows.rows_of (g.I.DeskSource.reads.forms w) (g.I.DeskSource.reads.left w)) (record { honest = g.I.DeskSource.reads.honest w; before = g.I.DeskSource.reads.left w; after = g.I.DeskSource.reads.left c.read_desk.new.input }) c.loop-i.desks.items c.read_desk.new.desks.items) (sym c.index-inputs-i.is) c.in-Ok.ensures.desk)
          (subst (λ w. g.I.DeskSource.reads.faults c.read_desk.new.input ≡ g.I.DeskSource.reads.faults w) (sym c.index-inputs-i.is) c.in-Ok.ensures.unmoved);
      behind = read_behind g.I.Rows.Rows.rows_of g.I.DeskSource.reads c.args.inputs.now c.loop-i.inputs c.loop-i.i c.index-inputs-i.result c.read_desk.new.input inside c.loop-i.invariant.size c.loop-i.invariant.behind c.index-inputs-i.is;
      size = search rules;
    }

pub returns-clause-desks : goal.returns-clause-desks
returns-clause-desks g c =
    let at : c.loop-i.i ≡ length c.args.inputs.now = search rules in
    subst (λ (n : ℕ). AreRead g.I.Rows.Rows.left g.I.Rows.Rows.rows_of g.I.DeskSource.reads n c.args.inputs.now c.loop-i.inputs c.loop-i.desks.items) at c.loop-i.invariant.read
