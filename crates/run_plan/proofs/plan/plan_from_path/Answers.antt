use Rattle.std.proofs.Common.{Global, string_bytes}
use Rattle.run_plan.specs.Plans.{pathless}
use Rattle.run_plan.proofs.PlanLemmas.{suits_of}
use Rattle.run_plan.proofs.plan.plan_from_path.Goals as goal

pub returns-in_default : goal.returns-in_default
returns-in_default c = pathless (c.take_first.ensures.none c.in_default.is).0

pub journal_plan-requires : goal.journal_plan-requires
journal_plan-requires c =
    suits_of (string_bytes {Z = Global}) c.args.program c.deref.result.now c.deref-2.result.now c.take_first.new.words.items c.row_for-row.result c.opening_for-opening.result
    c.deref.ensures.value c.deref-2.ensures.value c.row_for-row.ensures.desks c.row_for-row.ensures.serve c.row_for-row.ensures.upgrade c.row_for-row.ensures.amend c.row_for-row.ensures.changes
    c.opening_for-opening.ensures.read c.opening_for-opening.ensures.unheld c.opening_for-opening.ensures.founds
