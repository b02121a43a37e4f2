use Rattle.std.proofs.Common.{Err, Ok, map, refl, rules}
use Rattle.std.specs.Vec.Iter.{into_iter_items}
use Rattle.log_session.specs.Planned.{filed, unopened, unplanned}
use Rattle.office_log.specs.Scheme.{office_scheme}
use Rattle.office_log.specs.Submits.{office_semantics}
use Rattle.log_stamps.specs.Rows.{ask_under, stamped_texts}
use Rattle.run_office.specs.Rounds.{asks_of, round_of, round_texts}
use Rattle.run_office.proofs.Awarding.{closes_as, plans_under, rows_under}
use Rattle.run_office.proofs.fund.file_round.Goals as goal

pub returns-in-Err-clause-planned : goal.returns-in-Err-clause-planned
returns-in-Err-clause-planned g c = unopened c.in-Err.error c.in-Err.ensures.unopened refl

pub returns-in-Err-plan-clause-planned : goal.returns-in-Err-plan-clause-planned
returns-in-Err-plan-clause-planned g c = unplanned c.in-Ok.kept.history (rw c.into_disk.ensures.disk c.in-Ok.ensures.opened) refl

pub returns-in-Ok-file_planned-clause-planned : goal.returns-in-Ok-file_planned-clause-planned
returns-in-Ok-file_planned-clause-planned g c =
    filed c.in-Ok.kept.history c.in-Ok.kept.disk (map (ask_under c.args.stamp) (asks_of (into_iter_items c.in-Ok-plan.planned.0.filings))) c.in-Ok-plan.planned.1.bytes (Ok tt) c.in-Ok.ensures.opened
    (plans_under _ c.args.stamp c.round_of.result (round_of c.args.fund) c.office-office.result.now.history c.in-Ok.kept.history (into_iter_items c.in-Ok-plan.planned.0.filings) c.in-Ok-plan.planned.1.bytes c.round_of.ensures (search rules) c.in-Ok-plan.ensures)
    (closes_as g.D.Disk office_scheme office_semantics (stamped_texts round_texts) c.in-Ok.kept.history c.in-Ok.kept.disk c.file_planned.new.kept.disk c.into_disk-in-Ok-file_planned.result _ _ _ _ _ (Ok tt) c.into_disk-in-Ok-file_planned.ensures.disk (rows_under round_texts c.args.stamp (asks_of (into_iter_items c.in-Ok-plan.planned.0.filings))) (search rules) c.in-Ok-file_planned.ensures.closes)

pub returns-in-Err-file_planned-clause-planned : goal.returns-in-Err-file_planned-clause-planned
returns-in-Err-file_planned-clause-planned g c =
    filed c.in-Ok.kept.history c.in-Ok.kept.disk (map (ask_under c.args.stamp) (asks_of (into_iter_items c.in-Ok-plan.planned.0.filings))) c.in-Ok-plan.planned.1.bytes (Err c.in-Err-file_planned.stop) c.in-Ok.ensures.opened
    (plans_under _ c.args.stamp c.round_of.result (round_of c.args.fund) c.office-office.result.now.history c.in-Ok.kept.history (into_iter_items c.in-Ok-plan.planned.0.filings) c.in-Ok-plan.planned.1.bytes c.round_of.ensures (search rules) c.in-Ok-plan.ensures)
    (closes_as g.D.Disk office_scheme office_semantics (stamped_texts round_texts) c.in-Ok.kept.history c.in-Ok.kept.disk c.file_planned.new.kept.disk c.into_disk-in-Err-file_planned.result _ _ _ _ _ (Err c.in-Err-file_planned.stop) c.into_disk-in-Err-file_planned.ensures.disk (rows_under round_texts c.args.stamp (asks_of (into_iter_items c.in-Ok-plan.planned.0.filings))) (search rules) c.in-Err-file_planned.ensures.closes)
