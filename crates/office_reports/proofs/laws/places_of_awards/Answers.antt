use Rattle.std.proofs.Common.{reverse}
use Rattle.office_export.specs.Applicants.{told_by}
use Rattle.office_reports.specs.Rows.{paid_place, paid_places, place_order}
use Rattle.office_reports.specs.Before.{IsBefore}
use Rattle.office_export.proofs.InOrder.{rises}
use Rattle.office_export.proofs.Exactly.{exactly, rising}
use Rattle.office_reports.proofs.Exactly.{place_before}
use Rattle.office_reports.proofs.Orders.{place_exact, place_order_total}
use Rattle.office_reports.proofs.laws.places_of_awards.Goals as goal

pub returns-clause-rise : goal.returns-clause-rise
returns-clause-rise c year =
    let past = reverse c.args.history.now in
    rising place_order IsBefore place_before (paid_places past year) (rises place_order_total (told_by (λ f. paid_place year f.key f.what) past))

pub returns-clause-told : goal.returns-clause-told
returns-clause-told c year place = exactly place_order_total place_exact (λ f. paid_place year f.key f.what) (reverse c.args.history.now) place
