use Rattle.std.proofs.Common.{◌<◌, reverse}
use Rattle.std.specs.Ordering.{nat_cmp}
use Rattle.std.proofs.lemmas.Cmp.{nat_cmp_total}
use Rattle.std.proofs.lemmas.Map.Lookups.{exact_unsigned}
use Rattle.office_export.specs.Applicants.{applicant, applicants, told_by}
use Rattle.office_reports.specs.Rows.{lifetime_user, lifetime_users}
use Rattle.office_export.proofs.InOrder.{rises}
use Rattle.office_export.proofs.Exactly.{exactly, number_less, rising}
use Rattle.office_reports.proofs.laws.students_of_reports.Goals as goal

pub returns-clause-applicants_rise : goal.returns-clause-applicants_rise
returns-clause-applicants_rise c year =
    let past = reverse c.args.history.now in
    rising nat_cmp (λ s t. s < t) number_less (applicants past year) (rises nat_cmp_total (told_by (λ f. applicant year f.what) past))

pub returns-clause-applicants : goal.returns-clause-applicants
returns-clause-applicants c year student = exactly nat_cmp_total exact_unsigned (λ f. applicant year f.what) (reverse c.args.history.now) student

pub returns-clause-users_rise : goal.returns-clause-users_rise
returns-clause-users_rise c =
    let past = reverse c.args.history.now in
    rising nat_cmp (λ s t. s < t) number_less (lifetime_users past) (rises nat_cmp_total (told_by (λ f. lifetime_user f.what) past))

pub returns-clause-users : goal.returns-clause-users
returns-clause-users c student = exactly nat_cmp_total exact_unsigned (λ f. lifetime_user f.what) (reverse c.args.history.now) student
