use Rattle.std.proofs.Common.{ℕ, ◌*◌, sym, ap, ◌∙◌, Option}
use Rattle.aid_filings.specs.declared.filing.SchoolFacts.{SchoolFacts}
use Rattle.law_terms.specs.Terms.{intensity_of, payment_of}
use Rattle.office_history.specs.Positions.{full_of, terms_of}
use Rattle.office_history.proofs.Numbers.{no_terms}
use Rattle.office_updates.specs.Enrollments.{school_told}
use Rattle.office_updates.proofs.EnrollmentsRows.{no_school}
use Rattle.office_history.proofs.NoCredits.{no_credits}
use Rattle.office_updates.proofs.enrollments.payment.Goals as goal

-- no school, and no credits
pub returns-in_default : goal.returns-in_default
returns-in_default c =
    sym (ap (λ (o : Option SchoolFacts). 100 * payment_of c.args.award (intensity_of c.args.credits (full_of o)) (terms_of o)) (no_school c.args.school.now c.in_default.not-School)
    ∙ ap (λ (n : ℕ). 100 * n) (no_terms c.args.award (intensity_of c.args.credits 0)))

pub returns-then-credits-eq0 : goal.returns-then-credits-eq0
returns-then-credits-eq0 c =
    let here = school_told c.args.school.now in
    sym (ap (λ (n : ℕ). 100 * payment_of c.args.award (intensity_of n (full_of here)) (terms_of here)) c.if-credits-eq0.true
    ∙ ap (λ (n : ℕ). 100 * n) (no_credits c.args.award (full_of here) (terms_of here)))
