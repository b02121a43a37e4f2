use Rattle.std.proofs.Common.{◌≡◌, ℕ, ◌*◌, arith, sym, ap, ◌∙◌, Option, None}
use Rattle.aid_filings.specs.declared.filing.SchoolFacts.{SchoolFacts}
use Rattle.law_terms.specs.Terms.{intensity_of, payment_of}
use Rattle.office_history.specs.Past.{credits, the_school}
use Rattle.office_history.specs.Positions.{full_of, terms_of}
use Rattle.office_history.proofs.Numbers.{no_terms}
use Rattle.office_history.proofs.Ranges.{credits_in_range}
use Rattle.office_history.proofs.NoCredits.{no_credits}
use Rattle.office_plain.proofs.plain.PlainHistory.payment_at.Goals as goal

pub intensity-requires-clause-credits : goal.intensity-requires-clause-credits
intensity-requires-clause-credits c =
    let few = credits_in_range c.args.self.now c.front-filings.ensures.legal c.args.place.now.school c.args.place.now.student c.args.place.now.year c.args.place.now.term in
    (omega (arith, c.if-credits-eq0.false), omega (arith, few, c.credits-credits.ensures))

-- no credits, and no school
pub returns-then-credits-eq0 : goal.returns-then-credits-eq0
returns-then-credits-eq0 c =
    let past = c.args.self.now in
    let here = the_school past c.args.place.now.school in
    let none : credits past c.args.place.now.school c.args.place.now.student c.args.place.now.year c.args.place.now.term ≡ 0 = omega (arith, c.credits-credits.ensures, c.if-credits-eq0.true) in
    sym (ap (λ (n : ℕ). 100 * payment_of c.args.award (intensity_of n (full_of here)) (terms_of here)) none
    ∙ ap (λ (n : ℕ). 100 * n) (no_credits c.args.award (full_of here) (terms_of here)))

pub returns-in_default : goal.returns-in_default
returns-in_default c =
    let past = c.args.self.now in
    let here = the_school past c.args.place.now.school in
    let none : here ≡ None = ap (the_school past) (sym c.code.view_is) ∙ sym c.school_of.ensures.school ∙ c.in_default.is in
    sym (ap (λ (o : Option SchoolFacts). 100 * payment_of c.args.award (intensity_of (credits past c.args.place.now.school c.args.place.now.student c.args.place.now.year c.args.place.now.term) (full_of o)) (terms_of o)) none
    ∙ ap (λ (n : ℕ). 100 * n) (no_terms c.args.award (intensity_of (credits past c.args.place.now.school c.args.place.now.student c.args.place.now.year c.args.place.now.term) 0)))
