use Rattle.std.proofs.Common.{◌≡◌, ap, subst, sym, ◌∙◌}
use Rattle.aid_filings.specs.declared.filing.Filing.{Filing}
use Rattle.aid_filings.specs.declared.filing.What.TheVariants.{Enroll}
use Rattle.office_history.specs.Answer.{IsLegal}
use Rattle.office_index.specs.Register.{Register}
use Rattle.office_index.proofs.EnrolledFirst.{first_before, later_before}
use Rattle.office_index.proofs.indexed.Indexed.newest_before.Goals as goal

-- a first enrollment, and a later one
pub returns-then-place-eq0 : goal.returns-then-place-eq0
returns-then-place-eq0 c =
    let legal : IsLegal c.args.self.now.history = subst (λ (r : Register). IsLegal r.history) c.self.view_is c.self.invariant.0.legal in
    let is : c.args.filing.now.what ≡ Enroll c.in-Enroll.field-0 = sym (ap (λ (x : Filing). x.what) c.filing.view_is) ∙ c.in-Enroll.is in
    first_before c.args.self.now.history c.args.filing.now c.args.place.now c.in-Enroll.field-0 is c.requires.place legal c.args.student.now
    (c.requires.student c.in-Enroll.field-0 is) c.if-place-eq0.true

pub returns-else-place-eq0 : goal.returns-else-place-eq0
returns-else-place-eq0 c =
    let legal : IsLegal c.args.self.now.history = subst (λ (r : Register). IsLegal r.history) c.self.view_is c.self.invariant.0.legal in
    let is : c.args.filing.now.what ≡ Enroll c.in-Enroll.field-0 = sym (ap (λ (x : Filing). x.what) c.filing.view_is) ∙ c.in-Enroll.is in
    later_before c.args.self.now.history c.args.filing.now c.args.place.now c.in-Enroll.field-0 is c.requires.place legal c.if-place-eq0.false
