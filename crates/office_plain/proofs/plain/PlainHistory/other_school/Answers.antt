use Rattle.std.proofs.Common.{◌∙◌, sym, ap, Option}
use Rattle.aid_types.specs.declared.term.Term.{Term}
use Rattle.office_history.specs.Positions.{is_paid_beside, least_code}
use Rattle.office_history.specs.Past.{terms_on_file}
use Rattle.office_plain.proofs.Terms.{none_beside}
use Rattle.office_plain.proofs.plain.PlainHistory.other_school.Goals as goal

pub returns-in_default : goal.returns-in_default
returns-in_default c =
    let past = c.args.self.now in
    sym (ap (λ (o : Option Term). least_code (is_paid_beside past c.args.school c.args.student o) (terms_on_file past)) c.in_default.is
    ∙ none_beside past c.args.school c.args.student (terms_on_file past))
