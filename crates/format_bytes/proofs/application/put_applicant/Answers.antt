use Rattle.std.proofs.Common.{◌≡◌, ◌∷◌, [], ◌++◌, ◌∙◌, ap, List, ℤ, pos, rules}
use Rattle.format_bytes.specs.Numbers.{region_number}
use Rattle.format_bytes.proofs.Applications.{word}
use Rattle.format_bytes.proofs.application.put_applicant.Goals as goal

pub returns-clause-added : goal.returns-clause-added
returns-clause-added c =
    let x = c.args.application.now in
    let student : word c.number_of_student-student.result ≡ pos x.student = search rules in
    let year : word c.number_of_year-year.result ≡ pos x.year = search rules in
    let transaction : word c.from-transaction.result ≡ pos x.transaction = search rules in
    let birth_year : word c.from-birth_year.result ≡ pos x.birth_year = search rules in
    let region : word c.number_of_region-region.result ≡ region_number x.region = search rules in
    let family : word c.from-family.result ≡ pos x.family = search rules in
    c.add_numbers.ensures.added ∙ ap (λ (zs : List ℤ). c.args.numbers.now.items ++ zs) (λ i. student i ∷ year i ∷ transaction i ∷ birth_year i ∷ region i ∷ family i ∷ [])
