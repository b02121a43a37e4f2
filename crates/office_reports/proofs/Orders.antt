-- The order of paid places.
use Rattle.std.proofs.Common.{◌≡◌, refl, ap, ◌∙◌}
use Rattle.std.specs.Prelude.{◌&&◌, ◌==◌}
use Rattle.std.specs.Cmp.{IsTotalOrder, unsigned_ties}
use Rattle.std.specs.Ordering.{eq_by_cmp, is_eq, nat_cmp, ordering_then}
use Rattle.std.specs.declared.cmp.Ordering.{Ordering}
use Rattle.std.specs.declared.cmp.Ordering.TheVariants.{Less, Equal, Greater}
use Rattle.std.proofs.lemmas.Cmp.{nat_cmp_total, on_total, then_total}
use Rattle.std.proofs.lemmas.Map.Lookups.{CmpEqualImpliesEq, exact_unsigned}
use Rattle.office_reports.specs.Rows.{place_order}
use Rattle.office_reports.specs.declared.rows.PaidPlace.{PaidPlace}

pub place_order_total : IsTotalOrder place_order
place_order_total =
    then_total (then_total (on_total (λ (p : PaidPlace). p.school) nat_cmp_total) (on_total (λ (p : PaidPlace). p.student) nat_cmp_total))
    (on_total (λ (p : PaidPlace). p.term) nat_cmp_total)

-- both are equal
first : (a b : Ordering) → ordering_then a b ≡ Equal → a ≡ Equal
first Less b e = e
first Equal b e = refl
first Greater b e = e

second : (a b : Ordering) → ordering_then a b ≡ Equal → b ≡ Equal
second Less b e = absurd (cc (e))
second Equal b e = e
second Greater b e = absurd (cc (e))

-- equal places are the same
pub place_exact : CmpEqualImpliesEq place_order
place_exact p q e =
    let schools = nat_cmp p.school q.school in
    let students = nat_cmp p.student q.student in
    let terms = nat_cmp p.term q.term in
    let front = first (ordering_then schools students) terms e in
    let school = exact_unsigned p.school q.school (first schools students front) in
    let student = exact_unsigned p.student q.student (second schools students front) in
    let term = exact_unsigned p.term q.term (second (ordering_then schools students) terms e) in
    λ i. record { school = school i; student = student i; term = term i }

-- `==` tells places apart as the order does
pub place_ties : (p q : PaidPlace) → (p.school == q.school && (p.student == q.student && p.term == q.term)) ≡ eq_by_cmp place_order p q
place_ties p q =
    ap (λ b. b && (p.student == q.student && p.term == q.term)) (unsigned_ties p.school q.school)
    ∙ ap (λ b. is_eq schools && (b && p.term == q.term)) (unsigned_ties p.student q.student)
    ∙ ap (λ b. is_eq schools && (is_eq students && b)) (unsigned_ties p.term q.term)
    ∙ three schools students terms
  where
    schools : Ordering
    schools = nat_cmp p.school q.school

    students : Ordering
    students = nat_cmp p.student q.student

    terms : Ordering
    terms = nat_cmp p.term q.term

    three : (a b c : Ordering) → (is_eq a && (is_eq b && is_eq c)) ≡ is_eq (ordering_then (ordering_then a b) c)
    three Less b c = refl
    three Equal Less c = refl
    three Equal Equal c = refl
    three Equal Greater c = refl
    three Greater b c = refl
