-- Which of two places comes first.
use Rattle.std.specs.Prelude.{◌≡◌, ◌<◌, ◌⊎◌}
use Rattle.office_reports.specs.declared.rows.PaidPlace.{PaidPlace}

-- a place of a lesser school, or of the same school and a lesser student, or of the same two and a lesser term
abbrev pub IsBefore : PaidPlace → PaidPlace → Type 0
IsBefore p q =
    (p.school < q.school)
    ⊎ ((p.school ≡ q.school) × ((p.student < q.student) ⊎ ((p.student ≡ q.student) × (p.term < q.term))))
