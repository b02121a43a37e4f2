-- Which of two withdrawals comes first.
use Rattle.std.specs.Prelude.{◌≡◌, ◌<◌, ◌⊎◌}
use Rattle.sheet_returns.specs.declared.rows.Withdrawn.{Withdrawn}

-- the one that was determined on the earlier day, or on the same day and stands at the earlier position
abbrev pub IsDueBefore : Withdrawn → Withdrawn → Type 0
IsDueBefore p q = (p.determined < q.determined) ⊎ ((p.determined ≡ q.determined) × (p.position < q.position))
