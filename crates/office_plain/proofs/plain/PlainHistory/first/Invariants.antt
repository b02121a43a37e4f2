use Rattle.std.proofs.Common.{◌≡◌, reverse, take, Option, None}
use Rattle.std.specs.Prelude.{is_some}
use Rattle.office_history.specs.Past.{earliest, first_at}
use Rattle.aid_filings.specs.declared.filing.Filing.{Filing}
use Rattle.office_plain.specs.Asked.{Answers}
use Rattle.office_plain.proofs.plain.PlainHistory.first.Given as goal

abbrev pub invariant-loop-index : goal.invariant-loop-index
invariant-loop-index g l = (told : Filing → Option _) → Answers (goal.F-post g l.operation) told →
    (first_at (λ f. is_some (told f)) (reverse (take l.index l.filings)) ≡ 0) × (earliest told (reverse (take l.index l.filings)) ≡ None)
