use Rattle.std.proofs.Common.{List, ℕ, subst, sym}
use Rattle.law_terms.specs.DayText.{IsDayText}
use Rattle.run_words.proofs.at.stamp_of.Goals as goal

pub returns-in_default-clause-none : goal.returns-in_default-clause-none
returns-in_default-clause-none c none day is clerk some =
    c.in_default.not-Ok day ((c.read_day.ensures.ok day).1 (subst (λ (text : List ℕ). IsDayText text day) (sym c.as_bytes.ensures.value) is))
