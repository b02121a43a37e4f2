-- How an outcome is written. Own format.
use Rattle.std.specs.Prelude.{ℕ, List, ◌++◌, codes}
use Rattle.aid_types.specs.Cents.{cents_text}
use Rattle.law_work.specs.declared.facts.WorkOutcome.{WorkOutcome}
use Rattle.law_work.specs.declared.facts.WorkOutcome.TheVariants.{Noted, Earned}

-- `noted`, or `earned EARNED LEFT`
abbrev pub work_text : WorkOutcome → List ℕ
work_text Noted = codes "noted"
work_text (Earned earned left) = codes "earned " ++ cents_text earned ++ codes " " ++ cents_text left
