-- The rules of the work-study desk as those of a list of filings: the key, the first rule that a filing breaks, and its outcome.
use Rattle.std.specs.Prelude.{◌≡◌, ◌<◌, List, [], ◌∷◌, length, None}
use Rattle.format_kinds.specs.Kinds.{key_slots}
use Rattle.log_rules.specs.Rows.{SpellsRows, ruling_by}
use Rattle.log_rules.specs.Ruled.{IsLegal}
use Rattle.log_rules.specs.Ruling.{Ruling}
use Rattle.log_rules.specs.RowLaws.{rows_by}
use Rattle.law_work.specs.declared.filing.WorkFiling.{WorkFiling}
use Rattle.law_work.specs.AddsUp.{AddsUp}
use Rattle.law_work.specs.Rules.{AreAllowed, breaks, outcome_of}
use Rattle.law_work.specs.declared.facts.WorkOutcome.{WorkOutcome}
use Rattle.law_work.proofs.AllowedAddsUp.{allowed_adds_up}
use Rattle.law_work.proofs.Holding.{has_room}
use Rattle.work_study.specs.Kinds.{work_kinds}
use Rattle.work_study.specs.Numbers.{code_of_work, numbers_of_work}
use Rattle.work_study.specs.Same.{same_work}
use Rattle.aid_types.specs.Limits.{most_desk_filings}

abbrev pub work_ruling : Ruling WorkFiling WorkOutcome
work_ruling = ruling_by key_slots work_kinds code_of_work numbers_of_work (λ filing. filing.key) breaks outcome_of

-- ---- what holds of it
-- a filing is spelled as the row of its code and its numbers
pub spells_work : SpellsRows work_ruling key_slots work_kinds code_of_work numbers_of_work
spells_work = rows_by key_slots work_kinds code_of_work numbers_of_work (λ (filing : WorkFiling). filing.key) breaks outcome_of same_work

-- rule 210: a full list takes no more
pub work_has_room : (past : List WorkFiling) (filing : WorkFiling) → breaks past filing ≡ None → length past < most_desk_filings
work_has_room past filing h = has_room past filing h

-- each filing of a legal list breaks no rule on those before it
pub legal_work_allowed : (past : List WorkFiling) → IsLegal work_ruling past → AreAllowed past
legal_work_allowed [] legal = tt
legal_work_allowed (f ∷ past) legal = (legal_work_allowed past legal.0, legal.2)

-- so each fund adds up
pub legal_work_adds_up : (past : List WorkFiling) → IsLegal work_ruling past → AddsUp past
legal_work_adds_up past legal = allowed_adds_up past (legal_work_allowed past legal)
