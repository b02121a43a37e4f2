-- How the lines about a corrected list are written. Own format.
use Rattle.std.specs.Prelude.{ℕ, List, [], ◌∷◌, Option, Some, bytes_eq, codes, decimal, if◌then◌else◌}
use Rattle.aid_types.specs.declared.award.Refusal.{Refusal}
use Rattle.aid_filings.specs.declared.filing.Filing.{Filing}
use Rattle.aid_filings.specs.declared.reply.Outcome.{Outcome}
use Rattle.aid_filings.specs.declared.reply.Response.{Response}
use Rattle.aid_filings.specs.declared.reply.Response.TheVariants.{Again, Refused, Admit}
use Rattle.format_filings.specs.Replies.{outcome_text}
use Rattle.format_filings.specs.WrittenRows.{row_text}
use Rattle.office_export.specs.Lines.{line_of as line}

-- POSITION OLDROW replaced NEWROW, POSITION OLDROW voided, POSITION ROW inserted
abbrev pub replaced_line : ℕ → Filing → Filing → List ℕ
replaced_line position old new = line (decimal position ∷ row_text old ∷ codes "replaced" ∷ row_text new ∷ [])

abbrev pub voided_line : ℕ → Filing → List ℕ
voided_line position old = line (decimal position ∷ row_text old ∷ codes "voided" ∷ [])

abbrev pub inserted_line : ℕ → Filing → List ℕ
inserted_line position new = line (decimal position ∷ row_text new ∷ codes "inserted" ∷ [])

-- POSITION ROW was OUTCOME now OUTCOME, where they differ
abbrev pub changed_line : ℕ → Filing → Outcome → Outcome → List ℕ
changed_line position f was now =
    if bytes_eq (outcome_text was) (outcome_text now) then []
    else line (decimal position ∷ row_text f ∷ codes "was" ∷ outcome_text was ∷ codes "now" ∷ outcome_text now ∷ [])

-- POSITION ROW refused RULE KEPT BOUND, POSITION ROW again POSITION
abbrev pub refused_line : ℕ → Filing → Refusal → List ℕ
refused_line position f r =
    line (decimal position ∷ row_text f ∷ codes "refused" ∷ decimal r.rule ∷ decimal r.kept ∷ decimal r.bound ∷ [])

abbrev pub again_line : ℕ → Filing → ℕ → List ℕ
again_line position f at = line (decimal position ∷ row_text f ∷ codes "again" ∷ decimal at ∷ [])

-- the line about the answer to a filing, which was admitted to the old list with an outcome, or wasn't in it
abbrev pub answer_line : ℕ → Filing → Option Outcome → Response → List ℕ
answer_line position f was (Refused r) = refused_line position f r
answer_line position f was (Again at outcome) = again_line position f at
answer_line position f (Some was) (Admit now) = changed_line position f was now
answer_line position f _ _ = []

-- the last line: errors COUNT of the rows, refused COUNT of the filings that don't stand, amended COUNT of the filings of the new list
abbrev pub errors_line : ℕ → List ℕ
errors_line count = line (codes "errors" ∷ decimal count ∷ [])

abbrev pub refused_total : ℕ → List ℕ
refused_total count = line (codes "refused" ∷ decimal count ∷ [])

abbrev pub amended_line : ℕ → List ℕ
amended_line count = line (codes "amended" ∷ decimal count ∷ [])
