-- How an office's filings are kept.
use Rattle.std.specs.Prelude.{[], ◌∷◌, Some, None, refl}
use Rattle.aid_filings.specs.declared.filing.Filing.{Filing}
use Rattle.format_bytes.specs.Numbers.{IsFiling}
use Rattle.format_bytes.specs.Spelling.{spelling}
use Rattle.log_journal.specs.declared.header.Header.{Header}
use Rattle.log_machine.specs.Scheme.{Scheme}
use Rattle.office_history.specs.Answer.{answer_of, is_admit, IsLegal}
use Rattle.log_stamps.specs.Stamped.{stamped_scheme}
use Rattle.log_stamps.specs.declared.entry.StampedEntry.{StampedEntry}

-- the name AIDPELL1, and the version 1, in which filings have no stamps
abbrev pub old_header : Header
old_header = record { name = 65 ∷ 73 ∷ 68 ∷ 80 ∷ 69 ∷ 76 ∷ 76 ∷ 49 ∷ []; version = 1; old = None; name_size = refl }

-- the same name, and the version 2, which tells a file of the version 1 apart
abbrev pub office_header : Header
office_header = record { name = 65 ∷ 73 ∷ 68 ∷ 80 ∷ 69 ∷ 76 ∷ 76 ∷ 49 ∷ []; version = 2; old = Some 1; name_size = refl }

-- filings without stamps have one spelling each, and each of them was admitted on those before it
abbrev pub filing_scheme : Scheme Filing
filing_scheme = record { header = old_header; spelling = spelling; IsEntry = IsFiling; admits = λ past filing. is_admit (answer_of past filing); IsLegal = IsLegal }

-- an office's filings stand behind their stamps
abbrev pub office_scheme : Scheme (StampedEntry Filing)
office_scheme = stamped_scheme office_header filing_scheme
