-- A round of awards as `fund` files it. Own.
use Rattle.std.specs.Prelude.{◌≡◌, ◌<◌, ◌++◌, ℕ, ℤ, List, map, codes, decimal, Some, Result}
use Rattle.std.specs.List.{slice_get}
use Rattle.aid_filings.specs.declared.filing.Filing.{Filing}
use Rattle.aid_filings.specs.declared.reply.Operation.{Operation}
use Rattle.aid_filings.specs.declared.reply.Operation.TheVariants.{File}
use Rattle.aid_filings.specs.declared.reply.Response.{Response}
use Rattle.office_rounds.specs.Planned.{IsPlanned}
use Rattle.office_rounds.specs.declared.request.RoundRequest.{RoundRequest}
use Rattle.format_filings.specs.Lines.{error_line}
use Rattle.format_rows.specs.declared.error.RowError.{RowError}
use Rattle.log_machine.specs.Texts.{Texts}
use Rattle.run_words.specs.declared.command.Command.{Command}
use Rattle.run_words.specs.declared.command.Command.TheVariants.{Fund}
use Rattle.run_words.specs.declared.command.FundRequest.{FundRequest}
use Rattle.format_filings.specs.Replies.{line_of}
use Rattle.aid_stamps.specs.declared.stamp.Stamp.{Stamp}
use Rattle.log_stamps.specs.Entries.{entries}
use Rattle.log_stamps.specs.Rows.{ask_under}
use Rattle.log_stamps.specs.declared.entry.StampedOperation.{StampedOperation}
use Rattle.log_stamps.specs.declared.entry.StampedEntry.{StampedEntry}

-- the payments of a round say themselves, and each has the line of its answer
abbrev pub round_texts : Texts Operation Response RowError
round_texts = record {
  Meaning = Result Operation RowError;
  said = λ row. row;
  answer_line = line_of;
  error_line = error_line;
}

-- the asks that file these filings
abbrev pub asks_of : List Filing → List Operation
asks_of filings = map (λ filing. File filing) filings

-- the last line: what is left of the fund in whole dollars
abbrev pub left_line : ℕ → List ℕ
left_line left = codes "left " ++ decimal left ++ codes "\n"

-- the asks of a round on a history, each under this stamp, and its last line, by what a call of the policy may give
abbrev pub round_plans : (ℕ → ℤ → ℕ → ℕ → Type 0) → Stamp → RoundRequest → List (StampedEntry Filing) → List (StampedOperation Operation) → List ℕ → Type 0
round_plans gives stamp request past operations closing = (filings : List Filing) × (left : ℕ) × IsPlanned gives (entries past) request filings left
    × (operations ≡ map (ask_under stamp) (asks_of filings)) × (closing ≡ left_line left)

-- the round that is asked for
abbrev pub round_of : FundRequest → RoundRequest
round_of fund = record {
  school = fund.school;
  year = fund.year;
  term = fund.term;
  amount = fund.amount;
  number = fund.number;
  in_range = (fund.in_range.2, fund.in_range.4);
}

-- what a call of the policy at a place may give on a need, an index and an intensity
abbrev pub PolicyAnswers : Type 1
PolicyAnswers = ℕ → ℕ → ℤ → ℕ → ℕ → Type 0

-- the same of the policies of a list, by what a call of each may give
abbrev pub gives_at : {Policy : Type 0} → List Policy → (Policy → ℕ → ℤ → ℕ → ℕ → Type 0) → PolicyAnswers
gives_at {Policy} policies gives place need sai intensity award = (policy : Policy) × (slice_get policies place ≡ Some policy) × gives policy need sai intensity award

-- the asks and the last line of the round that a command asks for
abbrev pub fund_plans : PolicyAnswers → Stamp → FundRequest → List (StampedEntry Filing) → List (StampedOperation Operation) → List ℕ → Type 0
fund_plans gives stamp fund = round_plans (gives fund.policy) stamp (round_of fund)

-- the policy of a command, if it has one, is among so many
abbrev pub IsPolicyAmong : ℕ → Command → Type 0
IsPolicyAmong count (Fund fund) = fund.policy < count
IsPolicyAmong count command = Unit {0}
