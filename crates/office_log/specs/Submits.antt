-- What an office makes of an ask.
use Rattle.std.specs.Prelude.{List, Option, Some, None, option_map, if◌then◌else◌}
use Rattle.aid_filings.specs.declared.filing.Filing.{Filing}
use Rattle.aid_filings.specs.declared.reply.Operation.{Operation}
use Rattle.aid_filings.specs.declared.reply.Operation.TheVariants.{File}
use Rattle.aid_filings.specs.declared.reply.Response.{Response}
use Rattle.log_machine.specs.Scheme.{Semantics}
use Rattle.office_history.specs.Answer.{answer_to, is_admit}
use Rattle.log_stamps.specs.Entries.{with_stamp}
use Rattle.log_stamps.specs.Stamped.{stamped_semantics}
use Rattle.log_stamps.specs.declared.entry.StampedOperation.{StampedOperation}
use Rattle.log_stamps.specs.declared.entry.StampedEntry.{StampedEntry}

-- the filing that is to be filed, without its stamp
abbrev pub filing_asked : Operation → Option Filing
filing_asked (File filing) = Some filing
filing_asked _ = None

-- the filing that an ask adds to the history: that which is to be filed, where it is admitted
abbrev pub filing_added : List Filing → Operation → Option Filing
filing_added past operation = if is_admit (answer_to past operation) then filing_asked operation else None

-- what an office makes of an ask, stamps apart
abbrev pub filing_semantics : Semantics Filing Operation Response
filing_semantics = record { answer = answer_to; added = filing_added }

-- what an office makes of an ask: stamps are no part of an answer, and what is added has that of its ask
abbrev pub office_semantics : Semantics (StampedEntry Filing) (StampedOperation Operation) Response
office_semantics = stamped_semantics filing_semantics

-- the filing that is to be filed
abbrev pub asked : StampedOperation Operation → Option (StampedEntry Filing)
asked operation = option_map (with_stamp operation.stamp) (filing_asked operation.operation)
