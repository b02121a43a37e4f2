-- What is kept of a row at which a desk of the office ended. Own.
use Rattle.std.specs.Prelude.{◌&&◌, Bool, Option, Some, None, option_map}
use Rattle.aid_filings.specs.declared.filing.Filing.{Filing}
use Rattle.aid_filings.specs.declared.filing.What.{What}
use Rattle.aid_filings.specs.declared.filing.What.TheVariants.{Book}
use Rattle.aid_filings.specs.declared.reply.Operation.{Operation}
use Rattle.aid_filings.specs.declared.reply.Operation.TheVariants.{File}
use Rattle.office_history.specs.Past.{same_filing}
use Rattle.log_stamps.specs.Entries.{with_stamp}
use Rattle.log_stamps.specs.declared.entry.StampedOperation.{StampedOperation}
use Rattle.log_stamps.specs.declared.entry.StampedEntry.{StampedEntry}
use Rattle.aid_stamps.specs.contracts.stamp.StampPartialEq.TheImpl.{eq-value as stamp_eq}

-- what is filed, but a book, which no row is
abbrev pub kept_what : What → Option What
kept_what (Book book) = None
kept_what what = Some what

abbrev pub kept_filing : Filing → What → Option Filing
kept_filing filing (Book book) = None
kept_filing filing _ = Some filing

abbrev pub kept_ask : Operation → Option Filing
kept_ask (File filing) = kept_filing filing filing.what
kept_ask _ = None

-- and with its stamp
abbrev pub kept_stamped : StampedOperation Operation → Option (StampedEntry Filing)
kept_stamped operation = option_map (with_stamp operation.stamp) (kept_ask operation.operation)

-- the same filing, with the same stamp
abbrev pub same_stamped : StampedEntry Filing → StampedEntry Filing → Bool
same_stamped one other = same_filing one.entry other.entry && stamp_eq.it one.stamp other.stamp
