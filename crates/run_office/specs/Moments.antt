-- What each image of the journal's disk recovers in a run, and after it.
use Rattle.std.specs.Prelude.{◌≡◌, ℕ, IsTrue, List, [], ◌++◌, map, Result}
use Rattle.aid_filings.specs.declared.filing.Filing.{Filing}
use Rattle.aid_filings.specs.declared.reply.Operation.{Operation}
use Rattle.aid_filings.specs.declared.reply.Response.{Response}
use Rattle.io_traits.specs.DiskState.{EachImage, DiskState}
use Rattle.office_log.specs.Recovers.{Recovers}
use Rattle.office_log.specs.Scheme.{office_scheme}
use Rattle.office_log.specs.Submits.{filing_semantics, office_semantics}
use Rattle.run_generate.specs.Texts.{rows_of_text, year_texts}
use Rattle.run_generate.specs.Payments.{year_semantics}
use Rattle.run_generate.specs.declared.operation.YearOperation.{YearOperation}
use Rattle.log_session.specs.Asks.{after_asks, rows_of_asks}
use Rattle.log_session.specs.Fronts.{IsEnd, RecoversPlanned}
use Rattle.log_session.specs.Edges.{Input}
use Rattle.log_session.specs.Links.{RecoversOf}
use Rattle.log_machine.specs.Texts.{Texts, after_rows}
use Rattle.run_words.specs.declared.command.Command.{Command}
use Rattle.run_words.specs.declared.command.FundRequest.{FundRequest}
use Rattle.run_words.specs.declared.command.GenerateRequest.{GenerateRequest}
use Rattle.run_words.specs.declared.command.Command.TheVariants.{Found, File, Book, Quote, Report, Fund, Generate, CheckRows, CheckBook}
use Rattle.run_rows.specs.Asks.{book_rows, book_texts, desk_rows, desk_texts}
use Rattle.run_office.specs.Rounds.{PolicyAnswers, asks_of, fund_plans, round_of, round_texts}
use Rattle.office_rounds.specs.Planned.{IsPlanned}
use Rattle.aid_stamps.specs.declared.stamp.Stamp.{Stamp}
use Rattle.log_stamps.specs.Entries.{entries}
use Rattle.log_stamps.specs.Rows.{ask_under, stamped_rows, stamped_texts}
use Rattle.log_stamps.specs.Stamped.{stamped_semantics}
use Rattle.log_stamps.specs.declared.entry.StampedOperation.{StampedOperation}
use Rattle.log_stamps.specs.declared.entry.StampedEntry.{StampedEntry}

-- A file at a moment of a command under a stamp over an input recovers the list before it, with what some rows in front of the
-- input's add, or some payments in front of a round's.
abbrev pub MayRecover : PolicyAnswers → Stamp → Command → Input → List (StampedEntry Filing) → List ℕ → Type 0
MayRecover gives stamp File input past file = RecoversOf office_scheme office_semantics (stamped_texts desk_texts) (λ text. stamped_rows stamp (desk_rows text)) input past file
MayRecover gives stamp (Book book) input past file = RecoversOf office_scheme office_semantics (stamped_texts book_texts) (λ text. stamped_rows stamp (book_rows book.number text)) input past file
MayRecover gives stamp (Fund fund) input past file = RecoversPlanned office_scheme office_semantics (stamped_texts round_texts) (fund_plans gives stamp fund) past file
MayRecover gives stamp (Generate generate) input past file =
    RecoversOf office_scheme (stamped_semantics (year_semantics filing_semantics)) (stamped_texts year_texts) (λ text. stamped_rows stamp (rows_of_text generate.students generate.seed text)) input past file
MayRecover gives stamp _ input past file = Recovers file past

-- the list before a command that works on an office: the disk reads as it
abbrev pub StoodBefore : Command → List ℕ → List (StampedEntry Filing) → Type 0
StoodBefore File file past = Recovers file past
StoodBefore (Book book) file past = Recovers file past
StoodBefore (Quote quote) file past = Recovers file past
StoodBefore (Report report) file past = Recovers file past
StoodBefore (Fund fund) file past = Recovers file past
StoodBefore (Generate generate) file past = Recovers file past
StoodBefore _ file past = Unit {0}

-- each image recovers the list with what these rows add, which are all of the input's where its source is honest
abbrev pub AllStand : {Error : Type 0} → (texts : Texts (StampedOperation Operation) Response Error) → (List ℕ → List texts.Meaning) → Input → List (StampedEntry Filing) → DiskState → Type 0
AllStand {Error} texts rows_of input past told = (rows : List (Result (StampedOperation Operation) Error)) × (IsTrue input.honest → map texts.said rows ≡ rows_of input.before)
    × EachImage told (λ file. Recovers file (after_rows office_semantics past rows))

-- Each image recovers the list with what these asks add, which are the rows of a generated year: all of them, or, where the text
-- of its book is none, those before the row that says so.
abbrev pub YearStands : Stamp → GenerateRequest → Input → List (StampedEntry Filing) → DiskState → Type 0
YearStands stamp generate input past told = (operations : List (StampedOperation YearOperation)) × (rest : List (stamped_texts year_texts).Meaning) × IsEnd (stamped_texts year_texts) rest
    × (IsTrue input.honest → stamped_rows stamp (rows_of_text generate.students generate.seed input.before) ≡ map (stamped_texts year_texts).said (rows_of_asks operations) ++ rest)
    × EachImage told (λ file. Recovers file (after_asks (stamped_semantics (year_semantics filing_semantics)) past operations))

-- each image recovers the list with what the payments of a round on it add under the stamp
abbrev pub RoundStands : PolicyAnswers → Stamp → FundRequest → List (StampedEntry Filing) → DiskState → Type 0
RoundStands gives stamp fund past told = (filings : List Filing) × (left : ℕ) × IsPlanned (gives fund.policy) (entries past) (round_of fund) filings left
    × EachImage told (λ file. Recovers file (after_asks office_semantics past (map (ask_under stamp) (asks_of filings))))

-- what each image recovers after a command that was done; a check makes no call on the disk
abbrev pub Stands : PolicyAnswers → Stamp → Command → Input → List (StampedEntry Filing) → DiskState → Type 0
Stands gives stamp Found input past told = EachImage told (λ file. Recovers file [])
Stands gives stamp File input past told = AllStand (stamped_texts desk_texts) (λ text. stamped_rows stamp (desk_rows text)) input past told
Stands gives stamp (Book book) input past told = AllStand (stamped_texts book_texts) (λ text. stamped_rows stamp (book_rows book.number text)) input past told
Stands gives stamp (Quote quote) input past told = EachImage told (λ file. Recovers file past)
Stands gives stamp (Report report) input past told = EachImage told (λ file. Recovers file past)
Stands gives stamp (Fund fund) input past told = RoundStands gives stamp fund past told
Stands gives stamp (Generate generate) input past told = YearStands stamp generate input past told
Stands gives stamp CheckRows input past told = Unit {0}
Stands gives stamp CheckBook input past told = Unit {0}
