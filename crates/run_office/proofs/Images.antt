-- What each image of the disk recovers at each moment of a command, and behind it.
use Rattle.std.proofs.Common.{◌≡◌, inl, ⊎_elim, ℕ, Bool, true, false, List, [], ◌∷◌, ◌++◌, map, Result, Ok, Err, None, ap, subst, refl, sym, ◌∙◌, arith, append-nil, map-id}
use Rattle.std.specs.Prelude.{if◌then◌else◌, option_map}
use Rattle.aid_filings.specs.declared.filing.Filing.{Filing}
use Rattle.aid_filings.specs.declared.reply.Operation.{Operation}
use Rattle.format_rows.specs.declared.error.RowError.{RowError}
use Rattle.io_traits.specs.DiskState.{EachImage, EachMoment, IsHonest}
use Rattle.io_traits.specs.declared.disk.Disk.{Ghosts}
use Rattle.io_traits.proofs.Moments.{started, weaken}
use Rattle.log_machine.specs.Submits.{with_entry}
use Rattle.log_machine.proofs.Histories.{recovers_once}
use Rattle.office_log.specs.OfficeLaws.{office_alone}
use Rattle.office_log.specs.Recovers.{Recovers}
use Rattle.office_log.specs.Scheme.{office_scheme}
use Rattle.office_log.specs.Submits.{filing_added, filing_semantics, office_semantics}
use Rattle.run_generate.specs.Texts.{rows_of_text, year_texts}
use Rattle.run_generate.specs.Counted.{year_counted, year_ending}
use Rattle.run_generate.specs.Payments.{year_semantics}
use Rattle.log_session.specs.Asks.{after_asks, rows_of_asks}
use Rattle.log_session.specs.Planned.{Planned}
use Rattle.log_session.proofs.Behind.{after_rows_of_asks}
use Rattle.log_session.proofs.Moments.{images_of_counted_session, images_of_planned, moments_of_counted_session, moments_of_planned}
use Rattle.log_session.specs.Edges.{Input, Output}
use Rattle.log_session.specs.Links.{IsOpened}
use Rattle.log_session.specs.Reports.{Reports}
use Rattle.log_session.specs.Reports as telling
use Rattle.log_session.specs.Sessions.{Opens, Session, read}
use Rattle.log_machine.specs.Texts.{after_row, after_rows}
use Rattle.log_session.specs.declared.stop.SessionStop.{SessionStop}
use Rattle.log_session.proofs.Fronts.{images_of_session, moments_of_session}
use Rattle.office_history.specs.Answer.{answer_to, is_admit}
use Rattle.aid_stamps.specs.declared.stamp.Stamp.{Stamp}
use Rattle.log_stamps.specs.Entries.{entries, with_stamp}
use Rattle.log_stamps.specs.Rows.{ask_under, stamped_rows, stamped_texts}
use Rattle.log_stamps.specs.Stamped.{stamped_semantics}
use Rattle.log_stamps.specs.declared.entry.StampedOperation.{StampedOperation}
use Rattle.log_stamps.specs.declared.entry.StampedEntry.{StampedEntry}
use Rattle.log_stamps.specs.declared.entry.StampedError.{StampedError}
use Rattle.run_words.specs.declared.command.StampedCommand.{StampedCommand}
use Rattle.run_words.specs.declared.command.Command.{Command}
use Rattle.run_words.specs.declared.command.Command.TheVariants.{Found, File, Book, Quote, Report, Fund, Generate, CheckRows, CheckBook}
use Rattle.run_words.specs.declared.command.FundRequest.{FundRequest}
use Rattle.run_words.specs.declared.command.GenerateRequest.{GenerateRequest}
use Rattle.run_words.specs.declared.command.QuoteRequest.{QuoteRequest}
use Rattle.run_rows.specs.Asks.{book_rows, book_texts, desk_rows, desk_texts, quote_ask, quote_rows, quote_texts}
use Rattle.run_office.specs.Texts.{no_verdicts, report_text}
use Rattle.run_office.specs.Rounds.{PolicyAnswers, fund_plans, round_texts}
use Rattle.run_office.specs.Moments.{MayRecover, RoundStands, Stands, StoodBefore}
use Rattle.run_office.specs.Ran.{Does, founding, filing, booking, quoting, reporting, funding, generating, checking_rows, checking_book}
use Rattle.log_runs.specs.Statuses.{ended_file}
use Rattle.log_runs.specs.declared.stop.RunStop.{RunStop}
use Rattle.log_runs.proofs.ListImages.{moments_of_found, stands_of_found, stays}

-- a file recovers one history at most
once : (file : List ℕ) (one other : List (StampedEntry Filing)) → Recovers file one → Recovers file other → one ≡ other
once file one other = recovers_once office_scheme office_alone file one other

-- ---- a quote adds nothing
nothing : (operations : Bool) (stamp : Stamp) (past : List (StampedEntry Filing)) → with_entry (option_map (with_stamp stamp) (if operations then None else None)) past ≡ past
nothing true stamp past = refl
nothing false stamp past = refl

quote_adds : (quote : QuoteRequest) (operation : StampedOperation Operation) (past : List (StampedEntry Filing)) → operation.operation ≡ quote_ask quote → after_row {Error = StampedError RowError} office_semantics past (Ok operation) ≡ past
quote_adds quote operation past is =
    ap (λ (a : Operation). with_entry (option_map (with_stamp operation.stamp) (filing_added (entries past) a)) past) is ∙ nothing (is_admit (answer_to (entries past) (quote_ask quote))) operation.stamp past

quotes_add : (quote : QuoteRequest) (stamp : Stamp) (past : List (StampedEntry Filing)) (rows : List (Result (StampedOperation Operation) (StampedError RowError))) (rest : List (stamped_texts quote_texts).Meaning)
    → stamped_rows stamp (quote_rows quote) ≡ map (stamped_texts quote_texts).said rows ++ rest → after_rows office_semantics past rows ≡ past
quotes_add quote stamp past [] rest is = refl
quotes_add quote stamp past (Err error ∷ []) rest is = refl
quotes_add quote stamp past (Ok operation ∷ []) rest is =
    let one : (stamped_texts quote_texts).Meaning = (Ok (quote_ask quote), stamp) in
    let other : (stamped_texts quote_texts).Meaning = (Ok operation.operation, operation.stamp) in
    let same : one ≡ other = cc in
    let said : one.0 ≡ other.0 = ap (λ (m : (stamped_texts quote_texts).Meaning). m.0) same in
    quote_adds quote operation past (let operations : quote_ask quote ≡ operation.operation = cc in sym operations)
quotes_add quote stamp past (Err error ∷ other ∷ rows) rest is = absurd (let bad : ⊥ = cc in bad)
quotes_add quote stamp past (Ok operation ∷ other ∷ rows) rest is = absurd (let bad : ⊥ = cc in bad)

-- what a row says, its stamp apart
abbrev first_of : Result (StampedOperation Operation) (StampedError RowError) → Result Operation RowError
first_of row = ((stamped_texts round_texts).said row).0

-- rows that say themselves are told by what they say
same_row : (row other : Result (StampedOperation Operation) (StampedError RowError)) → (stamped_texts round_texts).said row ≡ (stamped_texts round_texts).said other → row ≡ other
same_row (Ok operation) (Ok another) same =
    let said : first_of (Ok operation) ≡ first_of (Ok another) = ap (λ (m : (stamped_texts round_texts).Meaning). m.0) same in
    let operations : operation.operation ≡ another.operation = cc in
    let stamps : operation.stamp ≡ another.stamp = ap (λ (m : (stamped_texts round_texts).Meaning). m.1) same in
    λ i. Ok (record { operation = operations i; stamp = stamps i })
same_row (Err error) (Err another) same =
    let said : first_of (Err error) ≡ first_of (Err another) = ap (λ (m : (stamped_texts round_texts).Meaning). m.0) same in
    let errors : error.error ≡ another.error = cc in
    let stamps : error.stamp ≡ another.stamp = ap (λ (m : (stamped_texts round_texts).Meaning). m.1) same in
    λ i. Err (record { error = errors i; stamp = stamps i })
same_row (Ok operation) (Err error) same =
    let said : first_of (Ok operation) ≡ first_of (Err error) = ap (λ (m : (stamped_texts round_texts).Meaning). m.0) same in
    absurd (let bad : ⊥ = cc in bad)
same_row (Err error) (Ok operation) same =
    let said : first_of (Err error) ≡ first_of (Ok operation) = ap (λ (m : (stamped_texts round_texts).Meaning). m.0) same in
    absurd (let bad : ⊥ = cc in bad)

same_rows : (rows others : List (Result (StampedOperation Operation) (StampedError RowError))) → map (stamped_texts round_texts).said rows ≡ map (stamped_texts round_texts).said others → rows ≡ others
same_rows [] [] same = refl
same_rows [] (other ∷ others) same = absurd (let bad : ⊥ = cc in bad)
same_rows (row ∷ rows) [] same = absurd (let bad : ⊥ = cc in bad)
same_rows (row ∷ rows) (other ∷ others) same =
    let first = same_row row other (cc) in
    let more = same_rows rows others (cc) in
    λ i. first i ∷ more i

-- what the rows of an input say under a stamp
abbrev desk_under : Stamp → List ℕ → List (stamped_texts desk_texts).Meaning
desk_under stamp text = stamped_rows stamp (desk_rows text)

abbrev book_under : Stamp → ℕ → List ℕ → List (stamped_texts book_texts).Meaning
book_under stamp number text = stamped_rows stamp (book_rows number text)

abbrev year_under : Stamp → GenerateRequest → List ℕ → List (stamped_texts year_texts).Meaning
year_under stamp generate text = stamped_rows stamp (rows_of_text generate.students generate.seed text)

-- a file that recovers the list before a command is one of those that may be at a moment of it
before_rows : (gives : PolicyAnswers) (stamp : Stamp) (command : Command) (input : Input) (past : List (StampedEntry Filing)) (file : List ℕ) → Recovers file past → MayRecover gives stamp command input past file
before_rows gives stamp Found input past file r = r
before_rows gives stamp File input past file r = (desk_under stamp input.before, λ honest. refl, ([], desk_under stamp input.before, refl, r))
before_rows gives stamp (Book book) input past file r = (book_under stamp book.number input.before, λ honest. refl, ([], book_under stamp book.number input.before, refl, r))
before_rows gives stamp (Quote quote) input past file r = r
before_rows gives stamp (Report report) input past file r = r
before_rows gives stamp (Fund fund) input past file r = inl r
before_rows gives stamp (Generate generate) input past file r = (year_under stamp generate input.before, λ honest. refl, ([], year_under stamp generate input.before, refl, r))
before_rows gives stamp CheckRows input past file r = r
before_rows gives stamp CheckBook input past file r = r

-- an input of one answer, whatever it is
module _ {D : Type 0} (gives : PolicyAnswers) (disk : Ghosts D) (only : (d : D) (c : List ℕ) → IsHonest (disk.tells d) → (disk.tells d).image_since (disk.tells d).moment c → (disk.tells d).image c)
    (here : (d : D) → IsHonest (disk.tells d) → (disk.tells d).image (disk.tells d).reads) where
  -- each image recovers the list before
  abbrev Each : D → List (StampedEntry Filing) → Type 0
  Each at past = EachImage (disk.tells at) (λ file. Recovers file past)

  -- a quote is a session over an input that has no bytes, and says what is asked
  as_session : (quote : QuoteRequest) (stamp : Stamp) (old new : D) (output : Output) (ended : Result Unit SessionStop) → Opens disk office_scheme office_semantics (stamped_texts quote_texts) old new output (stamped_rows stamp (quote_rows quote)) ended
      → Session disk office_scheme office_semantics (stamped_texts quote_texts) (λ text. stamped_rows stamp (quote_rows quote)) 0 old new (record { honest = true; before = []; after = [] }) output ended
  as_session quote stamp old new output ended opens =
      read (stamped_rows stamp (quote_rows quote)) ended (record { short = λ honest. omega arith; end = λ honest. refl }) (λ honest. refl) opens

  -- a list that was opened is the one before
  moments_of_opened : (old new : D) (past list : List (StampedEntry Filing)) → IsHonest (disk.tells old) → Each old past → IsOpened disk office_scheme list old new
      → EachMoment (disk.tells old) (disk.tells new) (λ file. Recovers file past)
  moments_of_opened old new past list honest each is =
      let same : list ≡ past = once (disk.tells old).reads list past (is.recovers honest) (each (disk.tells old).reads (here old honest)) in
      subst (λ (h : List (StampedEntry Filing)). EachMoment (disk.tells old) (disk.tells new) (λ file. Recovers file h)) same
      (is.moments honest (subst (Each old) (sym same) each))

  moments_of_report : (old new : D) (text : List (StampedEntry Filing) → List ℕ) (output : Output) (ended : Result Unit SessionStop) (past : List (StampedEntry Filing)) → IsHonest (disk.tells old) → Each old past
      → Reports disk office_scheme text old new output ended → EachMoment (disk.tells old) (disk.tells new) (λ file. Recovers file past)
  moments_of_report old new text output ended past honest each (telling.unopened error n same) = n.moments honest past each
  moments_of_report old new text output ended past honest each (telling.told list is wrote) = moments_of_opened old new past list honest each is
  moments_of_report old new text output ended past honest each (telling.unwritten list is cut) = moments_of_opened old new past list honest each is
  moments_of_report old new text output ended past honest each (telling.starved list is same) = moments_of_opened old new past list honest each is

  moments : (stamp : Stamp) (old new : D) (input : Input) (output : Output) (command : Command) (ended : Result Unit RunStop) (past : List (StampedEntry Filing)) → Does gives disk old new input output stamp command ended
      → IsHonest (disk.tells old) → Each old past → EachMoment (disk.tells old) (disk.tells new) (MayRecover gives stamp command input past)
  moments stamp old new input output command ended past (founding inner session) honest each = moments_of_found disk office_scheme only here old new _ output inner past honest each session
  moments stamp old new input output command ended past (filing inner session) honest each =
      moments_of_session disk office_scheme office_semantics only (stamped_texts desk_texts) output once (desk_under stamp) 16777216 input here inner past old new honest each session
  moments stamp old new input output command ended past (booking book inner session) honest each =
      moments_of_session disk office_scheme office_semantics only (stamped_texts book_texts) output once (book_under stamp book.number) 16777216 input here inner past old new honest each session
  moments stamp old new input output command ended past (quoting quote inner opens) honest each =
      weaken (disk.tells old) (disk.tells new) _ (λ file. Recovers file past)
      (λ file of. subst (λ (h : List (StampedEntry Filing)). Recovers file h) (quotes_add quote stamp past of.2.0 of.2.1 (sym (of.1 refl) ∙ of.2.2)) of.2.3)
      (moments_of_session disk office_scheme office_semantics only (stamped_texts quote_texts) output once (λ text. stamped_rows stamp (quote_rows quote)) 0 (record { honest = true; before = []; after = [] }) here inner past old new honest each
      (as_session quote stamp old new output inner opens))
  moments stamp old new input output command ended past (reporting report inner reports) honest each = moments_of_report old new (report_text report) output inner past honest each reports
  moments stamp old new input output command ended past (funding fund inner planned) honest each =
      moments_of_planned disk office_scheme office_semantics only (stamped_texts round_texts) once here (fund_plans gives stamp fund) output inner past old new honest each planned
  moments stamp old new input output command ended past (generating generate inner session) honest each =
      moments_of_counted_session disk office_scheme (stamped_semantics (year_semantics filing_semantics)) only (stamped_texts year_texts) once here year_counted year_ending no_verdicts
      (year_under stamp generate) 16777216 input output inner past old new honest each session
  moments stamp old new input output command ended past (checking_rows _ same checks) honest each = stays disk office_scheme only here (λ file. Recovers file past) old new honest each same
  moments stamp old new input output command ended past (checking_book _ same checks) honest each = stays disk office_scheme only here (λ file. Recovers file past) old new honest each same

  -- where no command was begun
  pub moments_unread : (stamp : Stamp) (old : D) (input : Input) (command : Command) (past : List (StampedEntry Filing)) → IsHonest (disk.tells old) → Each old past → EachMoment (disk.tells old) (disk.tells old) (MayRecover gives stamp command input past)
  moments_unread stamp old input command past honest each =
      started (disk.tells old) (MayRecover gives stamp command input past) (λ file since. before_rows gives stamp command input past file (each file (only old file honest since)))

  -- the same of the command that the words are the row of
  pub moments_by : (old new : D) (input : Input) (output : Output) (it same : StampedCommand) (ended : Result Unit RunStop) (past : List (StampedEntry Filing)) → it ≡ same
      → Does gives disk old new input output it.stamp it.command ended → IsHonest (disk.tells old) → Each old past → EachMoment (disk.tells old) (disk.tells new) (MayRecover gives same.stamp same.command input past)
  moments_by old new input output it same ended past is does honest each =
      subst (λ (k : StampedCommand). EachMoment (disk.tells old) (disk.tells new) (MayRecover gives k.stamp k.command input past)) is (moments it.stamp old new input output it.command ended past does honest each)

  -- ---- where all was done
  session_done : (ended : Result Unit SessionStop) → ended_file ended ≡ Ok tt → ended ≡ Ok tt
  session_done (Ok done) is = refl
  session_done (Err stop) is = absurd (let bad : ⊥ = cc in bad)

  stands_of_report : (old new : D) (text : List (StampedEntry Filing) → List ℕ) (output : Output) (ended : Result Unit SessionStop) (past : List (StampedEntry Filing)) → IsHonest (disk.tells old) → Recovers (disk.tells old).reads past
      → Reports disk office_scheme text old new output ended → ended ≡ Ok tt → Each new past
  stands_of_report old new text output ended past honest reads (telling.unopened error n same) well = absurd (let bad : ⊥ = cc in bad)
  stands_of_report old new text output ended past honest reads (telling.told list is wrote) well =
      subst (Each new) (once (disk.tells old).reads list past (is.recovers honest) reads) (is.images honest)
  stands_of_report old new text output ended past honest reads (telling.unwritten list is cut) well = absurd (let bad : ⊥ = cc in bad)
  stands_of_report old new text output ended past honest reads (telling.starved list is same) well = absurd (let bad : ⊥ = cc in bad)

  -- the rows of a round are the asks of its payments
  payments_of : (operations : List (StampedOperation Operation)) (rows : List (Result (StampedOperation Operation) (StampedError RowError)))
      → map (stamped_texts round_texts).said rows ≡ map (stamped_texts round_texts).said (rows_of_asks {Error = StampedError RowError} operations) → (past : List (StampedEntry Filing))
      → after_rows office_semantics past rows ≡ after_asks office_semantics past operations
  payments_of operations rows same past =
      let are : rows ≡ rows_of_asks operations = same_rows rows (rows_of_asks operations) same in
      ap (after_rows office_semantics past) are ∙ after_rows_of_asks office_semantics (StampedError RowError) past operations

  stands_of_round : (stamp : Stamp) (fund : FundRequest) (old new : D) (output : Output) (ended : Result Unit SessionStop) (past : List (StampedEntry Filing)) → ended ≡ Ok tt → IsHonest (disk.tells old) → Recovers (disk.tells old).reads past
      → Planned disk office_scheme office_semantics (stamped_texts round_texts) (fund_plans gives stamp fund) old new output ended → RoundStands gives stamp fund past (disk.tells new)
  stands_of_round stamp fund old new output ended past well honest reads planned =
      let (operations, closing, rows, (filings, left, is, are, closed), said, images) =
      images_of_planned disk office_scheme office_semantics only (stamped_texts round_texts) once here (fund_plans gives stamp fund) output ended past old new well honest reads planned in (
        filings,
        left,
        is,
        λ c image. subst (λ (h : List (StampedEntry Filing)). Recovers c h) (payments_of operations rows said past ∙ ap (after_asks office_semantics past) are) (images c image),
      )

  stands : (stamp : Stamp) (old new : D) (input : Input) (output : Output) (command : Command) (ended : Result Unit RunStop) (past : List (StampedEntry Filing)) → Does gives disk old new input output stamp command ended
      → ended ≡ Ok tt → IsHonest (disk.tells old) → StoodBefore command (disk.tells old).reads past → Stands gives stamp command input past (disk.tells new)
  stands stamp old new input output command ended past (founding inner session) well honest stood = stands_of_found disk office_scheme only here old new _ output inner honest session well
  stands stamp old new input output command ended past (filing inner session) well honest stood =
      images_of_session disk office_scheme office_semantics only (stamped_texts desk_texts) output once (desk_under stamp) 16777216 input inner past old new (session_done inner well) honest stood session
  stands stamp old new input output command ended past (booking book inner session) well honest stood =
      images_of_session disk office_scheme office_semantics only (stamped_texts book_texts) output once (book_under stamp book.number) 16777216 input inner past old new (session_done inner well) honest stood session
  stands stamp old new input output command ended past (quoting quote inner opens) well honest stood =
      let (rows, said, images) = images_of_session disk office_scheme office_semantics only (stamped_texts quote_texts) output once (λ text. stamped_rows stamp (quote_rows quote)) 0 (record { honest = true; before = []; after = [] }) inner past old new
      (session_done inner well) honest stood (as_session quote stamp old new output inner opens) in
      λ c image. subst (λ (h : List (StampedEntry Filing)). Recovers c h) (quotes_add quote stamp past rows [] (sym (said refl) ∙ sym (append-nil (map (stamped_texts quote_texts).said rows)))) (images c image)
  stands stamp old new input output command ended past (reporting report inner reports) well honest stood =
      stands_of_report old new (report_text report) output inner past honest stood reports (session_done inner well)
  stands stamp old new input output command ended past (funding fund inner planned) well honest stood = stands_of_round stamp fund old new output inner past (session_done inner well) honest stood planned
  stands stamp old new input output command ended past (generating generate inner session) well honest stood =
      images_of_counted_session disk office_scheme (stamped_semantics (year_semantics filing_semantics)) only (stamped_texts year_texts) once here year_counted year_ending no_verdicts
      (year_under stamp generate) 16777216 input output inner past old new (session_done inner well) honest stood session
  stands stamp old new input output command ended past (checking_rows _ same checks) well honest stood = tt
  stands stamp old new input output command ended past (checking_book _ same checks) well honest stood = tt

  pub stands_by : (old new : D) (input : Input) (output : Output) (it same : StampedCommand) (ended : Result Unit RunStop) (past : List (StampedEntry Filing)) → it ≡ same
      → Does gives disk old new input output it.stamp it.command ended → ended ≡ Ok tt → IsHonest (disk.tells old) → StoodBefore same.command (disk.tells old).reads past
      → Stands gives same.stamp same.command input past (disk.tells new)
  stands_by old new input output it same ended past is does well honest stood =
      subst (λ (k : StampedCommand). Stands gives k.stamp k.command input past (disk.tells new)) is
      (stands it.stamp old new input output it.command ended past does well honest (subst (λ (k : StampedCommand). StoodBefore k.command (disk.tells old).reads past) (sym is) stood))
