-- How many replies of a connection have which status, by its answers.
use Rattle.std.proofs.Common.{◌≡◌, ℕ, ◌+◌, ◌≤◌, List, [], ◌∷◌, Option, Some, None, refl, sym, ap₂, subst, arith, codes}
use Rattle.std.specs.Prelude.{bytes_eq, if◌then◌else◌}
use Rattle.std.specs.List.{list_any}
use Rattle.aid_filings.specs.declared.filing.Filing.{Filing}
use Rattle.aid_filings.specs.declared.reply.Operation.{Operation}
use Rattle.aid_filings.specs.declared.reply.Response.{Response}
use Rattle.aid_filings.specs.declared.reply.Response.TheVariants.{Admit, Again, Refused, Quoted, Standing}
use Rattle.aid_stamps.specs.declared.stamp.Stamp.{Stamp}
use Rattle.log_machine.specs.declared.names.Filed.{Filed}
use Rattle.log_machine.specs.declared.names.RowName.{RowName}
use Rattle.log_machine.specs.declared.reply.LogReply.{LogReply}
use Rattle.log_machine.specs.declared.reply.LogReply.TheVariants.{Answered, DiskFault, NoMemory}
use Rattle.log_stamps.specs.Rows.{own_under, semantics_under}
use Rattle.log_stamps.specs.declared.entry.StampedEntry.{StampedEntry}
use Rattle.office_log.specs.Submits.{filing_asked, filing_semantics}
use Rattle.web_json.specs.Forms.{status_for}
use Rattle.web_session.specs.Asks.{Request}
use Rattle.web_session.specs.Responses.{Answer}
use Rattle.web_session.specs.declared.status.Status.{Status}
use Rattle.web_session.specs.declared.status.Status.TheVariants.{Okay, Created, BadRequest, NotFound, MethodNotAllowed, LengthRequired, ContentTooLarge, Unprocessable, HeadTooLarge, NotImplemented, Unavailable, NoStorage}
use Rattle.web_workers.specs.Told.{AreAnswersTo, IsAnswerTo, ask_in, count_asks, count_no_storage, one_if_no_storage, one_if_some, refusal_of}
use Rattle.run_server.proofs.Exchanges.{line, statuses_of}
use Rattle.run_server.specs.OfficeApi.{office_web}
use Rattle.run_server.specs.RanPorts.{times}

abbrev pub no_memory : List (List ℕ)
no_memory = codes "507 Insufficient Storage" ∷ []

-- the other statuses of the reply to an ask
abbrev pub otherwise : List (List ℕ)
otherwise = codes "200 OK" ∷ codes "201 Created" ∷ codes "422 Unprocessable Entity" ∷ codes "503 Service Unavailable" ∷ []

abbrev one_among : List (List ℕ) → Status → ℕ
one_among among s = if list_any (bytes_eq (line s)) among then 1 else 0

-- ---- 507
want_once : (s : Status) → one_among no_memory s ≡ one_if_no_storage s
want_once Okay = refl
want_once Created = refl
want_once BadRequest = refl
want_once NotFound = refl
want_once MethodNotAllowed = refl
want_once LengthRequired = refl
want_once ContentTooLarge = refl
want_once Unprocessable = refl
want_once HeadTooLarge = refl
want_once NotImplemented = refl
want_once Unavailable = refl
want_once NoStorage = refl

pub wants_are : (answers : List Answer) → times no_memory (statuses_of answers) ≡ count_no_storage answers
wants_are [] = refl
wants_are (answer ∷ answers) = ap₂ (λ m n. m + n) (want_once answer.status) (wants_are answers)

-- ---- asks
abbrev Counts : Status → Type 0
Counts s = 1 ≤ one_among otherwise s + one_if_no_storage s

counted : (s : Status) → one_among otherwise s ≡ 1 → Counts s
counted s one = omega (arith, one)

said_counts : (said : LogReply Response) → Counts (status_for said)
said_counts (Answered (Admit outcome) front) = counted Created refl
said_counts (Answered (Again position outcome) front) = counted Okay refl
said_counts (Answered (Refused refusal) front) = counted Unprocessable refl
said_counts (Answered (Quoted cents) front) = counted Okay refl
said_counts (Answered (Standing row) front) = counted Okay refl
said_counts (DiskFault undecided) = counted Unavailable refl
said_counts NoMemory = let one : one_if_no_storage NoStorage ≡ 1 = refl in omega (arith, one)

module _ (stamp : Stamp) (by : RowName) (seen : List (StampedEntry Filing)) (mine : List (ℕ × Filed (StampedEntry Filing))) where
  ask_counts : (refusal : Status) (o : Option Operation) (answer : Answer) → IsAnswerTo (semantics_under stamp filing_semantics) (own_under stamp filing_asked) office_web by seen mine refusal o answer
      → one_if_some o ≤ one_among otherwise answer.status + one_if_no_storage answer.status
  ask_counts refusal None answer is = omega arith
  ask_counts refusal (Some operation) answer (said, is, of) = subst (λ (a : Answer). Counts a.status) (sym is) (said_counts said)

  -- each ask was answered 507, or by one of the others
  pub asks_are : (requests : List Request) (answers : List Answer) → AreAnswersTo (semantics_under stamp filing_semantics) (own_under stamp filing_asked) office_web by seen mine requests answers
      → count_asks (semantics_under stamp filing_semantics) (own_under stamp filing_asked) office_web by requests ≤ times otherwise (statuses_of answers) + count_no_storage answers
  asks_are [] [] all = omega arith
  asks_are [] (answer ∷ answers) all = absurd all
  asks_are (request ∷ requests) [] all = absurd all
  asks_are (request ∷ requests) (answer ∷ answers) all =
      let one = ask_counts (refusal_of request.head.call) (ask_in (semantics_under stamp filing_semantics) (own_under stamp filing_asked) office_web by request) answer all.0 in
      let more = asks_are requests answers all.1 in
      omega (arith, one, more)
