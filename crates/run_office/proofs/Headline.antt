-- What a run of the command `file` comes to, in few words.
use Rattle.std.proofs.Common.{◌≡◌, ◌≢◌, ◌⊎◌, inl, inr, ⊎_elim, ℕ, suc, ◌+◌, ◌<◌, List, [], ◌∷◌, ◌++◌, length, map, take, drop, codes, decimal, Some, None, Result, Ok, Err, IsTrue, IsOk, refl, sym, ◌∙◌, ap, subst, arith, append_assoc, append-nil, take-append-drop, length-drop}
use Rattle.std.specs.Prelude.{flat_map}
use Rattle.io_traits.specs.declared.sink.Sink.{Ghosts as SinkGhosts}
use Rattle.aid_filings.specs.declared.filing.Filing.{Filing}
use Rattle.aid_filings.specs.declared.reply.Operation.{Operation}
use Rattle.format_filings.specs.Rows.{meanings_from, row_meaning}
use Rattle.format_rows.specs.declared.error.RowError.{RowError}
use Rattle.io_traits.specs.DiskState.{EachImage, EachMoment, IsHonest}
use Rattle.io_traits.specs.declared.disk.Disk.{Ghosts}
use Rattle.io_traits.proofs.Moments.{started, weaken}
use Rattle.log_journal.specs.declared.opening.OpenError.{OpenError}
use Rattle.log_journal.specs.declared.opening.OpenError.TheVariants as opening
use Rattle.run_claims.specs.Filed.{Answers, HasFiled, IsFault, Row, Stops, between, more, none, rows_in, within}
use Rattle.run_claims.specs.Office.{Recovers}
use Rattle.run_claims.proofs.Office.{answered_under, from_kept, to_kept}
use Rattle.log_machine.proofs.Histories.{recovers_once}
use Rattle.office_log.specs.OfficeLaws.{office_alone}
use Rattle.office_log.specs.Recovers as kept
use Rattle.office_log.specs.Scheme.{office_scheme}
use Rattle.office_log.specs.Submits.{office_semantics}
use Rattle.log_session.specs.Edges.{Input}
use Rattle.log_session.specs.Links.{IsLink, Runs}
use Rattle.log_session.specs.Links as links
use Rattle.log_session.specs.Sessions.{Files, Opens, Session, all, ended_filing, faulted, opened, read, starved, unopened, unread, unwritten}
use Rattle.log_machine.specs.Recovers.{RecoversEither}
use Rattle.log_machine.specs.Texts.{after_row, after_rows, lines_of, row_line}
use Rattle.log_session.specs.declared.stop.FileStop.{FileStop}
use Rattle.log_session.specs.declared.stop.FileStop.TheVariants as filing
use Rattle.log_session.specs.declared.stop.ReadStop.TheVariants as reading
use Rattle.log_session.specs.declared.stop.SessionStop.{SessionStop}
use Rattle.log_session.specs.declared.stop.SessionStop.TheVariants as ending
use Rattle.log_session.proofs.Fronts.{images_of_runs, runs_split}
use Rattle.log_session.proofs.Runs.{runs-honest}
use Rattle.run_rows.specs.Asks.{asked, desk_rows, desk_texts, said_by}
use Rattle.office_history.specs.Answer.{IsLegal}
use Rattle.aid_stamps.specs.declared.stamp.Stamp.{Stamp}
use Rattle.log_stamps.specs.Entries.{entries}
use Rattle.log_stamps.specs.Rows.{said_under, stamped_rows, stamped_texts}
use Rattle.log_stamps.specs.declared.entry.StampedOperation.{StampedOperation}
use Rattle.log_stamps.specs.declared.entry.StampedEntry.{StampedEntry}
use Rattle.log_stamps.specs.declared.entry.StampedError.{StampedError}
use Rattle.log_runs.specs.Ends.{EndsWith, told, untold}
use Rattle.log_runs.specs.Statuses.{session_line, session_status}
use Rattle.log_runs.specs.Counts.{written}
use Rattle.run_office.specs.Ran.{FileRan}

-- ---- the end of a run
-- a text is a line that says what failed, or a front of it
abbrev FaultFront : List ℕ → Type 0
FaultFront text = (cut : List ℕ) × IsFault text cut

-- nothing is a front of each line
no_fault : FaultFront []
no_fault = (codes "fault \n", ([], [], refl, refl))

-- a line that ends with a number
numbered : (front : List ℕ) (n : ℕ) → front ++ decimal n ++ codes "\n" ≡ front ++ flat_map decimal (n ∷ []) ++ codes "\n"
numbered front n = ap (λ (digits : List ℕ). front ++ digits ++ codes "\n") (sym (append-nil (decimal n)))

-- a front of a line that says what stopped a session; there is none after a write that failed
fault_front : (stop : SessionStop) (text cut : List ℕ) → text ++ cut ≡ session_line stop → FaultFront text
fault_front (ending.Reading reading.Read) text cut is = (cut, (codes "read", [], refl, is))
fault_front (ending.Reading reading.TooLong) text cut is = (cut, (codes "too long", [], refl, is))
fault_front (ending.Reading reading.NoMemory) text cut is = (cut, (codes "memory", [], refl, is))
fault_front (ending.Opening opening.NoOffice) text cut is = (cut, (codes "no office", [], refl, is))
fault_front (ending.Opening opening.NotJournal) text cut is = (cut, (codes "not a journal", [], refl, is))
fault_front (ending.Opening opening.OldVersion) text cut is = (cut, (codes "old version", [], refl, is))
fault_front (ending.Opening (opening.Damaged place)) text cut is = (cut, (codes "damaged ", place ∷ [], refl, is ∙ numbered (codes "fault damaged ") place))
fault_front (ending.Opening opening.DiskFault) text cut is = (cut, (codes "disk none", [], refl, is))
fault_front (ending.Opening opening.NoMemory) text cut is = (cut, (codes "memory", [], refl, is))
fault_front (ending.Filing filing.Write) [] cut is = no_fault
fault_front (ending.Filing filing.Write) (x ∷ text) cut is = absurd (let bad : ⊥ = cc in bad)
fault_front (ending.Filing (filing.DiskFault None)) text cut is = (cut, (codes "disk none", [], refl, is))
fault_front (ending.Filing (filing.DiskFault (Some position))) text cut is = (cut, (codes "disk ", position ∷ [], refl, is ∙ numbered (codes "fault disk ") position))
fault_front (ending.Filing filing.NoMemory) text cut is = (cut, (codes "memory", [], refl, is))

-- a status that isn't 0, 6 or 7
abbrev Allowed : ℕ → Type 0
Allowed status = (status ≢ 0) × ((status ≢ 6) × (status ≢ 7))

low : (status : ℕ) → 0 < status → status < 6 → Allowed status
low status least most = (λ is. omega (arith, is, least), (λ is. omega (arith, is, most), λ is. omega (arith, is, most)))

high : (status : ℕ) → 7 < status → Allowed status
high status least = (λ is. omega (arith, is, least), (λ is. omega (arith, is, least), λ is. omega (arith, is, least)))

-- a session didn't stop by what the bytes of the file show
abbrev IsFair : SessionStop → Type 0
IsFair (ending.Opening error) = (error ≡ opening.NoMemory) ⊎ (error ≡ opening.DiskFault)
IsFair (ending.Reading stop) = Unit {0}
IsFair (ending.Filing stop) = Unit {0}

allowed_stop : (stop : SessionStop) → IsFair stop → Allowed (session_status stop)
allowed_stop (ending.Reading reading.Read) fair = low 3 (omega arith) (omega arith)
allowed_stop (ending.Reading reading.TooLong) fair = high 8 (omega arith)
allowed_stop (ending.Reading reading.NoMemory) fair = high 9 (omega arith)
allowed_stop (ending.Opening error) (inl is) = subst (λ (e : OpenError). Allowed (session_status (ending.Opening e))) (sym is) (high 9 (omega arith))
allowed_stop (ending.Opening error) (inr is) = subst (λ (e : OpenError). Allowed (session_status (ending.Opening e))) (sym is) (low 5 (omega arith) (omega arith))
allowed_stop (ending.Filing filing.Write) fair = low 4 (omega arith) (omega arith)
allowed_stop (ending.Filing (filing.DiskFault undecided)) fair = low 5 (omega arith) (omega arith)
allowed_stop (ending.Filing filing.NoMemory) fair = high 9 (omega arith)

-- what an end writes is a front of its line, and the status is its own or that of a failed write
front_of_end : {K : Type 0} (sink : SinkGhosts K) (line : List ℕ) (shown : ℕ) (old new : K) (status : ℕ) → IsTrue (sink.honest old) → Allowed shown → EndsWith sink line shown old new status
    → (text : List ℕ) × (cut : List ℕ) × (sink.text new ≡ sink.text old ++ text) × (text ++ cut ≡ line) × Allowed status
front_of_end sink line shown old new status honest fine (told put) = (line, [], put.written honest, append-nil line, fine)
front_of_end sink line shown old new status honest fine (untold short) =
    let (n, less, is) = short.cut honest in (take n line, drop n line, is, take-append-drop n line, low 4 (omega arith) (omega arith))

no_front : (text cut : List ℕ) → text ++ cut ≡ [] → text ≡ []
no_front [] cut is = refl
no_front (x ∷ text) cut is = absurd (let bad : ⊥ = cc in bad)

-- what is left of a line that was cut short
some_cut : (n : ℕ) (line : List ℕ) → n < length line → drop n line ≢ []
some_cut n line less is = omega (arith, ap length is, length-drop n line, less)

-- ---- the rows of an input
-- a row that was read, under its stamp
abbrev ReadRow : Type 0
ReadRow = Result (StampedOperation Operation) (StampedError RowError)

-- what the rows say under a stamp, the first of them with this number
abbrev Told : Type 0
Told = (stamped_texts desk_texts).Meaning

abbrev said_from : Stamp → ℕ → List Row → List Told
said_from stamp number texts = stamped_rows stamp (map asked (meanings_from number texts))

none_left : (stamp : Stamp) (number : ℕ) (texts : List Row) → said_from stamp number texts ≡ [] → texts ≡ []
none_left stamp number [] is = refl
none_left stamp number (text ∷ texts) is = absurd (let bad : ⊥ = cc in bad)

-- rows and one more
one_more : (rows : List ReadRow) (row : ReadRow) (rest : List Told) → map (said_under said_by) (rows ++ row ∷ []) ++ rest ≡ map (said_under said_by) rows ++ said_under said_by row ∷ rest
one_more [] row rest = refl
one_more (first ∷ rows) row rest = ap (λ (l : List Told). said_under said_by first ∷ l) (one_more rows row rest)

-- the one link of one row
one_link : {D : Type 0} (disk : Ghosts D) (row : ReadRow) (past : List (StampedEntry Filing)) (old new : D) → Runs disk office_scheme office_semantics (row ∷ []) past old new
    → IsLink disk office_scheme office_semantics row past old new
one_link disk row past old new (links.answered _ _ _ _ _ _ link (links.begun _ _)) = link

module _ {D : Type 0} (stamp : Stamp) (disk : Ghosts D) (only : (d : D) (c : List ℕ) → IsHonest (disk.tells d) → (disk.tells d).image_since (disk.tells d).moment c → (disk.tells d).image c)
    (here : (d : D) → IsHonest (disk.tells d) → (disk.tells d).image (disk.tells d).reads) where
  -- each image recovers the list
  abbrev Each : D → List (StampedEntry Filing) → Type 0
  Each at past = EachImage (disk.tells at) (λ file. kept.Recovers file past)

  -- each image at each moment does
  abbrev Stays : D → D → List (StampedEntry Filing) → Type 0
  Stays old new past = EachMoment (disk.tells old) (disk.tells new) (λ file. Recovers file past)

  stays : (old new : D) (past : List (StampedEntry Filing)) → EachMoment (disk.tells old) (disk.tells new) (λ file. kept.Recovers file past) → Stays old new past
  stays old new past moments = weaken (disk.tells old) (disk.tells new) (λ file. kept.Recovers file past) (λ file. Recovers file past) (λ c r. from_kept c past r) moments

  rests : (at : D) (past : List (StampedEntry Filing)) → IsHonest (disk.tells at) → Each at past → Stays at at past
  rests at past honest each = started (disk.tells at) (λ file. Recovers file past) (λ c since. from_kept c past (each c (only at c honest since)))

  is_legal : (at : D) (past : List (StampedEntry Filing)) → IsHonest (disk.tells at) → Each at past → IsLegal (entries past)
  is_legal at past honest each = (each (disk.tells at).reads (here at honest)).legal

  submit : (old new : D) (past after : List (StampedEntry Filing)) → EachMoment (disk.tells old) (disk.tells new) (RecoversEither office_scheme past after)
      → EachMoment (disk.tells old) (disk.tells new) (λ file. Recovers file past ⊎ Recovers file after)
  submit old new past after moments =
      weaken (disk.tells old) (disk.tells new) (RecoversEither office_scheme past after) (λ file. Recovers file past ⊎ Recovers file after)
      (λ c r. ⊎_elim (λ one. inl (from_kept c past one)) (λ other. inr (from_kept c after other)) r) moments

  -- these rows in front were answered, and what the others say is this
  record Front (number : ℕ) (texts : List Row) (rest : List Told) (rows : List ReadRow) (past : List (StampedEntry Filing)) (old new : D) : Type 1 where
    front : List Row
    behind : List Row
    whole : texts ≡ front ++ behind
    size : length front ≡ length rows
    later : said_from stamp (number + length front) behind ≡ rest
    answers : Answers disk stamp number front past (after_rows office_semantics past rows) (lines_of office_semantics (stamped_texts desk_texts) past number rows) old new

  -- one row in front of them
  one_front : (number : ℕ) (text : Row) (texts : List Row) (rest : List Told) (row : ReadRow) (rows : List ReadRow) (past : List (StampedEntry Filing)) (old mid new : D) → IsHonest (disk.tells old) → Each old past
      → said_under said_by row ≡ (asked (row_meaning number text), stamp) → IsLink disk office_scheme office_semantics row past old mid → Front (number + 1) texts rest rows (after_row office_semantics past row) mid new
      → Front number (text ∷ texts) rest (row ∷ rows) past old new
  one_front number text texts rest row rows past old mid new honest each this link f = record {
    front = text ∷ f.front;
    behind = f.behind;
    whole = ap (λ (l : List Row). text ∷ l) f.whole;
    size = ap suc f.size;
    later = subst (λ (n : ℕ). said_from stamp n f.behind ≡ rest) (omega arith) f.later;
    answers = more number text f.front past (after_row office_semantics past row) (after_rows office_semantics (after_row office_semantics past row) rows)
        (row_line office_semantics (stamped_texts desk_texts) past number row) (lines_of office_semantics (stamped_texts desk_texts) (after_row office_semantics past row) (number + 1) rows) old mid new
        (answered_under stamp past number text row (is_legal old past honest each) this) (submit old mid past (after_row office_semantics past row) (link.moments honest))
        (λ c image. from_kept c (after_row office_semantics past row) (link.images honest c image)) f.answers;
  }

  -- rows that were answered one after the other
  fronts : (number : ℕ) (texts : List Row) (rest : List Told) (rows : List ReadRow) (past : List (StampedEntry Filing)) (old new : D) → IsHonest (disk.tells old) → Each old past
      → said_from stamp number texts ≡ map (said_under said_by) rows ++ rest → Runs disk office_scheme office_semantics rows past old new → Front number texts rest rows past old new
  fronts number texts rest rows past old new honest each is (links.begun _ _) = record {
    front = [];
    behind = texts;
    whole = refl;
    size = refl;
    later = subst (λ (n : ℕ). said_from stamp n texts ≡ rest) (omega arith) is;
    answers = none number past old;
  }
  fronts number [] rest rows past old new honest each is (links.answered row _ _ _ _ _ _ _) = absurd (let bad : ⊥ = cc in bad)
  fronts number (text ∷ texts) rest rows past old new honest each is (links.answered row others _ _ mid _ link runs) =
      one_front number text texts rest row others past old mid new honest each (let this : said_under said_by row ≡ (asked (row_meaning number text), stamp) = cc in this) link
      (fronts (number + 1) texts rest others (after_row office_semantics past row) mid new (subst IsTrue (sym link.honest) honest) (link.images honest)
      (subst (λ (n : ℕ). said_from stamp n texts ≡ map (said_under said_by) others ++ rest) (omega arith) (let behind : said_from stamp (suc number) texts ≡ map (said_under said_by) others ++ rest = cc in behind)) runs)

  -- between two rows
  stopped_between : {number : ℕ} {past : List (StampedEntry Filing)} {old new : D} (texts : List Row) (text : List ℕ) → FaultFront text → EachMoment (disk.tells old) (disk.tells new) (λ file. Recovers file past)
      → Stops stamp past number (disk.tells old) (disk.tells new) texts text
  stopped_between texts text (cut, fault) moments = between texts text cut fault moments

  -- the turn of a row at which a session stopped
  stopped_within : (number place : ℕ) (texts : List Row) (row : ReadRow) (rest : List Told) (past : List (StampedEntry Filing)) (old new : D) (text : List ℕ) → number ≡ place
      → said_from stamp number texts ≡ said_under said_by row ∷ rest → IsLegal (entries past)
      → EachMoment (disk.tells old) (disk.tells new) (RecoversEither office_scheme past (after_row office_semantics past row))
      → (cut : List ℕ) × (IsFault text cut ⊎ ((text ++ cut ≡ row_line office_semantics (stamped_texts desk_texts) past place row) × (cut ≢ [])))
      → Stops stamp past place (disk.tells old) (disk.tells new) texts text
  stopped_within number place [] row rest past old new text same is legal moments part = absurd (let bad : ⊥ = cc in bad)
  stopped_within number place (fields ∷ texts) row rest past old new text same is legal moments part =
      let this : said_under said_by row ≡ (asked (row_meaning number fields), stamp) = cc in
      within fields texts (row_line office_semantics (stamped_texts desk_texts) past place row) text part.0 (after_row office_semantics past row)
      (answered_under stamp past place fields row legal (subst (λ (n : ℕ). said_under said_by row ≡ (asked (row_meaning n fields), stamp)) same this)) (submit old new past (after_row office_semantics past row) moments) part.1

  module _ {K : Type 0} (sink : SinkGhosts K) (old new : D) (input : Input) (out out' : K) (status : ℕ) (honest : IsHonest (disk.tells old)) (sincere : IsTrue input.honest) (sound : IsTrue (sink.honest out)) where
    -- what a run comes to
    abbrev Comes : List (StampedEntry Filing) → Type 0
    Comes past = (text : List ℕ) × (sink.text out' ≡ sink.text out ++ text) × HasFiled disk stamp (rows_in input.before) past text status old new

    -- from the rows that were answered, and what is behind their lines
    comes : (past : List (StampedEntry Filing)) (begun : D) (mid : D) (rows : List ReadRow) (rest : List Told) (stop : List ℕ) (f : Front 1 (rows_in input.before) rest rows past begun mid) → Stays old begun past
        → sink.text out' ≡ (sink.text out ++ lines_of office_semantics (stamped_texts desk_texts) past 1 rows) ++ stop
        → Stops stamp (after_rows office_semantics past rows) (length f.front + 1) (disk.tells mid) (disk.tells new) f.behind stop
        → (status ≡ 0 → (f.behind ≡ []) × (stop ≡ [])) → (status ≢ 6) × (status ≢ 7) → Comes past
    comes past begun mid rows rest stop f opens is stops done allowed = (
      lines_of office_semantics (stamped_texts desk_texts) past 1 rows ++ stop,
      is ∙ append_assoc (sink.text out) (lines_of office_semantics (stamped_texts desk_texts) past 1 rows) stop,
      record {
        answered = f.front;
        left = f.behind;
        whole = f.whole;
        last = after_rows office_semantics past rows;
        lines = lines_of office_semantics (stamped_texts desk_texts) past 1 rows;
        stop = stop;
        written = refl;
        opened = begun;
        filed = mid;
        opens = opens;
        answers = f.answers;
        stops = stops;
        done = done;
        allowed = allowed;
      },
    )

    -- where the list wasn't opened, or nothing was read
    idle : (past : List (StampedEntry Filing)) (at : K) (stop : SessionStop) → Each old past → Stays old new past → IsFair stop
        → sink.text at ≡ sink.text out → sink.honest at ≡ sink.honest out → EndsWith sink (session_line stop) (session_status stop) at out' status → Comes past
    idle past at stop each moments why same truth ends =
        let (text, cut, wrote, whole, fine) = front_of_end sink (session_line stop) (session_status stop) at out' status (subst IsTrue (sym truth) sound) (allowed_stop stop why) ends in
        let f = fronts 1 (rows_in input.before) (said_from stamp 1 (rows_in input.before)) [] past old old honest each refl (links.begun past old) in
        comes past old old [] (said_from stamp 1 (rows_in input.before)) text f (rests old past honest each)
        (wrote ∙ ap (λ (l : List ℕ). l ++ text) (same ∙ sym (append-nil (sink.text out))))
        (stopped_between f.behind text (fault_front stop text cut whole) moments)
        (λ zero. absurd (fine.0 zero)) fine.1

    -- in the turn of a row
    comes_within : (past : List (StampedEntry Filing)) (begun mid : D) (front : List ReadRow) (row : ReadRow) (rest : List Told) (stop : List ℕ)
        → Front 1 (rows_in input.before) (said_under said_by row ∷ rest) front past begun mid → Stays old begun past → IsLegal (entries (after_rows office_semantics past front))
        → EachMoment (disk.tells mid) (disk.tells new) (RecoversEither office_scheme (after_rows office_semantics past front) (after_row office_semantics (after_rows office_semantics past front) row))
        → sink.text out' ≡ (sink.text out ++ lines_of office_semantics (stamped_texts desk_texts) past 1 front) ++ stop
        → (cut : List ℕ) × (IsFault stop cut ⊎ ((stop ++ cut ≡ row_line office_semantics (stamped_texts desk_texts) (after_rows office_semantics past front) (length front + 1) row) × (cut ≢ [])))
        → Allowed status → Comes past
    comes_within past begun mid front row rest stop f opens legal moments is part fine =
        comes past begun mid front (said_under said_by row ∷ rest) stop f opens is
        (stopped_within (1 + length f.front) (length f.front + 1) f.behind row rest (after_rows office_semantics past front) mid new stop (omega arith) f.later legal moments
        (subst (λ (n : ℕ). (cut : List ℕ) × (IsFault stop cut ⊎ ((stop ++ cut ≡ row_line office_semantics (stamped_texts desk_texts) (after_rows office_semantics past front) (n + 1) row) × (cut ≢ [])))) (sym f.size) part))
        (λ zero. absurd (fine.0 zero)) fine.1

    -- a list that was opened, and the rows in front that were filed
    module _ (past : List (StampedEntry Filing)) (begun : D) (at : K) (opens : Stays old begun past) (sure : IsHonest (disk.tells begun)) (each : Each begun past) (truth : sink.honest at ≡ sink.honest out) where
      sure_behind : (rows : List ReadRow) (mid : D) → Runs disk office_scheme office_semantics rows past begun mid → IsHonest (disk.tells mid)
      sure_behind rows mid runs = subst IsTrue (sym (runs-honest office_semantics disk office_scheme past begun mid rows runs)) sure

      each_behind : (rows : List ReadRow) (mid : D) → Runs disk office_scheme office_semantics rows past begun mid → Each mid (after_rows office_semantics past rows)
      each_behind rows mid runs = images_of_runs disk office_scheme office_semantics only rows past begun mid sure each runs

      legal_behind : (rows : List ReadRow) (mid : D) → Runs disk office_scheme office_semantics rows past begun mid → IsLegal (entries (after_rows office_semantics past rows))
      legal_behind rows mid runs = is_legal mid (after_rows office_semantics past rows) (sure_behind rows mid runs) (each_behind rows mid runs)

      -- what the end writes behind the lines
      behind_lines : (stop : FileStop) → EndsWith sink (session_line (ending.Filing stop)) (session_status (ending.Filing stop)) at out' status
          → (text : List ℕ) × (cut : List ℕ) × (sink.text out' ≡ sink.text at ++ text) × (text ++ cut ≡ session_line (ending.Filing stop)) × Allowed status
      behind_lines stop ends =
          front_of_end sink (session_line (ending.Filing stop)) (session_status (ending.Filing stop)) at out' status (subst IsTrue (sym truth) sound)
          (allowed_stop (ending.Filing stop) tt) ends

      comes_of_files : (ended : Result Unit FileStop) (rows : List ReadRow) (rest : List Told) → said_from stamp 1 (rows_in input.before) ≡ map (said_under said_by) rows ++ rest → (IsOk ended → rest ≡ [])
          → (ended ≡ Ok tt → (out' ≡ at) × (status ≡ 0))
          → ((stop : FileStop) → ended ≡ Err stop → EndsWith sink (session_line (ending.Filing stop)) (session_status (ending.Filing stop)) at out' status)
          → Files disk office_scheme office_semantics (stamped_texts desk_texts) past begun new (written sink out at) rows ended → Comes past
      comes_of_files ended rows rest is whole done early (all _ runs wrote) =
          let f = fronts 1 (rows_in input.before) rest rows past begun new sure each is runs in
          let nothing : f.behind ≡ [] = none_left stamp (1 + length f.front) f.behind (f.later ∙ whole refl) in
          let (last, well) = done refl in
          comes past begun new rows rest [] f opens (ap sink.text last ∙ wrote sound ∙ sym (append-nil (sink.text out ++ lines_of office_semantics (stamped_texts desk_texts) past 1 rows)))
          (stopped_between f.behind [] no_fault (rests new (after_rows office_semantics past rows) (sure_behind rows new runs) (each_behind rows new runs)))
          (λ zero. (nothing, refl)) (λ six. omega (arith, six, well), λ seven. omega (arith, seven, well))
      comes_of_files ended rows rest is whole done early (unwritten front row runs short) =
          let (mid, before, behind, later) = runs_split disk office_scheme office_semantics only front (row ∷ []) past begun new sure each runs in
          let f = fronts 1 (rows_in input.before) (said_under said_by row ∷ rest) front past begun mid sure each (is ∙ one_more front row rest) before in
          let (n, less, said) = short sound in
          let (text, cut, wrote, none_whole, fine) = behind_lines filing.Write (early filing.Write refl) in
          let line = row_line office_semantics (stamped_texts desk_texts) (after_rows office_semantics past front) (length front + 1) row in
          comes_within past begun mid front row rest (take n line) f opens (legal_behind front mid before)
          ((one_link disk row (after_rows office_semantics past front) mid new behind).moments (sure_behind front mid before))
          (wrote ∙ ap (λ (l : List ℕ). sink.text at ++ l) (no_front text cut none_whole) ∙ append-nil (sink.text at) ∙ said)
          (drop n line, inr (take-append-drop n line, some_cut n line less)) fine
      comes_of_files ended rows rest is whole done early (faulted front row last undecided runs fault wrote) =
          let f = fronts 1 (rows_in input.before) (said_under said_by row ∷ rest) front past begun last sure each (is ∙ one_more front row rest) runs in
          let (text, cut, more_wrote, line_whole, fine) = behind_lines (filing.DiskFault undecided) (early (filing.DiskFault undecided) refl) in
          comes_within past begun last front row rest text f opens (legal_behind front last runs)
          (subst (λ (h : List (StampedEntry Filing)). EachMoment (disk.tells last) (disk.tells new) (RecoversEither office_scheme (after_rows office_semantics past front) h)) (sym fault.adds) (fault.moments (sure_behind front last runs)))
          (more_wrote ∙ ap (λ (l : List ℕ). l ++ text) (wrote sound)) (let (cut, fault) = fault_front (ending.Filing (filing.DiskFault undecided)) text cut line_whole in (cut, inl fault)) fine
      comes_of_files ended rows rest is whole done early (starved _ runs wrote) =
          let f = fronts 1 (rows_in input.before) rest rows past begun new sure each is runs in
          let (text, cut, more_wrote, line_whole, fine) = behind_lines filing.NoMemory (early filing.NoMemory refl) in
          comes past begun new rows rest text f opens (more_wrote ∙ ap (λ (l : List ℕ). l ++ text) (wrote sound))
          (stopped_between f.behind text (fault_front (ending.Filing filing.NoMemory) text cut line_whole) (rests new (after_rows office_semantics past rows) (sure_behind rows new runs) (each_behind rows new runs)))
          (λ zero. absurd (fine.0 zero)) fine.1

    module _ (at : K) (truth : sink.honest at ≡ sink.honest out) where
      comes_of_opens : (past : List (StampedEntry Filing)) (left : List Told) (ended : Result Unit SessionStop) → Each old past → left ≡ stamped_rows stamp (desk_rows input.before) → (ended ≡ Ok tt → (out' ≡ at) × (status ≡ 0))
          → ((stop : SessionStop) → ended ≡ Err stop → EndsWith sink (session_line stop) (session_status stop) at out' status)
          → Opens disk office_scheme office_semantics (stamped_texts desk_texts) old new (written sink out at) left ended → Comes past
      comes_of_opens past left ended each are done early (unopened error n same) =
          idle past at (ending.Opening error) each (stays old new past (n.moments honest past each))
          (n.complete honest past (each (disk.tells old).reads (here old honest))) same truth (early (ending.Opening error) refl)
      comes_of_opens past left ended each are done early (opened list now begun filed is takes) =
          let same : list ≡ past = recovers_once office_scheme office_alone (disk.tells old).reads list past (is.recovers honest) (each (disk.tells old).reads (here old honest)) in
          subst Comes same
          (comes_of_files list begun at (stays old begun list (is.moments honest (subst (Each old) (sym same) each))) (subst IsTrue (sym is.honest) honest) (is.images honest) truth
          filed takes.rows takes.rest (sym are ∙ takes.taken) takes.whole (λ well. done (ap ended_filing well)) (λ stop bad. early (ending.Filing stop) (ap ended_filing bad)) takes.files)

      comes_of_session : (past : List (StampedEntry Filing)) (ended : Result Unit SessionStop) → Each old past → (ended ≡ Ok tt → (out' ≡ at) × (status ≡ 0))
          → ((stop : SessionStop) → ended ≡ Err stop → EndsWith sink (session_line stop) (session_status stop) at out' status)
          → Session disk office_scheme office_semantics (stamped_texts desk_texts) (λ text. stamped_rows stamp (desk_rows text)) 16777216 old new input (written sink out at) ended → Comes past
      comes_of_session past ended each done early (unread stop why same nothing) =
          idle past at (ending.Reading stop) each (subst (λ (d : D). Stays old d past) (sym same) (rests old past honest each)) tt nothing truth (early (ending.Reading stop) refl)
      comes_of_session past ended each done early (read left _ is are opens) = comes_of_opens past left ended each (are sincere) done early opens

-- a run of the command says what it filed, in few words
pub has_filed : {D K : Type 0} (stamp : Stamp) (disk : Ghosts D) (sink : SinkGhosts K) (only : (d : D) (c : List ℕ) → IsHonest (disk.tells d) → (disk.tells d).image_since (disk.tells d).moment c → (disk.tells d).image c)
    (here : (d : D) → IsHonest (disk.tells d) → (disk.tells d).image (disk.tells d).reads) (old new : D) (input : Input) (out out' : K) (status : ℕ) (past : List (StampedEntry Filing))
    → IsHonest (disk.tells old) → IsTrue input.honest → IsTrue (sink.honest out) → EachImage (disk.tells old) (λ file. Recovers file past)
    → FileRan disk sink stamp old new input out out' status
    → (text : List ℕ) × (sink.text out' ≡ sink.text out ++ text) × HasFiled disk stamp (rows_in input.before) past text status old new
has_filed stamp disk sink only here old new input out out' status past honest sincere sound each ran =
    comes_of_session stamp disk only here sink old new input out out' status honest sincere sound ran.at ran.honest past ran.ended (λ c image. to_kept c past (each c image)) ran.done ran.early ran.session
