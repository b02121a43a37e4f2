-- What a run of many desks comes to, in few words.
use Rattle.std.proofs.Common.{◌≡◌, ◌≢◌, ◌⊎◌, inl, inr, ⊎_elim, ℕ, ◌+◌, ◌-◌, ◌<◌, IsTrue, List, [], ◌∷◌, ◌++◌, Option, Some, None, length, map, reverse, take, drop, get_or, append-nil, refl, sym, ap, ◌∙◌, subst, arith}
use Rattle.std.specs.Prelude.{codes, Contains}
use Rattle.std.proofs.lemmas.List.{get_or-map, length-map, take-append-drop}
use Rattle.io_traits.specs.declared.source.Source.{Ghosts as SourceGhosts}
use Rattle.io_traits.specs.declared.sink.Sink.{Ghosts as SinkGhosts}
use Rattle.aid_filings.specs.declared.filing.Filing.{Filing}
use Rattle.io_traits.specs.DiskState.{EachImage, EachMoment, IsHonest}
use Rattle.io_traits.specs.declared.disk.Disk.{Ghosts}
use Rattle.io_traits.proofs.Moments.{started, weaken, join}
use Rattle.log_journal.specs.declared.opening.OpenError.{OpenError}
use Rattle.log_journal.specs.declared.opening.OpenError.TheVariants as opening
use Rattle.run_claims.specs.AtOnce.{Admitted, DeskFiles, DeskTexts, FilesUnder, OnTheWay, RanAtOnce, filed, idle, row_at}
use Rattle.run_claims.specs.Filed.{IsFault, rows_in}
use Rattle.run_claims.specs.Office.{Recovers}
use Rattle.log_desks.specs.Desks.{left_in}
use Rattle.log_machine.specs.Names.{entries_of, filed_list, filed_pending, no_row, rows_of}
use Rattle.log_desks.specs.Shares.{stand_of, RecoversBetween}
use Rattle.log_machine.specs.Submits.{with_entry}
use Rattle.log_machine.specs.declared.names.Filed.{Filed}
use Rattle.log_machine.specs.declared.names.RowName.{RowName}
use Rattle.log_desks.specs.declared.stop.DeskEnd.TheVariants.{Stopped}
use Rattle.log_desks.specs.declared.stop.DeskStop.{DeskStop}
use Rattle.log_desks.specs.declared.stop.DeskStop.TheVariants.{DiskFault}
use Rattle.log_desks.proofs.Going.{entries_filed}
use Rattle.log_machine.specs.Kept.{IsSound}
use Rattle.log_machine.proofs.Histories.{recovers_once}
use Rattle.office_log.specs.OfficeLaws.{office_alone}
use Rattle.office_log.specs.Recovers as kept
use Rattle.office_log.specs.Scheme.{office_scheme}
use Rattle.office_log.specs.Submits.{asked as filing_asked, office_semantics}
use Rattle.run_rows.specs.Asks.{desk_texts}
use Rattle.log_stamps.specs.Rows.{stamped_texts}
use Rattle.log_session.specs.Links.{IsOpened}
use Rattle.log_session.specs.declared.stop.ReadStop.{ReadStop}
use Rattle.log_session.specs.declared.stop.ReadStop.TheVariants as reading
use Rattle.office_history.specs.Answer.{IsLegal}
use Rattle.log_lock.specs.Passes.{IsOlder, numbered}
use Rattle.log_lock.specs.declared.turned.Snapshot.{Snapshot}
use Rattle.run_claims.proofs.Office.{from_kept, to_kept}
use Rattle.log_runs.specs.Ends.{EndsWith, told, untold}
use Rattle.log_runs.specs.Statuses.{open_line, open_status, read_line, read_status}
use Rattle.log_stamps.specs.Entries.{entries}
use Rattle.log_stamps.specs.declared.entry.StampedEntry.{StampedEntry}
use Rattle.log_desk_runs.specs.DeskTexts.{admitted_text, desks_status, desks_text}
use Rattle.log_desk_runs.specs.DesksDone.{HasNamed}
use Rattle.log_desk_runs.specs.Names.{names_of}
use Rattle.log_desk_runs.specs.RanDesksOn.{AreRead, IsDeskOf, unopened, starved, worked, unasked, unread, read, input_at, rows_at}
use Rattle.run_office.specs.Copies.{kept_stamped, same_stamped}
use Rattle.run_office.specs.CopyLaws.{stamped_alike, stamped_itself, stamped_owned, stamped_tells}
use Rattle.run_office.specs.RanDesks.{FilesAll, HasFiled, RanDesks, View, left_of, reads_of, rows_under}
use Rattle.run_office.specs.declared.desks.DeskInput.{DeskInput}
use Rattle.run_office.proofs.Admitting.{IsOwn, admitted_lines, asked_of, numbered_at, row_files, row_shown}
use Rattle.log_desk_runs.proofs.ByPlace.{row_behind, rows_named}
use Rattle.log_desk_runs.proofs.Filers.{in_one}
use Rattle.log_desk_runs.proofs.Following.{entries_append, entries_older, length-entries}
use Rattle.log_desk_runs.proofs.NameLists.{told_by}
use Rattle.log_desk_runs.proofs.Naming.{told_named}
use Rattle.log_desk_runs.proofs.Named.{of_desk, seen_in_closed, undecided_at}
use Rattle.log_desk_runs.proofs.Reading.{some_of}
use Rattle.log_desk_runs.proofs.CrewStatus.{few_statuses, status_shown, stopped_status, text_shown}
use Rattle.run_office.proofs.Replies.{IsOf, all_desks, no_files, said_in}

-- of a run's last text a front was written, and all of it where the status isn't that of a failed write
record Wrote {K : Type 0} (sink : SinkGhosts K) (text : List ℕ) (shown : ℕ) (out out' : K) (status : ℕ) : Type 0 where
  pub front : List ℕ
  pub cut : List ℕ
  pub written : sink.text out' ≡ sink.text out ++ front
  pub whole : front ++ cut ≡ text
  pub all : status ≢ 4 → cut ≡ []
  pub shows : (status ≡ shown) ⊎ (status ≡ 4)

wrote : {K : Type 0} (sink : SinkGhosts K) (text : List ℕ) (shown status : ℕ) (out out' : K) → IsTrue (sink.honest out) → EndsWith sink text shown out out' status → Wrote sink text shown out out' status
wrote sink text shown status out out' honest (told put) = record { front = text; cut = []; written = put.written honest; whole = append-nil text; all = λ not. refl; shows = inl refl }
wrote sink text shown status out out' honest (untold short) =
    let (n, lt, is) = short.cut honest in
    record { front = take n text; cut = drop n text; written = is; whole = take-append-drop n text; all = λ not. absurd (not refl); shows = inr refl }

-- a fault's line, whose status is that of no refusal of the office
record IsFaultLine (line : List ℕ) (shown : ℕ) : Type 0 where
  pub says : IsFault line []
  pub some : 0 < shown
  pub not_six : shown ≢ 6
  pub not_seven : shown ≢ 7

usage_fault : IsFaultLine (codes "fault usage\n") 2
usage_fault = record { says = (codes "usage", [], refl, refl); some = omega arith; not_six = λ e. omega (arith, e); not_seven = λ e. omega (arith, e) }

memory_fault : IsFaultLine (codes "fault memory\n") 9
memory_fault = record { says = (codes "memory", [], refl, refl); some = omega arith; not_six = λ e. omega (arith, e); not_seven = λ e. omega (arith, e) }

read_fault : (stop : ReadStop) → IsFaultLine (read_line stop) (read_status stop)
read_fault reading.Read = record { says = (codes "read", [], refl, refl); some = omega arith; not_six = λ e. omega (arith, e); not_seven = λ e. omega (arith, e) }
read_fault reading.TooLong = record { says = (codes "too long", [], refl, refl); some = omega arith; not_six = λ e. omega (arith, e); not_seven = λ e. omega (arith, e) }
read_fault reading.NoMemory = memory_fault

open_fault : (error : OpenError) → (error ≡ opening.NoMemory) ⊎ (error ≡ opening.DiskFault) → IsFaultLine (open_line error) (open_status error)
open_fault error (inl is) = subst (λ (e : OpenError). IsFaultLine (open_line e) (open_status e)) (sym is) memory_fault
open_fault error (inr is) =
    subst (λ (e : OpenError). IsFaultLine (open_line e) (open_status e)) (sym is)
    (record { says = (codes "disk none", [], refl, refl); some = omega arith; not_six = λ e. omega (arith, e); not_seven = λ e. omega (arith, e) })

-- a status that is neither what goes with the text nor that of a failed write
other : (shown status n : ℕ) → (status ≡ shown) ⊎ (status ≡ 4) → shown ≢ n → 4 ≢ n → status ≢ n
other shown status n shows one four is = ⊎_elim (λ e. one (sym e ∙ is)) (λ e. four (sym e ∙ is)) shows

module _ {D S K : Type 0} (disk : Ghosts D) (source : SourceGhosts S) (sink : SinkGhosts K)
    (only : (d : D) (c : List ℕ) → IsHonest (disk.tells d) → (disk.tells d).image_since (disk.tells d).moment c → (disk.tells d).image c)
    (here : (d : D) → IsHonest (disk.tells d) → (disk.tells d).image (disk.tells d).reads)
    (old new : D) (inputs inputs' : List (DeskInput S)) (out out' : K) (status : ℕ) (past : List (StampedEntry Filing)) (honest : IsHonest (disk.tells old))
    (sources : (k : ℕ) (i : DeskInput S) → k < length inputs → IsTrue (source.honest (get_or inputs k i).input)) (writes : IsTrue (sink.honest out))
    (images : EachImage (disk.tells old) (λ file. Recovers file past)) where
  -- what the desk of an input files
  abbrev files_of : DeskInput S → DeskFiles
  files_of i = (i.stamp, rows_in (source.left i.input))

  abbrev files : List DeskFiles
  files = map files_of inputs

  abbrev AtOnce : Type 0
  AtOnce = (text : List ℕ) × (sink.text out' ≡ sink.text out ++ text) × RanAtOnce files past (disk.tells old) (disk.tells new) text status

  kept_images : EachImage (disk.tells old) (λ file. kept.Recovers file past)
  kept_images c image = to_kept c past (images c image)

  -- ---- nothing was filed
  abbrev Stays : Type 0
  Stays = EachMoment (disk.tells old) (disk.tells new) (λ file. Recovers file past)

  plainly : EachMoment (disk.tells old) (disk.tells new) (λ file. kept.Recovers file past) → Stays
  plainly moments = weaken (disk.tells old) (disk.tells new) (λ file. kept.Recovers file past) (λ file. Recovers file past) (λ file of. from_kept file past of) moments

  stays : new ≡ old → Stays
  stays same =
      subst (λ (d : D). EachMoment (disk.tells old) (disk.tells d) (λ file. Recovers file past)) (sym same)
      (started (disk.tells old) (λ file. Recovers file past) (λ c since. images c (only old c honest since)))

  idle_by : (line : List ℕ) (shown : ℕ) → IsFaultLine line shown → Stays → EndsWith sink line shown out out' status → AtOnce
  idle_by line shown fault moments ends = (
    end.front,
    end.written,
    idle end.front end.cut status (fault.says.0, fault.says.1, fault.says.2, end.whole ∙ (sym (append-nil line) ∙ fault.says.3)) (
      other shown status 0 end.shows (λ e. omega (arith, e, fault.some)) (λ e. omega (arith, e)),
      other shown status 6 end.shows fault.not_six (λ e. omega (arith, e)),
      other shown status 7 end.shows fault.not_seven (λ e. omega (arith, e)),
    )
        moments,
  )
    where
      end : Wrote sink line shown out out' status
      end = wrote sink line shown status out out' writes ends

  -- ---- the desks filed
  module _ (before after : List View) (has_read : AreRead left_of rows_under (reads_of source) (length inputs) inputs inputs' before) (list history : List (StampedEntry Filing)) (pending : Option (StampedEntry Filing)) (log : List RowName) (waiting : Option RowName) (at : D)
      (opened : IsOpened disk office_scheme list old at)
      (ran : HasFiled (stand_of list None [] None (disk.faults old) (disk.tells at).honest) (stand_of history pending log waiting (disk.faults new) (disk.tells new).honest) before after)
      (sound : IsHonest (disk.tells new) → IsSound office_scheme (disk.tells new) history pending) where
    abbrev start : Snapshot (Filed (StampedEntry Filing))
    start = stand_of list None [] None (disk.faults old) (disk.tells at).honest

    abbrev end : Snapshot (Filed (StampedEntry Filing))
    end = stand_of history pending log waiting (disk.faults new) (disk.tells new).honest

    abbrev added : List (StampedEntry Filing)
    added = entries_of ran.ran.added

    same : list ≡ past
    same = recovers_once office_scheme office_alone (disk.tells old).reads list past (opened.recovers honest) (kept_images (disk.tells old).reads (here old honest))

    still : IsHonest (disk.tells new)
    still = subst IsTrue (sym (ran.ran.fixed ∙ opened.honest)) honest

    closed : history ≡ added ++ list
    closed = sym (entries_filed history log) ∙ (ap entries_of ran.ran.list ∙ (entries_append ran.ran.added (filed_list list []) ∙ ap (λ l. added ++ l) (entries_filed list [])))

    legal : IsLegal (entries history)
    legal = go pending (sound still)
      where
        go : (p : Option (StampedEntry Filing)) → IsSound office_scheme (disk.tells new) history p → IsLegal (entries history)
        go None settled = (settled (disk.tells new).reads (here new still)).legal
        go (Some f) undecided = undecided.legal.0

    -- each desk has the rows of its input
    of : (k : ℕ) (d : View) → k < length before → IsOf (k + 1) (get_or files k no_files) (get_or before k d)
    of k d lt = record {
      numbered = desk.numbered;
      prefix = desk.prefix;
      rows_are = desk.rows (sources k i inside) ∙ ap said_in (sym (get_or-map files_of inputs k i no_files inside));
    }
      where
        inside : k < length inputs
        inside = omega (arith, lt, has_read.count)

        i : DeskInput S
        i = some_of inputs k inside

        desk : IsDeskOf left_of (k + 1) (rows_at rows_under (reads_of source) inputs k i) (input_at (reads_of source) inputs inputs' k i) (get_or before k d)
        desk = has_read.each k i d inside

    -- where a desk stopped, the status isn't 0
    abbrev ShowStops : Type 0
    ShowStops = (k : ℕ) (d : View) (stop : DeskStop) → k < length before → (get_or ran.desks k d).ended ≡ Stopped stop → status ≢ 0

    -- the row that filed what was added behind so many
    abbrev by : ℕ → RowName
    by = row_behind (length start.list) ran.ran.added

    texts : ShowStops → DeskTexts by list (added ++ list) status 1 files (desks_text after)
    texts stopped =
        subst (λ l. DeskTexts by list l status 1 files (desks_text after)) closed (subst (DeskTexts by list history status 1 files) (sym (text_shown after ran.desks ran.shown))
        (all_desks by start list history status (entries_filed list []) legal 1 files before ran.desks (has_read.count ∙ sym (length-map inputs files_of)) ran.count
        ran.each (λ k d lt. subst (λ (n : ℕ). IsOf n (get_or files k no_files) (get_or before k d)) (omega arith) (of k d lt))
        (λ k d lt. subst (IsOlder (entries_of (ran.each k d lt).known.seen)) (entries_filed history log) (entries_older (ran.each k d lt).known.seen end.list (seen_in_closed office_semantics filing_asked kept_stamped (stamped_texts desk_texts) left_of start end before after ran k d lt)))
        (λ k d lt. rows_named office_semantics filing_asked kept_stamped (stamped_texts desk_texts) left_of start end before after ran k d lt (1 + k) ((of k d lt).numbered ∙ omega arith))
        stopped))

    -- the row that a desk's entry is named by files it
    named_files : (entry : ℕ × Filed (StampedEntry Filing)) → ((k : ℕ) × (d : View) × (lt : k < length before) × HasNamed (ran.each k d lt) entry) → FilesUnder (row_at files entry.1.by) entry.1.entry
    named_files entry (k, d, lt, named) = row_files files k (get_or before k d) (get_or ran.desks k d) (ran.each k d lt) entry (of k d lt) named

    -- and its line shows it
    named_shown : (count : ℕ) (entry : ℕ × Filed (StampedEntry Filing)) → entry.0 ≡ count + 1 → ((k : ℕ) × (d : View) × (lt : k < length before) × HasNamed (ran.each k d lt) entry) → IsOwn files (desks_text ran.desks) entry.1 count
    named_shown count entry at (k, d, lt, named) = row_shown files ran.desks k count (get_or before k d) d (ran.each k d lt) entry (omega (arith, lt, ran.count)) (of k d lt) named at

    abbrev names : List RowName
    names = names_of same_stamped after (length list + 1) (reverse (rows_of ran.ran.added))

    numbers : (k : ℕ) (d : View) → k < length before → (get_or before k d).number ≡ k + 1
    numbers k d lt = (of k d lt).numbered

    lines : Admitted files (desks_text after) (length list) (reverse added) (admitted_text (length list + 1) names)
    lines = subst (λ t. Admitted files t (length list) (reverse added) (admitted_text (length list + 1) names)) (sym (text_shown after ran.desks ran.shown))
        (admitted_lines files (desks_text ran.desks) after (length list) ran.ran.added (λ k n d lt at.
        let many : length start.list ≡ length list = sym (length-entries start.list) ∙ ap length (entries_filed list []) in
        let here : length start.list + (length ran.ran.added - 1 - k) + 1 ≡ n + 1 = omega (arith, many, at) in
        let has = subst (λ (p : ℕ). Contains (numbered (length start.list) ran.ran.added) (p, get_or ran.ran.added k d)) here (numbered_at (length start.list) ran.ran.added k d lt) in
        named_shown n (n + 1, told_by same_stamped after (n + 1) (get_or ran.ran.added k d)) refl (told_named office_semantics filing_asked kept_stamped same_stamped (stamped_texts desk_texts) left_of asked_of stamped_tells stamped_itself stamped_owned stamped_alike start end before after ran numbers (n + 1, get_or ran.ran.added k d) has)))

    -- an undecided filing is a row's at which its desk stopped
    undecided_files : ShowStops → (f : StampedEntry Filing) → pending ≡ Some f → (status ≢ 0) × (by : RowName) × FilesUnder (row_at files by) f
    undecided_files stopped f is = go waiting refl
      where
        of_row : (by : RowName) → end.pending ≡ Some (record { entry = f; by = by }) → (status ≢ 0) × (by : RowName) × FilesUnder (row_at files by) f
        of_row by named =
            let entry : ℕ × Filed (StampedEntry Filing) = (length end.list + 1, record { entry = f; by = by }) in
            let (k, x, lt, at, there) = in_one (λ (v : View). left_in v.handle) ran.desks entry (ran.ran.pending (record { entry = f; by = by }) named) in
            let inside : k < length before = omega (arith, lt, ran.count) in
            let own = ran.each k x inside in
            let left = subst (λ l. Contains l entry) (ap left_in (ap (λ (v : View). v.handle) at ∙ own.has)) there in
            let ended = (undecided_at filing_asked _ (get_or ran.desks k x).ended own.files.taken own.files.rest own.known entry own.files.ends left).0 in
            (stopped k x (DiskFault (Some entry.0)) inside ended, by, named_files entry (of_desk office_semantics filing_asked kept_stamped (stamped_texts desk_texts) left_of start end before after ran k x entry lt at (inr there)))

        go : (w : Option RowName) → waiting ≡ w → (status ≢ 0) × (by : RowName) × FilesUnder (row_at files by) f
        go None none = of_row no_row (ap (λ p. filed_pending p waiting) is ∙ ap (λ w. filed_pending (Some f) w) none)
        go (Some by) some = of_row by (ap (λ p. filed_pending p waiting) is ∙ ap (λ w. filed_pending (Some f) w) some)

    abbrev Left : List (StampedEntry Filing) → List ℕ → Type 0
    Left l file = Recovers file l ⊎ ((status ≢ 0) × (f : StampedEntry Filing) × (by : RowName) × FilesUnder (row_at files by) f × Recovers file (f ∷ l))

    left : ShowStops → EachImage (disk.tells new) (Left (added ++ list))
    left stopped = subst (λ l. EachImage (disk.tells new) (Left l)) closed (go pending refl (sound still))
      where
        go : (p : Option (StampedEntry Filing)) → pending ≡ p → IsSound office_scheme (disk.tells new) history p → EachImage (disk.tells new) (Left history)
        go None is settled = λ c image. inl (from_kept c history (settled c image))
        go (Some f) is undecided = λ c image.
            let (failed, by, files) = undecided_files stopped f is in
            ⊎_elim (λ without. inl (from_kept c history without)) (λ with. inr (failed, f, by, files, from_kept c (f ∷ history) with)) (undecided.images c image)

    -- each image at each moment is on the way
    way : ShowStops → (IsHonest (disk.tells new) → EachMoment (disk.tells at) (disk.tells new) (RecoversBetween office_scheme list (with_entry pending history)))
        → EachMoment (disk.tells old) (disk.tells new) (OnTheWay files list (added ++ list) status)
    way stopped between = subst (λ l. EachMoment (disk.tells old) (disk.tells new) (OnTheWay files list l status)) closed
        (join (disk.tells old) (disk.tells at) (disk.tells new) (OnTheWay files list history status)
        (weaken (disk.tells old) (disk.tells at) (λ file. kept.Recovers file list) (OnTheWay files list history status) (λ file is. inl (list, ([], refl), (added, closed), from_kept file list is)) (opened.moments honest listed))
        (weaken (disk.tells at) (disk.tells new) (RecoversBetween office_scheme list (with_entry pending history)) (OnTheWay files list history status) (go pending refl) (between still)))
      where
        listed : EachImage (disk.tells old) (λ file. kept.Recovers file list)
        listed = subst (λ (l : List (StampedEntry Filing)). EachImage (disk.tells old) (λ file. kept.Recovers file l)) (sym same) kept_images

        go : (p : Option (StampedEntry Filing)) → pending ≡ p → (file : List ℕ) → RecoversBetween office_scheme list (with_entry p history) file → OnTheWay files list history status file
        go None is file (h, from, to, recovers) = inl (h, from, to, from_kept file h recovers)
        go (Some f) is file (h, from, (front, to), recovers) = split front to
          where
            split : (front : List (StampedEntry Filing)) → f ∷ history ≡ front ++ h → OnTheWay files list history status file
            split [] e =
                let (failed, by, files) = undecided_files stopped f is in
                inr (failed, f, by, files, from_kept file (f ∷ history) (subst (kept.Recovers file) (sym e) recovers))
            split (x ∷ xs) e = inl (h, from, (xs, ap (λ (l : List (StampedEntry Filing)). drop 1 l) e), from_kept file h recovers)

    abbrev whole_text : List ℕ
    whole_text = desks_text after ++ admitted_text (length list + 1) names

    filed_by : (IsHonest (disk.tells new) → EachMoment (disk.tells at) (disk.tells new) (RecoversBetween office_scheme list (with_entry pending history)))
        → EndsWith sink whole_text (desks_status after) out out' status → AtOnce
    filed_by between ends = (
      put.front,
      put.written,
      subst (λ (p : List (StampedEntry Filing)). RanAtOnce files p (disk.tells old) (disk.tells new) put.front status) same
          (filed by added (desks_text after) (admitted_text (length list + 1) names) put.front put.cut status
          (texts stopped) lines put.whole put.all (
            other (desks_status after) status 6 put.shows (few_statuses after 6 (omega arith) (λ e. omega (arith, e)) (λ e. omega (arith, e))) (λ e. omega (arith, e)),
            other (desks_status after) status 7 put.shows (few_statuses after 7 (omega arith) (λ e. omega (arith, e)) (λ e. omega (arith, e))) (λ e. omega (arith, e)),
          )
          (way stopped between) (left stopped)),
    )
      where
        put : Wrote sink whole_text (desks_status after) out out' status
        put = wrote sink whole_text (desks_status after) status out out' writes ends

        stopped : ShowStops
        stopped k d stop lt is = other (desks_status after) status 0 put.shows
            (λ none. stopped_status ran.desks k d stop (omega (arith, lt, ran.count)) is (sym (status_shown after ran.desks ran.shown) ∙ none)) (λ e. omega (arith, e))

  -- a list that was opened is the one before
  moments_of_opened : (list : List (StampedEntry Filing)) → IsOpened disk office_scheme list old new → Stays
  moments_of_opened list is =
      let same : list ≡ past = recovers_once office_scheme office_alone (disk.tells old).reads list past (is.recovers honest) (kept_images (disk.tells old).reads (here old honest)) in
      plainly (subst (λ (l : List (StampedEntry Filing)). EachMoment (disk.tells old) (disk.tells new) (λ file. kept.Recovers file l)) same
      (is.moments honest (subst (λ (l : List (StampedEntry Filing)). EachImage (disk.tells old) (λ file. kept.Recovers file l)) (sym same) kept_images)))

  of_files : (before : List View) → AreRead left_of rows_under (reads_of source) (length inputs) inputs inputs' before → FilesAll disk sink old new before out out' status → AtOnce
  of_files before has_read (unopened error _ is _ _ ends) =
      idle_by (open_line error) (open_status error) (open_fault error (is.complete honest past (kept_images (disk.tells old).reads (here old honest)))) (plainly (is.moments honest past kept_images)) ends
  of_files before has_read (starved list _ opened _ ends) = idle_by (codes "fault memory\n") 9 memory_fault (moments_of_opened list opened) ends
  of_files before has_read (worked after list history pending log waiting at _ opened ran sound between ends) = filed_by before after has_read list history pending log waiting at opened ran sound between ends

  of_run : RanDesks disk source sink old new inputs inputs' out out' status → AtOnce
  of_run (unasked _ wrong same unmoved ends) = idle_by (codes "fault usage\n") 2 usage_fault (stays same) ends
  of_run (unread stop _ few at same ends) = idle_by (read_line stop) (read_status stop) (read_fault stop) (stays same) ends
  of_run (read before _ few has_read files) = of_files before has_read files

pub ran_at_once : {D S K : Type 0} (disk : Ghosts D) (source : SourceGhosts S) (sink : SinkGhosts K)
    → ((d : D) (c : List ℕ) → IsHonest (disk.tells d) → (disk.tells d).image_since (disk.tells d).moment c → (disk.tells d).image c)
    → ((d : D) → IsHonest (disk.tells d) → (disk.tells d).image (disk.tells d).reads)
    → (old new : D) (inputs inputs' : List (DeskInput S)) (out out' : K) (status : ℕ) (past : List (StampedEntry Filing))
    → IsHonest (disk.tells old) → ((k : ℕ) (i : DeskInput S) → k < length inputs → IsTrue (source.honest (get_or inputs k i).input)) → IsTrue (sink.honest out)
    → EachImage (disk.tells old) (λ file. Recovers file past) → RanDesks disk source sink old new inputs inputs' out out' status
    → (text : List ℕ) × (sink.text out' ≡ sink.text out ++ text) × RanAtOnce (map (λ (i : DeskInput S). (i.stamp, rows_in (source.left i.input))) inputs) past (disk.tells old) (disk.tells new) text status
ran_at_once disk source sink only here old new inputs inputs' out out' status past honest sources writes images ran =
    of_run disk source sink only here old new inputs inputs' out out' status past honest sources writes images ran
