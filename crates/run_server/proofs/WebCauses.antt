-- What a run of the web desk shows of its causes.
use Rattle.std.proofs.Common.{◌≡◌, ◌≢◌, ◌⊎◌, inl, inr, ℕ, zero, suc, ◌<◌, Bool, true, false, IsTrue, List, [], ◌∷◌, ◌++◌, Option, None, Result, Ok, Err, length, drop, map, get_or, refl, sym, ap, ◌∙◌, subst, arith}
use Rattle.std.specs.Prelude.{◌||◌, if◌then◌else◌}
use Rattle.std.specs.List.{list_any}
use Rattle.std.proofs.Math.ListN.{get_or-map}
use Rattle.io_traits.specs.Faults.{Rose}
use Rattle.io_traits.specs.declared.sink.Sink.{Ghosts as SinkGhosts}
use Rattle.aid_filings.specs.declared.filing.Filing.{Filing}
use Rattle.io_traits.specs.DiskState.{EachMoment, IsHonest}
use Rattle.io_traits.specs.declared.disk.Disk.{Ghosts}
use Rattle.log_journal.specs.declared.opening.OpenError.{OpenError}
use Rattle.log_journal.specs.declared.opening.OpenError.TheVariants as opening
use Rattle.log_desks.specs.Shares.{RecoversBetween, stand_of}
use Rattle.log_machine.specs.declared.names.Filed.{Filed}
use Rattle.log_machine.specs.declared.names.RowName.{RowName}
use Rattle.log_machine.specs.Kept.{IsSound}
use Rattle.log_machine.specs.Recovers.{Recovers}
use Rattle.log_machine.specs.Submits.{with_entry}
use Rattle.office_log.specs.Scheme.{office_scheme}
use Rattle.office_log.specs.Submits.{filing_asked, filing_semantics}
use Rattle.log_stamps.specs.Rows.{semantics_under, own_under}
use Rattle.aid_stamps.specs.declared.stamp.Stamp.{Stamp}
use Rattle.log_stamps.specs.declared.entry.StampedEntry.{StampedEntry}
use Rattle.log_session.specs.Links.{IsOpened}
use Rattle.log_session.specs.declared.stop.FileStop.TheVariants as filing
use Rattle.log_session.specs.declared.stop.SessionStop.TheVariants as session
use Rattle.web_session.specs.Ports.{AcceptorState}
use Rattle.web_workers.specs.Sessions.{closed_as}
use Rattle.web_workers.specs.Workers.{HasServed, HasStopped, WorkerView, all_shown, ports_of, shown_of, worker_of}
use Rattle.web_workers.specs.declared.stop.WebEnd.{WebEnd}
use Rattle.web_workers.specs.declared.stop.WebEnd.TheVariants as ended
use Rattle.log_lock.specs.declared.turned.Snapshot.{Snapshot}
use Rattle.log_runs.specs.Ends.{Ends, stopped, well}
use Rattle.log_runs.proofs.EndLaws.{with_status}
use Rattle.run_server.specs.RanWeb.{CanServe, HasAcceptorFault, HasServedAll, IsUnrisen, RanWeb, has_failed, served, starved, unasked, unopened, web_end}
use Rattle.log_runs.specs.Statuses.{fault_line, open_status, status_of}
use Rattle.run_server.specs.OfficeApi.{office_web}
use Rattle.log_runs.specs.declared.stop.RunStop.{RunStop}
use Rattle.log_runs.specs.declared.stop.RunStop.TheVariants.{Usage, File, Socket}

-- the run over what the desks served
module _ {D K P : Type 0} (disk : Ghosts D) (sink : SinkGhosts K) (tells : P → AcceptorState) (faults : P → ℕ) (sessions : ℕ) (stamp : Stamp) where
  pub web_served : (old at now new : D) (before after : List P) (workers : List (WorkerView (StampedEntry Filing) P)) (past history : List (StampedEntry Filing)) (pending : Option (StampedEntry Filing)) (log : List RowName) (waiting : Option RowName) (out out' : K) (status : ℕ) (how : Result Unit RunStop)
      → CanServe (length before) sessions → IsOpened disk office_scheme past old at → disk.faults at ≡ disk.faults old
      → HasServed (semantics_under stamp filing_semantics) (own_under stamp filing_asked) office_web tells faults sessions (stand_of past None [] None (disk.faults at) (disk.tells at).honest) (stand_of history pending log waiting (disk.faults now) (disk.tells now).honest) (map worker_of before) workers
      → after ≡ ports_of workers → new ≡ now → (IsHonest (disk.tells new) → IsSound office_scheme (disk.tells new) history pending)
      → (IsHonest (disk.tells now) → EachMoment (disk.tells at) (disk.tells now) (RecoversBetween office_scheme past (with_entry pending history))) → how ≡ web_end workers → Ends sink out out' how status
      → RanWeb disk sink tells faults sessions stamp old new before after out out' status
  web_served old at now new before after workers past history pending log waiting out out' status how can opened unmoved has ports same sound moments is ends =
      served past history pending log waiting at workers status can opened
      (subst (λ (d : D). HasServed (semantics_under stamp filing_semantics) (own_under stamp filing_asked) office_web tells faults sessions (stand_of past None [] None (disk.faults old) (disk.tells at).honest) (stand_of history pending log waiting (disk.faults d) (disk.tells d).honest) (map worker_of before) workers) (sym same)
      (subst (λ n. HasServed (semantics_under stamp filing_semantics) (own_under stamp filing_asked) office_web tells faults sessions (stand_of past None [] None n (disk.tells at).honest) (stand_of history pending log waiting (disk.faults now) (disk.tells now).honest) (map worker_of before) workers) unmoved has))
      ports sound
      (subst (λ (d : D). IsHonest (disk.tells d) → EachMoment (disk.tells at) (disk.tells d) (RecoversBetween office_scheme past (with_entry pending history))) (sym same) moments)
      (subst (λ h. Ends sink out out' h status) is ends)

-- ---- the workers
-- where a test passes, and where it passes nowhere
any_at : {X : Type 0} (p : X → Bool) (xs : List X) → list_any p xs ≡ true → (k : ℕ) × (d : X) × (k < length xs) × (p (get_or xs k d) ≡ true)
any_at p [] is = absurd (let bad : ⊥ = cc in bad)
any_at {X} p (x ∷ xs) is = go (any_at p xs) (p x) refl
  where
    go : (list_any p xs ≡ true → (k : ℕ) × (d : X) × (k < length xs) × (p (get_or xs k d) ≡ true)) → (b : Bool) → p x ≡ b → (k : ℕ) × (d : X) × (k < suc (length xs)) × (p (get_or (x ∷ xs) k d) ≡ true)
    go more true here = (0, x, omega arith, here)
    go more false here = let (k, d, lt, at) = more (sym (ap (λ b. b || list_any p xs) here) ∙ is) in (suc k, d, omega (arith, lt), at)

any_none : {X : Type 0} (p : X → Bool) (xs : List X) → list_any p xs ≡ false → (k : ℕ) (d : X) → k < length xs → p (get_or xs k d) ≡ false
any_none p [] is k d lt = absurd (omega (arith, lt))
any_none {X} p (x ∷ xs) is k d lt = go (any_none p xs) (p x) refl k lt
  where
    go : (list_any p xs ≡ false → (k : ℕ) (e : X) → k < length xs → p (get_or xs k e) ≡ false) → (b : Bool) → p x ≡ b → (k : ℕ) → k < suc (length xs) → p (get_or (x ∷ xs) k d) ≡ false
    go more true here k lt = absurd (let bad : true ≡ false = sym (ap (λ b. b || list_any p xs) here) ∙ is in let no : ⊥ = cc in no)
    go more false here zero lt = here
    go more false here (suc k) lt = more (sym (ap (λ b. b || list_any p xs) here) ∙ is) k d (omega (arith, lt))

pub shown_at : {P : Type 0} (xs ys : List (WorkerView (StampedEntry Filing) P)) → all_shown xs ≡ all_shown ys → (k : ℕ) (d : WorkerView (StampedEntry Filing) P) → k < length ys → shown_of (get_or xs k d) ≡ shown_of (get_or ys k d)
shown_at xs [] same k d lt = absurd (omega (arith, lt))
shown_at [] (y ∷ ys) same k d lt = absurd (let sizes : 0 ≡ suc (length (all_shown ys)) = ap length same in omega (arith, sizes))
shown_at (x ∷ xs) (y ∷ ys) same zero d lt = ap (λ l. get_or l 0 (shown_of y)) same
shown_at (x ∷ xs) (y ∷ ys) same (suc k) d lt = shown_at xs ys (ap (drop 1) same) k d (omega (arith, lt))

pub shown_size : {P : Type 0} (xs ys : List (WorkerView (StampedEntry Filing) P)) → all_shown xs ≡ all_shown ys → length xs ≡ length ys
shown_size [] [] same = refl
shown_size [] (y ∷ ys) same = absurd (let sizes : 0 ≡ suc (length (all_shown ys)) = ap length same in omega (arith, sizes))
shown_size (x ∷ xs) [] same = absurd (let sizes : suc (length (all_shown xs)) ≡ 0 = ap length same in omega (arith, sizes))
shown_size (x ∷ xs) (y ∷ ys) same = ap (λ n. suc n) (shown_size xs ys (ap (drop 1) same))

failed_rose : (e : WebEnd) (n limit old new : ℕ) → has_failed e ≡ true → HasStopped e n limit old new → Rose old new
failed_rose ended.Open n limit old new is ended_so = absurd ended_so
failed_rose ended.Done n limit old new is ended_so = absurd (let bad : ⊥ = cc in bad)
failed_rose ended.AcceptorFault n limit old new is ended_so = ended_so.1

done_served : (e : WebEnd) (n limit old new : ℕ) → has_failed e ≡ false → HasStopped e n limit old new → n ≡ limit
done_served ended.Open n limit old new is ended_so = absurd ended_so
done_served ended.Done n limit old new is ended_so = ended_so.0
done_served ended.AcceptorFault n limit old new is ended_so = absurd (let bad : ⊥ = cc in bad)

done_still : (e : WebEnd) (n limit old new : ℕ) → has_failed e ≡ false → HasStopped e n limit old new → new ≡ old
done_still ended.Open n limit old new is ended_so = absurd ended_so
done_still ended.Done n limit old new is ended_so = ended_so.1
done_still ended.AcceptorFault n limit old new is ended_so = absurd (let bad : ⊥ = cc in bad)

pub size_map : {A B : Type 0} (f : A → B) (xs : List A) → length (map f xs) ≡ length xs
size_map f [] = refl
size_map f (x ∷ xs) = ap (λ n. suc n) (size_map f xs)

-- the ports of the workers that these ports become
pub ports_back : {P : Type 0} (ports : List P) → ports_of {Entry = StampedEntry Filing} (map worker_of ports) ≡ ports
ports_back [] = refl
ports_back (p ∷ ports) = ap (λ l. p ∷ l) (ports_back ports)

-- the port at a place
pub before_at : {P : Type 0} (before : List P) (k : ℕ) (d : WorkerView (StampedEntry Filing) P) → (get_or (map worker_of before) k d).port ≡ get_or before k d.port
before_at {P} before k d = sym (get_or-map (λ (d : WorkerView (StampedEntry Filing) P). d.port) (map worker_of before) k d) ∙ ap (λ l. get_or l k d.port) (ports_back before)

pub after_at : {P : Type 0} (after : List P) (workers : List (WorkerView (StampedEntry Filing) P)) → after ≡ ports_of workers → (k : ℕ) (d : WorkerView (StampedEntry Filing) P) → (get_or workers k d).port ≡ get_or after k d.port
after_at {P} after workers ports k d = sym (get_or-map (λ (d : WorkerView (StampedEntry Filing) P). d.port) workers k d) ∙ ap (λ l. get_or l k d.port) (sym ports)

module _ {P : Type 0} (tells : P → AcceptorState) (faults : P → ℕ) (sessions : ℕ) (stamp : Stamp) (opening closed : Snapshot (Filed (StampedEntry Filing))) (before after : List P) (workers : List (WorkerView (StampedEntry Filing) P)) (has : HasServed (semantics_under stamp filing_semantics) (own_under stamp filing_asked) office_web tells faults sessions opening closed (map worker_of before) workers) (ports : after ≡ ports_of workers) where
  abbrev were : List (WorkerView (StampedEntry Filing) P)
  were = map worker_of before

  port_fault : list_any (λ (d : WorkerView (StampedEntry Filing) P). has_failed d.ended) workers ≡ true → HasAcceptorFault faults before after
  port_fault is =
      let (k, d, lt, failed) = any_at (λ (d : WorkerView (StampedEntry Filing) P). has_failed d.ended) workers is in
      let size = shown_size workers has.workers has.shown in
      let inside : k < length were = omega (arith, lt, size, has.count) in
      let shown = shown_at workers has.workers has.shown k d (omega (arith, lt, size)) in
      let one = has.each k d inside in
      let ended_is : (get_or workers k d).ended ≡ (get_or has.workers k d).ended = ap (λ s. s.4) shown in
      let port_is : (get_or workers k d).port ≡ (get_or has.workers k d).port = ap (λ s. s.1) shown in
      let rose : Rose (faults (get_or were k d).port) (faults (get_or has.workers k d).port) = failed_rose (get_or has.workers k d).ended _ _ _ _ (ap has_failed (sym ended_is) ∙ failed) one.stopped in (
        k,
        d.port,
        subst (λ n. k < n) (size_map worker_of before) inside,
        subst (λ p. Rose (faults p) (faults (get_or after k d.port))) (before_at before k d) (subst (λ p. Rose (faults (get_or were k d).port) (faults p)) (sym port_is ∙ after_at after workers ports k d) rose),
      )

  all_back : list_any (λ (d : WorkerView (StampedEntry Filing) P). has_failed d.ended) workers ≡ false → (k : ℕ) (p : P) → k < length before → HasServedAll tells sessions (get_or before k p) (get_or after k p)
  all_back none k p below =
      let d : WorkerView (StampedEntry Filing) P = worker_of p in
      let inside : k < length were = subst (λ n. k < n) (sym (size_map worker_of before)) below in
      let size = shown_size workers has.workers has.shown in
      let lt : k < length has.workers = omega (arith, inside, has.count) in
      let shown = shown_at workers has.workers has.shown k d lt in
      let one = has.each k d inside in
      let ended_is : (get_or workers k d).ended ≡ (get_or has.workers k d).ended = ap (λ s. s.4) shown in
      let port_is : (get_or workers k d).port ≡ (get_or has.workers k d).port = ap (λ s. s.1) shown in
      let all : (get_or has.workers k d).served ≡ sessions = done_served (get_or has.workers k d).ended _ _ _ _ (ap has_failed (sym ended_is) ∙ any_none (λ (d : WorkerView (StampedEntry Filing) P). has_failed d.ended) workers none k d (omega (arith, lt, size))) one.stopped in
      record {
        back = map closed_as one.served.sessions;
        count = size_map closed_as one.served.sessions ∙ (sym one.served.count ∙ all);
        closed = subst (λ old. IsTrue (tells old).honest → (tells (get_or after k p)).closed ≡ (tells old).closed ++ map closed_as one.served.sessions) (before_at before k d)
            (subst (λ new. IsTrue (tells (get_or were k d).port).honest → (tells new).closed ≡ (tells (get_or were k d).port).closed ++ map closed_as one.served.sessions) (sym port_is ∙ after_at after workers ports k d) one.served.closed);
      }

  all_still : list_any (λ (d : WorkerView (StampedEntry Filing) P). has_failed d.ended) workers ≡ false → (k : ℕ) (p : P) → k < length before → faults (get_or after k p) ≡ faults (get_or before k p)
  all_still none k p below =
      let d : WorkerView (StampedEntry Filing) P = worker_of p in
      let inside : k < length were = subst (λ n. k < n) (sym (size_map worker_of before)) below in
      let size = shown_size workers has.workers has.shown in
      let lt : k < length has.workers = omega (arith, inside, has.count) in
      let shown = shown_at workers has.workers has.shown k d lt in
      let one = has.each k d inside in
      let ended_is : (get_or workers k d).ended ≡ (get_or has.workers k d).ended = ap (λ s. s.4) shown in
      let port_is : (get_or workers k d).port ≡ (get_or has.workers k d).port = ap (λ s. s.1) shown in
      let same : faults (get_or has.workers k d).port ≡ faults (get_or were k d).port = done_still (get_or has.workers k d).ended _ _ _ _ (ap has_failed (sym ended_is) ∙ any_none (λ (d : WorkerView (StampedEntry Filing) P). has_failed d.ended) workers none k d (omega (arith, lt, size))) one.stopped in
      subst (λ old. faults (get_or after k p) ≡ faults old) (before_at before k d) (subst (λ new. faults new ≡ faults (get_or were k d).port) (sym port_is ∙ after_at after workers ports k d) same)

-- ---- statuses
-- the status of a run that ended by a stop is that of the stop, or a write failed
stop_status : {K : Type 0} (sink : SinkGhosts K) (stop : RunStop) (old new : K) (status : ℕ) → Ends sink old new (Err stop) status → (status ≡ status_of stop) ⊎ ((status ≡ 4) × Rose (sink.faults old) (sink.faults new))
stop_status sink stop old new status (stopped _ _ ends) = with_status sink old new (fault_line stop) (status_of stop) status ends

early : {K : Type 0} (sink : SinkGhosts K) (stop : RunStop) (old new : K) (status : ℕ) → Ends sink old new (Err stop) status → (status ≡ status_of stop) ⊎ (status ≡ 4)
early sink stop old new status ends = go (stop_status sink stop old new status ends)
  where
    go : (status ≡ status_of stop) ⊎ ((status ≡ 4) × Rose (sink.faults old) (sink.faults new)) → (status ≡ status_of stop) ⊎ (status ≡ 4)
    go (inl is) = inl is
    go (inr (is, rose)) = inr is

early_still : {K : Type 0} (sink : SinkGhosts K) (stop : RunStop) (old new : K) (status : ℕ) → Ends sink old new (Err stop) status → IsUnrisen (sink.faults old) (sink.faults new) → status ≡ status_of stop
early_still sink stop old new status ends unrisen = go (stop_status sink stop old new status ends)
  where
    go : (status ≡ status_of stop) ⊎ ((status ≡ 4) × Rose (sink.faults old) (sink.faults new)) → status ≡ status_of stop
    go (inl is) = is
    go (inr (is, rose)) = absurd (unrisen rose)

done_status : {K : Type 0} (sink : SinkGhosts K) (old new : K) (status : ℕ) → Ends sink old new (Ok tt) status → status ≡ 0
done_status sink old new status (well same) = refl

not_by : (a n m : ℕ) → a ≡ n → (a ≡ m) ⊎ (a ≡ 4) → n ≢ m → n ≢ 4 → ⊥
not_by a n m is (inl other) ne ne4 = ne (sym is ∙ other)
not_by a n m is (inr four) ne ne4 = ne4 (sym is ∙ four)

open_status_is : (error : OpenError) → (open_status error ≢ 2) × ((open_status error ≢ 10) × (open_status error ≢ 0))
open_status_is opening.NoOffice = (λ e. omega (arith, e), (λ e. omega (arith, e), λ e. omega (arith, e)))
open_status_is opening.NotJournal = (λ e. omega (arith, e), (λ e. omega (arith, e), λ e. omega (arith, e)))
open_status_is opening.OldVersion = (λ e. omega (arith, e), (λ e. omega (arith, e), λ e. omega (arith, e)))
open_status_is (opening.Damaged place) = (λ e. omega (arith, e), (λ e. omega (arith, e), λ e. omega (arith, e)))
open_status_is opening.DiskFault = (λ e. omega (arith, e), (λ e. omega (arith, e), λ e. omega (arith, e)))
open_status_is opening.NoMemory = (λ e. omega (arith, e), (λ e. omega (arith, e), λ e. omega (arith, e)))

-- the status once the workers have served, by whether a session ended for want of memory and whether a port failed
module _ {K : Type 0} (sink : SinkGhosts K) (out out' : K) (status : ℕ) where
  abbrev how : Bool → Bool → Result Unit RunStop
  how lacks fails = if lacks then Err (File (session.Filing filing.NoMemory)) else if fails then Err Socket else Ok tt

  starved_early : Ends sink out out' (Err (File (session.Filing filing.NoMemory))) status → (status ≡ 9) ⊎ (status ≡ 4)
  starved_early = early sink (File (session.Filing filing.NoMemory)) out out' status

  socket_by : (lacks fails : Bool) → Ends sink out out' (how lacks fails) status → status ≡ 10 → fails ≡ true
  socket_by true fails e is = absurd (not_by status 10 9 is (starved_early e) (λ n. omega (arith, n)) (λ n. omega (arith, n)))
  socket_by false true e is = refl
  socket_by false false e is = absurd (let none = done_status sink out out' status e in omega (arith, none, is))

  zero_by : (lacks fails : Bool) → Ends sink out out' (how lacks fails) status → status ≡ 0 → fails ≡ false
  zero_by true fails e is = absurd (not_by status 0 9 is (starved_early e) (λ n. omega (arith, n)) (λ n. omega (arith, n)))
  zero_by false true e is = absurd (not_by status 0 10 is (early sink Socket out out' status e) (λ n. omega (arith, n)) (λ n. omega (arith, n)))
  zero_by false false e is = refl

  usage_by : (lacks fails : Bool) → Ends sink out out' (how lacks fails) status → status ≡ 2 → ⊥
  usage_by true fails e is = not_by status 2 9 is (starved_early e) (λ n. omega (arith, n)) (λ n. omega (arith, n))
  usage_by false true e is = not_by status 2 10 is (early sink Socket out out' status e) (λ n. omega (arith, n)) (λ n. omega (arith, n))
  usage_by false false e is = let none = done_status sink out out' status e in omega (arith, none, is)

  complete_by : (lacks fails : Bool) → Ends sink out out' (how lacks fails) status → IsUnrisen (sink.faults out) (sink.faults out') → (fails ≡ true → ⊥) → (status ≡ 0) ⊎ (status ≡ 9)
  complete_by true fails e unrisen none = inr (early_still sink (File (session.Filing filing.NoMemory)) out out' status e unrisen)
  complete_by false true e unrisen none = absurd (none refl)
  complete_by false false e unrisen none = inl (done_status sink out out' status e)

-- ---- causes
module _ {D K P : Type 0} (disk : Ghosts D) (sink : SinkGhosts K) (tells : P → AcceptorState) (faults : P → ℕ) (sessions : ℕ) (stamp : Stamp) (old new : D) (before after : List P) (out out' : K) (status : ℕ) where
  abbrev any_starved : List (WorkerView (StampedEntry Filing) P) → Bool
  any_starved workers = list_any (λ (d : WorkerView (StampedEntry Filing) P). d.starved) workers

  abbrev any_failed : List (WorkerView (StampedEntry Filing) P) → Bool
  any_failed workers = list_any (λ (d : WorkerView (StampedEntry Filing) P). has_failed d.ended) workers

  pub usage : RanWeb disk sink tells faults sessions stamp old new before after out out' status → status ≡ 2 → CanServe (length before) sessions → ⊥
  usage (unasked _ cannot same still_ports e) is can = cannot can
  usage (unopened error _ could u cause still_disk same_ports e) is can = not_by status 2 (open_status error) is (early sink (File (session.Opening error)) out out' status e) (λ n. (open_status_is error).0 (sym n)) (λ n. omega (arith, n))
  usage (starved past _ could opened still_disk same_ports e) is can = not_by status 2 9 is (early sink (File (session.Filing filing.NoMemory)) out out' status e) (λ n. omega (arith, n)) (λ n. omega (arith, n))
  usage (served past history pending log waiting at workers _ could opened has ports sound moments e) is can = usage_by sink out out' status (any_starved workers) (any_failed workers) e is

  pub socket : RanWeb disk sink tells faults sessions stamp old new before after out out' status → status ≡ 10 → HasAcceptorFault faults before after
  socket (unasked _ cannot same still_ports e) is = absurd (not_by status 10 2 is (early sink Usage out out' status e) (λ n. omega (arith, n)) (λ n. omega (arith, n)))
  socket (unopened error _ could u cause still_disk same_ports e) is = absurd (not_by status 10 (open_status error) is (early sink (File (session.Opening error)) out out' status e) (λ n. (open_status_is error).1.0 (sym n)) (λ n. omega (arith, n)))
  socket (starved past _ could opened still_disk same_ports e) is = absurd (not_by status 10 9 is (early sink (File (session.Filing filing.NoMemory)) out out' status e) (λ n. omega (arith, n)) (λ n. omega (arith, n)))
  socket (served past history pending log waiting at workers _ could opened has ports sound moments e) is = port_fault tells faults sessions stamp _ _ before after workers has ports (socket_by sink out out' status (any_starved workers) (any_failed workers) e is)

  pub all : RanWeb disk sink tells faults sessions stamp old new before after out out' status → status ≡ 0 → (k : ℕ) (p : P) → k < length before → HasServedAll tells sessions (get_or before k p) (get_or after k p)
  all (unasked _ cannot same still_ports e) is = absurd (not_by status 0 2 is (early sink Usage out out' status e) (λ n. omega (arith, n)) (λ n. omega (arith, n)))
  all (unopened error _ could u cause still_disk same_ports e) is = absurd (not_by status 0 (open_status error) is (early sink (File (session.Opening error)) out out' status e) (λ n. (open_status_is error).1.1 (sym n)) (λ n. omega (arith, n)))
  all (starved past _ could opened still_disk same_ports e) is = absurd (not_by status 0 9 is (early sink (File (session.Filing filing.NoMemory)) out out' status e) (λ n. omega (arith, n)) (λ n. omega (arith, n)))
  all (served past history pending log waiting at workers _ could opened has ports sound moments e) is = all_back tells faults sessions stamp _ _ before after workers has ports (zero_by sink out out' status (any_starved workers) (any_failed workers) e is)

  pub ports_still : RanWeb disk sink tells faults sessions stamp old new before after out out' status → status ≡ 0 → (k : ℕ) (p : P) → k < length before → faults (get_or after k p) ≡ faults (get_or before k p)
  ports_still (unasked _ cannot same still_ports e) is k p lt = ap (λ l. faults (get_or l k p)) still_ports
  ports_still (unopened error _ could u cause still_disk same_ports e) is k p lt = ap (λ l. faults (get_or l k p)) same_ports
  ports_still (starved past _ could opened still_disk same_ports e) is k p lt = ap (λ l. faults (get_or l k p)) same_ports
  ports_still (served past history pending log waiting at workers _ could opened has ports sound moments e) is k p lt = all_still tells faults sessions stamp _ _ before after workers has ports (zero_by sink out out' status (any_starved workers) (any_failed workers) e is) k p lt

  pub complete : RanWeb disk sink tells faults sessions stamp old new before after out out' status → CanServe (length before) sessions → IsHonest (disk.tells old) → (past : List (StampedEntry Filing)) → Recovers office_scheme (disk.tells old).reads past
      → IsUnrisen (disk.faults old) (disk.faults new) → IsUnrisen (sink.faults out) (sink.faults out') → (HasAcceptorFault faults before after → ⊥) → (status ≡ 0) ⊎ (status ≡ 9)
  complete (unasked _ cannot same still_ports e) can honest past recovers still quiet ports = absurd (cannot can)
  complete (unopened error _ could u cause still_disk same_ports e) can honest past recovers still quiet ports = inr (go (u.complete honest past recovers))
    where
      go : (error ≡ opening.NoMemory) ⊎ (error ≡ opening.DiskFault) → status ≡ 9
      go (inl is) = early_still sink (File (session.Opening error)) out out' status e quiet ∙ ap open_status is
      go (inr is) = absurd (still (cause is))
  complete (starved past' _ could opened still_disk same_ports e) can honest past recovers still quiet ports = inr (early_still sink (File (session.Filing filing.NoMemory)) out out' status e quiet)
  complete (served past' history pending log waiting at workers _ could opened has given sound moments e) can honest past recovers still quiet none =
      complete_by sink out out' status (any_starved workers) (any_failed workers) e quiet (λ failed. none (port_fault tells faults sessions stamp _ _ before after workers has given failed))
