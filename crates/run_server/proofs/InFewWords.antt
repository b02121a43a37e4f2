-- What a run of the server comes to, in few words.
use Rattle.std.proofs.Common.{◌≡◌, ◌⊎◌, inl, inr, ⊎_elim, ℕ, zero, suc, ◌+◌, ◌<◌, ◌≤◌, IsTrue, List, [], ◌∷◌, ◌++◌, Option, Some, None, length, map, get_or, refl, sym, ap, ap₂, ◌∙◌, subst, arith, append-nil, length-append, zero-lt-suc}
use Rattle.std.proofs.lemmas.List.{length-map}
use Rattle.std.specs.Prelude.{Contains, option_map}
use Rattle.std.specs.List.{All, flat_map, sum_by}
use Rattle.std.proofs.lemmas.List.Sums.{sum_by-cons}
use Rattle.std.proofs.lemmas.List.Elements.{All-nil, All-cons, All-head, All-tail, All-weaker, All-contains_itself, Contains-append_cases}
use Rattle.aid_filings.specs.declared.filing.Filing.{Filing}
use Rattle.aid_filings.specs.declared.reply.Operation.{Operation}
use Rattle.aid_stamps.specs.declared.stamp.Stamp.{Stamp}
use Rattle.io_traits.proofs.Moments.{join, started, weaken}
use Rattle.io_traits.specs.DiskState.{EachImage, EachMoment, IsHonest}
use Rattle.io_traits.specs.declared.disk.Disk.{Ghosts}
use Rattle.io_traits.specs.declared.sink.Sink.{Ghosts as SinkGhosts}
use Rattle.log_desks.proofs.Going.{entries_filed}
use Rattle.log_desks.proofs.Turning.{entries_append}
use Rattle.log_desks.specs.Desks.{left_in, turns_in, wants_in}
use Rattle.log_desks.specs.Shares.{RecoversBetween, stand_of}
use Rattle.log_lock.proofs.Lists.{older_trans}
use Rattle.log_lock.specs.Passes.{IsOlder, numbered}
use Rattle.log_lock.specs.declared.turned.Snapshot.{Snapshot}
use Rattle.log_machine.proofs.Histories.{recovers_once}
use Rattle.log_machine.specs.Kept.{IsSound}
use Rattle.log_machine.specs.Names.{entries_of, filed_by, filed_list, filed_pending, no_row}
use Rattle.log_machine.specs.Submits.{with_entry}
use Rattle.log_machine.specs.declared.names.Filed.{Filed}
use Rattle.log_machine.specs.declared.names.RowName.{RowName}
use Rattle.log_session.specs.Links.{IsOpened}
use Rattle.log_stamps.specs.Entries.{entries, with_stamp}
use Rattle.log_stamps.specs.Rows.{own_under, semantics_under}
use Rattle.log_stamps.specs.declared.entry.StampedEntry.{StampedEntry}
use Rattle.office_history.specs.Answer.{IsLegal}
use Rattle.office_log.specs.OfficeLaws.{office_alone}
use Rattle.office_log.specs.OwnLaws.{own_added}
use Rattle.office_log.specs.Recovers as kept
use Rattle.office_log.specs.Scheme.{office_scheme}
use Rattle.office_log.specs.Submits.{filing_asked, filing_semantics}
use Rattle.run_claims.proofs.Office.{from_kept, to_kept}
use Rattle.run_claims.specs.Office.{Recovers}
use Rattle.web_session.specs.Ports.{AcceptorState, Closed}
use Rattle.web_workers.proofs.AllStates.{each_brought, each_told, sum_below-is}
use Rattle.web_workers.proofs.Stamped.{own_added_under}
use Rattle.web_workers.specs.AllTold.{AllHonest, EachIsTold, below_suc, sum_below}
use Rattle.web_workers.specs.Closed.{AreToldOf, IsBroughtBy, times_asked, times_no_storage}
use Rattle.web_workers.specs.Sessions.{Session, closed_as}
use Rattle.web_workers.specs.Workers.{HasServed, WorkerView, ports_of, worker_of}
use Rattle.run_server.proofs.Exchanges.{session_exchanged, statuses_of}
use Rattle.run_server.proofs.Replies.{asks_are, no_memory, otherwise, wants_are}
use Rattle.run_server.proofs.WebCauses.{after_at, before_at, shown_at, shown_size, size_map}
use Rattle.run_server.specs.Exchanged.{Exchanged}
use Rattle.run_server.specs.OfficeApi.{office_web}
use Rattle.run_server.specs.RanPorts.{Connection, RanPorts, ServedPort, all_times, times}
use Rattle.run_server.specs.RanWeb.{HasServedAll, RanWeb, served, starved, unasked, unopened}
use Rattle.run_server.specs.WebLaws.{unavailable}

-- ---- connections
module _ (stamp : Stamp) (closed : List (StampedEntry Filing)) (mine : List (ℕ × Filed (StampedEntry Filing))) (port : ℕ) where
  abbrev AreTold : ℕ → List (Session (StampedEntry Filing)) → Type 0
  AreTold number sessions = AreToldOf (semantics_under stamp filing_semantics) (own_under stamp filing_asked) office_web port closed mine number sessions

  -- the connections as their port has them
  abbrev connections_of : (number : ℕ) (sessions : List (Session (StampedEntry Filing))) → AreTold number sessions → List Connection
  connections_of number [] are = []
  connections_of number (s ∷ sessions) are = (s.bytes, closed_as s, statuses_of are.0.answers) ∷ connections_of (number + 1) sessions are.1

  bytes_of : (number : ℕ) (sessions : List (Session (StampedEntry Filing))) (are : AreTold number sessions) → map (λ (s : Session (StampedEntry Filing)). s.bytes) sessions ≡ map (λ (c : Connection). c.0) (connections_of number sessions are)
  bytes_of number [] are = refl
  bytes_of number (s ∷ sessions) are = ap (λ (l : List (List ℕ)). s.bytes ∷ l) (bytes_of (number + 1) sessions are.1)

  texts_of : (number : ℕ) (sessions : List (Session (StampedEntry Filing))) (are : AreTold number sessions) → map closed_as sessions ≡ map (λ (c : Connection). c.1) (connections_of number sessions are)
  texts_of number [] are = refl
  texts_of number (s ∷ sessions) are = ap (λ (l : List Closed). closed_as s ∷ l) (texts_of (number + 1) sessions are.1)

  abbrev IsExchanged : Connection → Type 0
  IsExchanged c = Exchanged stamp closed c.0 c.1.text c.2

  all_exchanged : IsLegal (entries closed) → (number : ℕ) (sessions : List (Session (StampedEntry Filing))) (are : AreTold number sessions) → All IsExchanged (connections_of number sessions are)
  all_exchanged legal number [] are = All-nil IsExchanged
  all_exchanged legal number (s ∷ sessions) are =
      All-cons IsExchanged (s.bytes, closed_as s, statuses_of are.0.answers) (connections_of (number + 1) sessions are.1)
      (session_exchanged stamp closed legal mine (record { desk = port; row = number }) s are.0) (all_exchanged legal (number + 1) sessions are.1)

  -- how many of the replies are 507, and how many are not
  all_wants : (number : ℕ) (sessions : List (Session (StampedEntry Filing))) (are : AreTold number sessions)
      → all_times no_memory (connections_of number sessions are) ≡ times_no_storage (semantics_under stamp filing_semantics) (own_under stamp filing_asked) office_web port closed mine number sessions are
  all_wants number [] are = refl
  all_wants number (s ∷ sessions) are =
      sum_by-cons (λ (c : Connection). times no_memory c.2) (s.bytes, closed_as s, statuses_of are.0.answers) (connections_of (number + 1) sessions are.1)
      ∙ ap₂ (λ m n. m + n) (wants_are are.0.answers) (all_wants (number + 1) sessions are.1)

  all_asks : (number : ℕ) (sessions : List (Session (StampedEntry Filing))) (are : AreTold number sessions)
      → times_asked (semantics_under stamp filing_semantics) (own_under stamp filing_asked) office_web port closed mine number sessions are
      ≤ all_times otherwise (connections_of number sessions are) + times_no_storage (semantics_under stamp filing_semantics) (own_under stamp filing_asked) office_web port closed mine number sessions are
  all_asks number [] are = omega arith
  all_asks number (s ∷ sessions) are =
      let one = asks_are stamp (record { desk = port; row = number }) closed mine are.0.done are.0.answers are.0.each in
      let more = all_asks (number + 1) sessions are.1 in
      let both = sum_by-cons (λ (c : Connection). times otherwise c.2) (s.bytes, closed_as s, statuses_of are.0.answers) (connections_of (number + 1) sessions are.1) in
      omega (arith, one, more, both)

-- sums of as many numbers as a list has elements, each of which is at least what the element has
sum_below-most : {X : Type 0} (g h : X → ℕ) (d : X) (n : ℕ) (xs : List X) (f : (k : ℕ) → k < n → ℕ) → length xs ≡ n → ((k : ℕ) (below : k < n) → g (get_or xs k d) ≤ f k below + h (get_or xs k d)) → sum_by g xs ≤ sum_below n f + sum_by h xs
sum_below-most g h d zero [] f size each = omega arith
sum_below-most g h d zero (x ∷ xs) f size each = absurd (omega (arith, size))
sum_below-most g h d (suc n) [] f size each = absurd (omega (arith, size))
sum_below-most g h d (suc n) (x ∷ xs) f size each =
    let one : g x ≤ f 0 (zero-lt-suc n) + h x = each 0 (zero-lt-suc n) in
    let more = sum_below-most g h d n xs (λ k below. f (suc k) (below_suc k n below)) (omega (arith, size)) (λ k below. each (suc k) (below_suc k n below)) in
    omega (arith, one, more, sum_by-cons g x xs, sum_by-cons h x xs)

sum_below-none : (n : ℕ) (f : (k : ℕ) → k < n → ℕ) → ((k : ℕ) (below : k < n) → f k below ≡ 0) → sum_below n f ≡ 0
sum_below-none zero f each = refl
sum_below-none (suc n) f each =
    let one = each 0 (zero-lt-suc n) in
    let more = sum_below-none n (λ k below. f (suc k) (below_suc k n below)) (λ k below. each (suc k) (below_suc k n below)) in
    omega (arith, one, more)

-- ---- stamps
-- what an ask of the run adds has its stamp
own_stamp : (stamp : Stamp) (operation : Operation) (by : RowName) (f : Filed (StampedEntry Filing)) → filed_by (own_under stamp filing_asked operation) by ≡ Some f → f.entry.stamp ≡ stamp
own_stamp stamp operation by f is = go (filing_asked operation) is
  where
    go : (o : Option Filing) → filed_by (option_map (with_stamp stamp) o) by ≡ Some f → f.entry.stamp ≡ stamp
    go None same = absurd (let no : ⊥ = cc in no)
    go (Some g) same =
        let one : record { entry = with_stamp stamp g; by = by } ≡ f = cc in
        sym (ap (λ (x : Filed (StampedEntry Filing)). x.entry.stamp) one)

-- the entries alone of a list of which this is so
all_entries : (stamp : Stamp) (n : ℕ) (fs : List (Filed (StampedEntry Filing))) → All (λ (e : ℕ × Filed (StampedEntry Filing)). e.1.entry.stamp ≡ stamp) (numbered n fs) → All (λ (e : StampedEntry Filing). e.stamp ≡ stamp) (entries_of fs)
all_entries stamp n [] all = All-nil (λ (e : StampedEntry Filing). e.stamp ≡ stamp)
all_entries stamp n (f ∷ fs) all =
    All-cons (λ (e : StampedEntry Filing). e.stamp ≡ stamp) f.entry (entries_of fs)
    (All-head (λ (e : ℕ × Filed (StampedEntry Filing)). e.1.entry.stamp ≡ stamp) (n + length fs + 1, f) (numbered n fs) all)
    (all_entries stamp n fs (All-tail (λ (e : ℕ × Filed (StampedEntry Filing)). e.1.entry.stamp ≡ stamp) (n + length fs + 1, f) (numbered n fs) all))

-- what is in a list of lists is in one of them
in_one : {X A : Type 0} (f : X → List A) (xs : List X) (a : A) → Contains (flat_map f xs) a → (k : ℕ) × (d : X) × (k < length xs) × Contains (f (get_or xs k d)) a
in_one f [] a has = absurd (omega (arith, has.1))
in_one {X} f (x ∷ xs) a has = pick (in_one f xs a) (Contains-append_cases (f x) (flat_map f xs) a has)
  where
    pick : (Contains (flat_map f xs) a → (k : ℕ) × (d : X) × (k < length xs) × Contains (f (get_or xs k d)) a) → Contains (f x) a ⊎ Contains (flat_map f xs) a
        → (k : ℕ) × (d : X) × (k < suc (length xs)) × Contains (f (get_or (x ∷ xs) k d)) a
    pick later (inl here) = (0, x, omega arith, here)
    pick later (inr there) = let (k, d, lt, is) = later there in (suc k, d, omega (arith, lt), is)

none_in : {X : Type 0} (xs : List X) (x : X) → xs ≡ [] → Contains xs x → ⊥
none_in xs x none has = let bad : Contains [] x = subst (λ l. Contains l x) none has in omega (arith, bad.1)

-- ---- the workers served
module _ {D P : Type 0} (disk : Ghosts D) (tells : P → AcceptorState) (faults : P → ℕ) (sessions : ℕ) (stamp : Stamp) (old new : D) (before after : List P) (past history : List (StampedEntry Filing)) (pending : Option (StampedEntry Filing)) (log : List RowName) (waiting : Option RowName) (at : D) (workers : List (WorkerView (StampedEntry Filing) P)) where
  abbrev opening : Snapshot (Filed (StampedEntry Filing))
  opening = stand_of past None [] None (disk.faults old) (disk.tells at).honest

  abbrev closing : Snapshot (Filed (StampedEntry Filing))
  closing = stand_of history pending log waiting (disk.faults new) (disk.tells new).honest

  module _ (has : HasServed (semantics_under stamp filing_semantics) (own_under stamp filing_asked) office_web tells faults sessions opening closing (map worker_of before) workers) (honest : All (λ (p : P). IsTrue (tells p).honest) before) where
    abbrev told : EachIsTold (semantics_under stamp filing_semantics) (own_under stamp filing_asked) office_web tells faults sessions opening closing (map worker_of before) workers has
    told = each_told (semantics_under stamp filing_semantics) (own_under stamp filing_asked) office_web (own_added_under filing_semantics filing_asked own_added stamp) unavailable tells faults sessions opening closing (map worker_of before) workers has

    all_honest : AllHonest {Entry = StampedEntry Filing} tells (map worker_of before)
    all_honest k d inside =
        subst (λ (p : P). IsTrue (tells p).honest) (sym (before_at before k d))
        (honest k d.port (subst (λ n. k < n) (size_map worker_of before) inside))

    -- what joined
    abbrev added : List (StampedEntry Filing)
    added = entries_of has.ran.added

    joins : history ≡ added ++ past
    joins = sym (entries_filed history log) ∙ (ap entries_of has.ran.list ∙ (entries_append has.ran.added (filed_list past []) ∙ ap (λ l. added ++ l) (entries_filed past [])))

    -- what a connection brought has the stamp
    brought_stamp : (port : ℕ) (seen : List (StampedEntry Filing)) (mine : List (ℕ × Filed (StampedEntry Filing))) (number : ℕ) (ss : List (Session (StampedEntry Filing))) (are : AreToldOf (semantics_under stamp filing_semantics) (own_under stamp filing_asked) office_web port seen mine number ss) (f : Filed (StampedEntry Filing))
        → IsBroughtBy (semantics_under stamp filing_semantics) (own_under stamp filing_asked) office_web port seen mine number ss are f → f.entry.stamp ≡ stamp
    brought_stamp port seen mine number [] are f is = absurd is
    brought_stamp port seen mine number (s ∷ ss) are f (inl (request, operation, within, asks, own)) = own_stamp stamp operation (record { desk = port; row = number }) f own
    brought_stamp port seen mine number (s ∷ ss) are f (inr later) = brought_stamp port seen mine (number + 1) ss are.1 f later

    stamped : All (λ (e : StampedEntry Filing). e.stamp ≡ stamp) added
    stamped =
        all_entries stamp (length opening.list) has.ran.added
        (All-weaker (Contains (numbered (length opening.list) has.ran.added)) (λ (e : ℕ × Filed (StampedEntry Filing)). e.1.entry.stamp ≡ stamp)
        (λ entry within.
        let (k, d, inside, is) = each_brought (semantics_under stamp filing_semantics) (own_under stamp filing_asked) office_web (own_added_under filing_semantics filing_asked own_added stamp) unavailable tells faults sessions opening closing (map worker_of before) workers has told all_honest entry within in
        brought_stamp (k + 1) (entries_of closing.list) (has.each k d inside).last.mine 1 (has.each k d inside).served.sessions (told k d inside (all_honest k d inside)).told entry.1 is)
        (numbered (length opening.list) has.ran.added) (All-contains_itself (numbered (length opening.list) has.ran.added)))

    -- and so has what is undecided
    undecided_by : (f : Filed (StampedEntry Filing)) → closing.pending ≡ Some f → f.entry.stamp ≡ stamp
    undecided_by f is =
        let entry : ℕ × Filed (StampedEntry Filing) = (length closing.list + 1, f) in
        let (k, d, lt, there) = in_one (λ (d : WorkerView (StampedEntry Filing) P). left_in d.handle) has.workers entry (has.ran.pending f is) in
        let inside : k < length (map worker_of before) = omega (arith, lt, has.count) in
        let own = has.each k d inside in
        let left : Contains own.last.left entry = subst (λ p. Contains (left_in p) entry) own.has there in
        let have = told k d inside (all_honest k d inside) in
        brought_stamp (k + 1) (entries_of closing.list) own.last.mine 1 own.served.sessions have.told f
        (⊎_elim (λ first. absurd (none_in own.first.left entry own.fresh.left first)) (λ new. new) (have.left entry left))

    undecided_stamp : (e : StampedEntry Filing) → pending ≡ Some e → e.stamp ≡ stamp
    undecided_stamp e is = go waiting refl
      where
        named : (by : RowName) → closing.pending ≡ Some (record { entry = e; by = by }) → e.stamp ≡ stamp
        named by same = undecided_by (record { entry = e; by = by }) same

        go : (w : Option RowName) → waiting ≡ w → e.stamp ≡ stamp
        go None none = named no_row (ap (λ p. filed_pending p waiting) is ∙ ap (λ w. filed_pending (Some e) w) none)
        go (Some by) some = named by (ap (λ p. filed_pending p waiting) is ∙ ap (λ w. filed_pending (Some e) w) some)

    stamps : All (λ (e : StampedEntry Filing). e.stamp ≡ stamp) (with_entry pending added)
    stamps = go pending refl
      where
        go : (p : Option (StampedEntry Filing)) → pending ≡ p → All (λ (e : StampedEntry Filing). e.stamp ≡ stamp) (with_entry p added)
        go None is = stamped
        go (Some e) is = All-cons (λ (e : StampedEntry Filing). e.stamp ≡ stamp) e added (undecided_stamp e is) stamped

    -- the connections of a port
    module _ (ports : after ≡ ports_of workers) (legal : IsLegal (entries history)) where
      abbrev port_served : (k : ℕ) (p : P) → k < length before → ServedPort stamp (added ++ past) (tells (get_or before k p)) (tells (get_or after k p))
      port_served k p below =
          let d : WorkerView (StampedEntry Filing) P = worker_of p in
          let inside : k < length (map worker_of before) = subst (λ n. k < n) (sym (size_map worker_of before)) below in
          let size = shown_size workers has.workers has.shown in
          let lt : k < length has.workers = omega (arith, inside, has.count) in
          let shown = shown_at workers has.workers has.shown k d lt in
          let own = has.each k d inside in
          let is_honest = all_honest k d inside in
          let port_is : (get_or workers k d).port ≡ (get_or has.workers k d).port = ap (λ s. s.1) shown in
          let ss = own.served.sessions in
          let were : (get_or (map worker_of before) k d).port ≡ get_or before k p = before_at before k d in
          let are : (get_or has.workers k d).port ≡ get_or after k p = sym port_is ∙ after_at after workers ports k d in
          let have = (told k d inside is_honest).told in
          let cs = connections_of stamp (entries_of closing.list) own.last.mine (k + 1) 1 ss have in
          let all : All (λ (c : Connection). Exchanged stamp (entries_of closing.list) c.0 c.1.text c.2) cs =
          all_exchanged stamp (entries_of closing.list) own.last.mine (k + 1) (subst (λ (l : List (StampedEntry Filing)). IsLegal (entries l)) (sym (entries_filed history log)) legal) 1 ss have in
          record {
            connections = cs;
            brought = subst (λ (q : P). (tells q).coming ≡ map (λ (c : Connection). c.0) cs ++ (tells (get_or after k p)).coming) were
                (subst (λ (q : P). (tells (get_or (map worker_of before) k d).port).coming ≡ map (λ (c : Connection). c.0) cs ++ (tells q).coming) are
                (subst (λ (l : List (List ℕ)). (tells (get_or (map worker_of before) k d).port).coming ≡ l ++ (tells (get_or has.workers k d).port).coming) (bytes_of stamp (entries_of closing.list) own.last.mine (k + 1) 1 ss have) (own.served.coming is_honest)));
            written = subst (λ (q : P). (tells (get_or after k p)).closed ≡ (tells q).closed ++ map (λ (c : Connection). c.1) cs) were
                (subst (λ (q : P). (tells q).closed ≡ (tells (get_or (map worker_of before) k d).port).closed ++ map (λ (c : Connection). c.1) cs) are
                (subst (λ (l : List Closed). (tells (get_or has.workers k d).port).closed ≡ (tells (get_or (map worker_of before) k d).port).closed ++ l) (texts_of stamp (entries_of closing.list) own.last.mine (k + 1) 1 ss have) (own.served.closed is_honest)));
            exchanged = subst (λ (l : List (StampedEntry Filing)). All (λ (c : Connection). Exchanged stamp l c.0 c.1.text c.2) cs) (entries_filed history log ∙ joins) all;
          }

      -- the replies of a port that tell of want of memory are those of its worker
      module _ (p : P) where
        wants_here : (k : ℕ) (below : k < length before) → all_times no_memory (port_served k p below).connections ≡ wants_in (get_or has.workers k (worker_of p)).handle
        wants_here k below =
            let d : WorkerView (StampedEntry Filing) P = worker_of p in
            let inside : k < length (map worker_of before) = subst (λ n. k < n) (sym (size_map worker_of before)) below in
            let own = has.each k d inside in
            let here = told k d inside (all_honest k d inside) in
            let all = all_wants stamp (entries_of closing.list) own.last.mine (k + 1) 1 own.served.sessions here.told in
            let same : own.last.wants ≡ all_times no_memory (port_served k p below).connections = omega (arith, here.wants, own.fresh.wants, all) in
            sym same ∙ sym (ap wants_in own.has)

        asks_here : (k : ℕ) (below : k < length before) → turns_in (get_or has.workers k (worker_of p)).handle ≤ all_times otherwise (port_served k p below).connections + wants_in (get_or has.workers k (worker_of p)).handle
        asks_here k below =
            let d : WorkerView (StampedEntry Filing) P = worker_of p in
            let inside : k < length (map worker_of before) = subst (λ n. k < n) (sym (size_map worker_of before)) below in
            let own = has.each k d inside in
            let here = told k d inside (all_honest k d inside) in
            let all = all_asks stamp (entries_of closing.list) own.last.mine (k + 1) 1 own.served.sessions here.told in
            let same : own.last.turns ≤ all_times otherwise (port_served k p below).connections + own.last.wants = omega (arith, here.wants, own.fresh.wants, here.turns, own.fresh.turns, all) in
            subst (λ w. turns_in w ≤ all_times otherwise (port_served k p below).connections + wants_in w) (sym own.has) same

        -- where any reply was 507, at least as many as there are ports were not
        memory_here : 0 < sum_below (length before) (λ k below. all_times no_memory (port_served k p below).connections)
            → length before ≤ sum_below (length before) (λ k below. all_times otherwise (port_served k p below).connections)
        memory_here some_want =
            let d : WorkerView (StampedEntry Filing) P = worker_of p in
            let ports_are : length (map worker_of before) ≡ length before = size_map worker_of before in
            let size : length has.workers ≡ length before = has.count ∙ ports_are in
            let wants = sum_below-is (λ (w : WorkerView (StampedEntry Filing) P). wants_in w.handle) d (length before) has.workers (λ k below. all_times no_memory (port_served k p below).connections) size wants_here in
            let asks = sum_below-most (λ (w : WorkerView (StampedEntry Filing) P). turns_in w.handle) (λ (w : WorkerView (StampedEntry Filing) P). wants_in w.handle) d (length before) has.workers (λ k below. all_times otherwise (port_served k p below).connections) size asks_here in
            let found = has.found_room (omega (arith, wants, some_want)) in
            omega (arith, found, asks, ports_are)

-- ---- the run
module _ {D K P : Type 0} (disk : Ghosts D) (sink : SinkGhosts K) (tells : P → AcceptorState) (faults : P → ℕ)
    (only : (d : D) (c : List ℕ) → IsHonest (disk.tells d) → (disk.tells d).image_since (disk.tells d).moment c → (disk.tells d).image c)
    (counts : (d : D) (t : ℕ) (c : List ℕ) → IsHonest (disk.tells d) → t ≤ (disk.tells d).moment → (disk.tells d).image c → (disk.tells d).image_since t c)
    (here : (d : D) → IsHonest (disk.tells d) → (disk.tells d).image (disk.tells d).reads)
    (sessions : ℕ) (stamp : Stamp) (old new : D) (before after : List P) (out out' : K) (status : ℕ) (past : List (StampedEntry Filing)) (honest : IsHonest (disk.tells old))
    (sincere : All (λ (p : P). IsTrue (tells p).honest) before) (images : EachImage (disk.tells old) (λ file. Recovers file past)) where
  -- the connections of a port are as many as were taken back
  as_many : (last : List (StampedEntry Filing)) (k : ℕ) (p : P) → k < length before → (s : ServedPort stamp last (tells (get_or before k p)) (tells (get_or after k p))) → HasServedAll tells sessions (get_or before k p) (get_or after k p)
      → length s.connections ≡ sessions
  as_many last k p inside s all =
      let was = (tells (get_or before k p)).closed in
      let one : length (tells (get_or after k p)).closed ≡ length was + length all.back = ap length (all.closed (sincere k p inside)) ∙ length-append was all.back in
      let other : length (tells (get_or after k p)).closed ≡ length was + length s.connections =
      ap length s.written ∙ length-append was (map (λ (c : Connection). c.1) s.connections) ∙ ap (λ n. length was + n) (length-map s.connections (λ (c : Connection). c.1)) in
      omega (arith, one, other, all.count)

  -- with status 0 all were
  abbrev Counted : Type 0
  Counted = status ≡ 0 → (k : ℕ) (p : P) → k < length before → HasServedAll tells sessions (get_or before k p) (get_or after k p)

  kept_images : EachImage (disk.tells old) (λ file. kept.Recovers file past)
  kept_images c image = to_kept c past (images c image)

  -- ---- nothing was served
  abbrev idle_port : after ≡ before → (k : ℕ) (p : P) → k < length before → ServedPort stamp ([] ++ past) (tells (get_or before k p)) (tells (get_or after k p))
  idle_port same k p below =
      let is : get_or after k p ≡ get_or before k p = ap (λ (l : List P). get_or l k p) same in
      record {
        connections = [];
        brought = ap (λ (q : P). (tells q).coming) (sym is);
        written = ap (λ (q : P). (tells q).closed) is ∙ sym (append-nil (tells (get_or before k p)).closed);
        exchanged = All-nil (λ (c : Connection). Exchanged stamp past c.0 c.1.text c.2);
      }

  idle : Counted → IsHonest (disk.tells new) → EachMoment (disk.tells old) (disk.tells new) (λ file. Recovers file past) → after ≡ before → RanPorts tells stamp sessions past (disk.tells old) (disk.tells new) before after status
  idle counted still moments same = record {
    added = [];
    undecided = None;
    stamps = All-nil (λ (e : StampedEntry Filing). e.stamp ≡ stamp);
    way = weaken (disk.tells old) (disk.tells new) (λ file. Recovers file past) (λ file. (history : List (StampedEntry Filing)) × IsOlder past history × IsOlder history past × Recovers file history) (λ file is. (past, ([], refl), ([], refl), is)) moments;
    end = λ c image. inl (moments.each c (counts new (disk.tells old).moment c still moments.later image));
    ports = idle_port same;
    all = λ is k p inside. as_many past k p inside (idle_port same k p inside) (counted is k p inside);
    memory = λ p some_want. let none = sum_below-none (length before) (λ k inside. all_times no_memory (idle_port same k p inside).connections) (λ k inside. refl) in absurd (omega (arith, none, some_want));
  }

  plainly : EachMoment (disk.tells old) (disk.tells new) (λ file. kept.Recovers file past) → EachMoment (disk.tells old) (disk.tells new) (λ file. Recovers file past)
  plainly moments = weaken (disk.tells old) (disk.tells new) (λ file. kept.Recovers file past) (λ file. Recovers file past) (λ file is. from_kept file past is) moments

  stays : new ≡ old → EachMoment (disk.tells old) (disk.tells new) (λ file. Recovers file past)
  stays same =
      subst (λ (d : D). EachMoment (disk.tells old) (disk.tells d) (λ file. Recovers file past)) (sym same)
      (started (disk.tells old) (λ file. Recovers file past) (λ c since. images c (only old c honest since)))

  -- a list that was opened is the one before
  one_list : (list : List (StampedEntry Filing)) (at : D) → IsOpened disk office_scheme list old at → list ≡ past
  one_list list at opened = recovers_once office_scheme office_alone (disk.tells old).reads list past (opened.recovers honest) (kept_images (disk.tells old).reads (here old honest))

  opened_moments : (list : List (StampedEntry Filing)) (at : D) → IsOpened disk office_scheme list old at → EachMoment (disk.tells old) (disk.tells at) (λ file. kept.Recovers file list)
  opened_moments list at opened = opened.moments honest (subst (λ (l : List (StampedEntry Filing)). EachImage (disk.tells old) (λ file. kept.Recovers file l)) (sym (one_list list at opened)) kept_images)

  -- ---- the workers served
  module _ (counted : Counted) (list history : List (StampedEntry Filing)) (pending : Option (StampedEntry Filing)) (log : List RowName) (waiting : Option RowName) (at : D) (workers : List (WorkerView (StampedEntry Filing) P))
      (opened : IsOpened disk office_scheme list old at)
      (has : HasServed (semantics_under stamp filing_semantics) (own_under stamp filing_asked) office_web tells faults sessions (stand_of list None [] None (disk.faults old) (disk.tells at).honest) (stand_of history pending log waiting (disk.faults new) (disk.tells new).honest) (map worker_of before) workers)
      (ports : after ≡ ports_of workers) (sound : IsHonest (disk.tells new) → IsSound office_scheme (disk.tells new) history pending)
      (moments : IsHonest (disk.tells new) → EachMoment (disk.tells at) (disk.tells new) (RecoversBetween office_scheme list (with_entry pending history))) where
    still : IsHonest (disk.tells new)
    still = subst IsTrue (sym (has.ran.fixed ∙ opened.honest)) honest

    abbrev more : List (StampedEntry Filing)
    more = entries_of has.ran.added

    whole : history ≡ more ++ list
    whole = joins disk tells faults sessions stamp old new before after list history pending log waiting at workers has sincere

    legal : IsLegal (entries history)
    legal = go pending (sound still)
      where
        go : (p : Option (StampedEntry Filing)) → IsSound office_scheme (disk.tells new) history p → IsLegal (entries history)
        go None settled = (settled (disk.tells new).reads (here new still)).legal
        go (Some f) undecided = undecided.legal.0

    abbrev OnWay : List (StampedEntry Filing) → List ℕ → Type 0
    OnWay last file = (h : List (StampedEntry Filing)) × IsOlder list h × IsOlder h (with_entry pending last) × Recovers file h

    onto : (o : Option (StampedEntry Filing)) (l : List (StampedEntry Filing)) → IsOlder l (with_entry o l)
    onto None l = ([], refl)
    onto (Some e) l = (e ∷ [], refl)

    way : EachMoment (disk.tells old) (disk.tells new) (OnWay history)
    way =
        join (disk.tells old) (disk.tells at) (disk.tells new) (OnWay history)
        (weaken (disk.tells old) (disk.tells at) (λ file. kept.Recovers file list) (OnWay history) (λ file is. (list, ([], refl), older_trans list history (with_entry pending history) (more, whole) (onto pending history), from_kept file list is)) (opened_moments list at opened))
        (weaken (disk.tells at) (disk.tells new) (RecoversBetween office_scheme list (with_entry pending history)) (OnWay history) (λ file between. let (h, from, to, is) = between in (h, from, to, from_kept file h is)) (moments still))

    abbrev Left : List (StampedEntry Filing) → List ℕ → Type 0
    Left last file = Recovers file last ⊎ Recovers file (with_entry pending last)

    left : EachImage (disk.tells new) (Left history)
    left = go pending (sound still)
      where
        go : (p : Option (StampedEntry Filing)) → IsSound office_scheme (disk.tells new) history p → EachImage (disk.tells new) (λ file. Recovers file history ⊎ Recovers file (with_entry p history))
        go None settled = λ c image. inl (from_kept c history (settled c image))
        go (Some f) undecided = λ c image. ⊎_elim (λ without. inl (from_kept c history without)) (λ with_it. inr (from_kept c (f ∷ history) with_it)) (undecided.images c image)

    abbrev ports_served : (k : ℕ) (p : P) → k < length before → ServedPort stamp (more ++ list) (tells (get_or before k p)) (tells (get_or after k p))
    ports_served = port_served disk tells faults sessions stamp old new before after list history pending log waiting at workers has sincere ports legal

    ran_here : RanPorts tells stamp sessions list (disk.tells old) (disk.tells new) before after status
    ran_here = record {
      added = more;
      undecided = pending;
      stamps = stamps disk tells faults sessions stamp old new before after list history pending log waiting at workers has sincere;
      way = subst (λ (l : List (StampedEntry Filing)). EachMoment (disk.tells old) (disk.tells new) (OnWay l)) whole way;
      end = subst (λ (l : List (StampedEntry Filing)). EachImage (disk.tells new) (Left l)) whole left;
      ports = ports_served;
      all = λ is k p inside. as_many (more ++ list) k p inside (ports_served k p inside) (counted is k p inside);
      memory = memory_here disk tells faults sessions stamp old new before after list history pending log waiting at workers has sincere ports legal;
    }

    ran_there : RanPorts tells stamp sessions past (disk.tells old) (disk.tells new) before after status
    ran_there = subst (λ (l : List (StampedEntry Filing)). RanPorts tells stamp sessions l (disk.tells old) (disk.tells new) before after status) (one_list list at opened) ran_here

  pub ran_ports : Counted → RanWeb disk sink tells faults sessions stamp old new before after out out' status → RanPorts tells stamp sessions past (disk.tells old) (disk.tells new) before after status
  ran_ports counted (unasked _ cannot same same_ports ends) = idle counted (subst (λ (d : D). IsHonest (disk.tells d)) (sym same) honest) (stays same) same_ports
  ran_ports counted (unopened error _ can u cause still_disk same_ports ends) = idle counted (subst IsTrue (sym u.honest) honest) (plainly (u.moments honest past kept_images)) same_ports
  ran_ports counted (starved list _ can opened still_disk same_ports ends) =
      idle counted (subst IsTrue (sym opened.honest) honest)
      (plainly (subst (λ (l : List (StampedEntry Filing)). EachMoment (disk.tells old) (disk.tells new) (λ file. kept.Recovers file l)) (one_list list new opened) (opened_moments list new opened))) same_ports
  ran_ports counted (served list history pending log waiting at workers _ can opened has ports sound moments ends) = ran_there counted list history pending log waiting at workers opened has ports sound moments

-- the disk that comes back is as honest as the one before
pub disk_stays_honest : {D K P : Type 0} (disk : Ghosts D) (sink : SinkGhosts K) (tells : P → AcceptorState) (faults : P → ℕ) (sessions : ℕ) (stamp : Stamp) (old new : D) (before after : List P) (out out' : K) (status : ℕ)
    → RanWeb disk sink tells faults sessions stamp old new before after out out' status → (disk.tells new).honest ≡ (disk.tells old).honest
disk_stays_honest {D} disk sink tells faults sessions stamp old new before after out out' status (unasked _ cannot same same_ports ends) = ap (λ (d : D). (disk.tells d).honest) same
disk_stays_honest disk sink tells faults sessions stamp old new before after out out' status (unopened error _ can u cause still_disk same_ports ends) = u.honest
disk_stays_honest disk sink tells faults sessions stamp old new before after out out' status (starved list _ can opened still_disk same_ports ends) = opened.honest
disk_stays_honest disk sink tells faults sessions stamp old new before after out out' status (served list history pending log waiting at workers _ can opened has ports sound moments ends) = has.ran.fixed ∙ opened.honest
