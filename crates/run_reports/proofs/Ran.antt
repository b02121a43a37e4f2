-- What follows from how a text is written.
use Rattle.std.proofs.Common.{◌≡◌, inl, inr, ℕ, ◌≤◌, arith, false, List, ◌++◌, Result, Ok, IsTrue, Option, Some, None, ap, refl, subst, sym, ◌∙◌}
use Rattle.std.specs.Prelude.{IfErr}
use Rattle.io_traits.specs.Faults.{Rose}
use Rattle.io_traits.specs.declared.sink.Sink.{Ghosts as SinkGhosts}
use Rattle.io_traits.specs.DiskState.{EachImage, EachMoment, IsHonest}
use Rattle.io_traits.specs.declared.disk.Disk.{Ghosts}
use Rattle.log_machine.specs.Recovers.{Recovers}
use Rattle.log_machine.specs.Scheme.{Scheme}
use Rattle.log_runs.specs.Counts.{Counts, HasCause, written}
use Rattle.log_runs.specs.Ends.{Ends, Moved, stopped, well}
use Rattle.log_runs.specs.Lists.{IsListAt}
use Rattle.log_runs.specs.Statuses.{ended_file, is_disk_fault, is_read_fault, is_write_fault, status_of}
use Rattle.log_runs.specs.declared.stop.RunStop.{RunStop}
use Rattle.log_runs.proofs.EndLaws.{done_at, sink_moved}
use Rattle.log_runs.proofs.Excused.{IsExcused, unopened_by}
use Rattle.log_session.specs.Edges.{Output}
use Rattle.log_session.specs.Links.{IsOpened}
use Rattle.log_session.specs.Reports.{Reports, starved, told, unopened, unwritten}
use Rattle.log_session.specs.declared.stop.SessionStop.{SessionStop}
use Rattle.run_reports.specs.Runs.{RanReport, did, edges}

-- what is written is the text of the list that each image recovers, and no image ever recovers another
module _ {D Entry : Type 0} (disk : Ghosts D) (scheme : Scheme Entry) (once : (file : List ℕ) (one other : List Entry) → Recovers scheme file one → Recovers scheme file other → one ≡ other) (here : (d : D) → IsHonest (disk.tells d) → (disk.tells d).image (disk.tells d).reads)
    (text : List Entry → List ℕ) (old new : D) (past : List Entry) (honest : IsHonest (disk.tells old)) (each : EachImage (disk.tells old) (λ file. Recovers scheme file past)) where
  -- the list that was opened is the one before
  same_list : (list : List Entry) → IsOpened disk scheme list old new → list ≡ past
  same_list list is = once (disk.tells old).reads list past (is.recovers honest) (each (disk.tells old).reads (here old honest))

  moments_of_opened : (list : List Entry) → IsOpened disk scheme list old new → EachMoment (disk.tells old) (disk.tells new) (λ file. Recovers scheme file past)
  moments_of_opened list is =
      let same = same_list list is in
      subst (λ (h : List Entry). EachMoment (disk.tells old) (disk.tells new) (λ file. Recovers scheme file h)) same
      (is.moments honest (subst (λ (h : List Entry). EachImage (disk.tells old) (λ file. Recovers scheme file h)) (sym same) each))

  pub moments_by : (output : Output) (ended : Result Unit SessionStop) → Reports disk scheme text old new output ended → EachMoment (disk.tells old) (disk.tells new) (λ file. Recovers scheme file past)
  moments_by output ended (unopened error not same) = not.moments honest past each
  moments_by output ended (told list is wrote) = moments_of_opened list is
  moments_by output ended (unwritten list is cut) = moments_of_opened list is
  moments_by output ended (starved list is same) = moments_of_opened list is

  written_by : (output : Output) (ended : Result Unit SessionStop) → Reports disk scheme text old new output ended → ended_file ended ≡ Ok tt → IsTrue output.honest → output.after ≡ output.before ++ text past
  written_by output ended (unopened error not same) done tells = absurd (let bad : ⊥ = cc in bad)
  written_by output ended (told list is wrote) done tells = wrote tells ∙ ap (λ (h : List Entry). output.before ++ text h) (same_list list is)
  written_by output ended (unwritten list is cut) done tells = absurd (let bad : ⊥ = cc in bad)
  written_by output ended (starved list is same) done tells = absurd (let bad : ⊥ = cc in bad)

  -- behind the end of a run that was done stands the text
  pub shown_by : {K : Type 0} (sink : SinkGhosts K) (out at out' : K) (ended : Result Unit SessionStop) (closed : Result Unit RunStop) (status : ℕ) → closed ≡ ended_file ended
      → Reports disk scheme text old new (written sink out at) ended → Ends sink at out' closed status → status ≡ 0 → IsTrue (sink.honest out) → sink.text out' ≡ sink.text out ++ text past
  shown_by sink out at out' ended closed status is reports ends zero tells =
      let done = done_at sink at out' closed status ends zero in
      ap sink.text (unwritten_end closed status ends done) ∙ written_by (written sink out at) ended reports (sym is ∙ done) tells
    where
      unwritten_end : (closed : Result Unit RunStop) (status : ℕ) → Ends sink at out' closed status → closed ≡ Ok tt → out' ≡ at
      unwritten_end closed status (well same) done = same
      unwritten_end closed status (stopped stop _ with) done = absurd (let bad : ⊥ = cc in bad)

-- over such a list a run stays without its text only where an edge failed, or there was no memory
pub excused_by : {D Entry : Type 0} (disk : Ghosts D) (scheme : Scheme Entry) (text : List Entry → List ℕ) (old new : D) (output : Output) (ended : Result Unit SessionStop) (closed : Result Unit RunStop) → closed ≡ ended_file ended
    → Reports disk scheme text old new output ended → IsListAt scheme (disk.tells old) → IfErr closed (λ stop. IsExcused (status_of stop))
excused_by disk scheme text old new output ended closed is reports can = subst (λ (e : Result Unit RunStop). IfErr e (λ stop. IsExcused (status_of stop))) (sym is) (go ended reports)
  where
    go : (ended : Result Unit SessionStop) → Reports disk scheme text old new output ended → IfErr (ended_file ended) (λ stop. IsExcused (status_of stop))
    go ended (unopened error not same) = unopened_by disk scheme old new can.0 can.1 can.2 error not
    go ended (told list is wrote) = tt
    go ended (unwritten list is cut) = inr (inl refl)
    go ended (starved list is same) = inr (inr (inr refl))

-- nothing is read but the disk
pub unread_by : {D Entry : Type 0} (disk : Ghosts D) (scheme : Scheme Entry) (text : List Entry → List ℕ) (old new : D) (output : Output) (ended : Result Unit SessionStop) → Reports disk scheme text old new output ended
    → is_read_fault (ended_file ended) ≡ false
unread_by disk scheme text old new output ended (unopened error not same) = refl
unread_by disk scheme text old new output ended (told list is wrote) = refl
unread_by disk scheme text old new output ended (unwritten list is cut) = refl
unread_by disk scheme text old new output ended (starved list is same) = refl

-- why a run ended
pub caused_by : {K : Type 0} (sink : SinkGhosts K) (counted : ℕ × ℕ) (out at out' : K) (ended : Result Unit RunStop) (status : ℕ) → Moved (is_read_fault ended) (0, 0) → Moved (is_disk_fault ended) counted
    → sink.faults out ≤ sink.faults at → Moved (is_write_fault ended) (sink.faults out, sink.faults at) → Ends sink at out' ended status → HasCause (edges (sink.faults out, sink.faults out') counted) ended status
caused_by sink counted out at out' ended status read moved later wrote ends = record {
  source = read;
  disk = moved;
  sink = sink_moved sink at out' ended status (sink.faults out) later wrote ends;
}

-- all that a run does that writes a text
pub did_by : {D K Entry : Type 0} (disk : Ghosts D) (sink : SinkGhosts K) (scheme : Scheme Entry) (counts : Counts) (asked : Option (List Entry → List ℕ)) (old new : D) (out at out' : K) (text : List Entry → List ℕ)
    (ended : Result Unit SessionStop) (closed : Result Unit RunStop) (status : ℕ) → asked ≡ Some text → closed ≡ ended_file ended → Reports disk scheme text old new (written sink out at) ended → sink.honest at ≡ sink.honest out
    → HasCause counts closed status → Ends sink at out' closed status → RanReport disk sink scheme counts asked old new out out' status
did_by disk sink scheme counts asked old new out at out' text ended closed status are is reports honest cause ends =
    did text at ended status are reports honest (subst (λ (e : Result Unit RunStop). HasCause counts e status) is cause) (subst (λ (e : Result Unit RunStop). Ends sink at out' e status) is ends)

-- a count that is 0 from begin to end didn't rise
pub still : Rose 0 0 → ⊥
still (inl more) = absurd (omega (arith, more))
still (inr last) = absurd (omega (arith, last))

-- one text is asked for at most
pub one_text : {A : Type 0} (asked : Option A) (text other : A) → asked ≡ Some text → asked ≡ Some other → text ≡ other
one_text asked text other is also = let same : Some text ≡ Some other = sym is ∙ also in cc

pub no_text : {A : Type 0} (asked : Option A) (text : A) → asked ≡ None → asked ≡ Some text → ⊥
no_text asked text none is = let bad : None ≡ Some text = sym none ∙ is in cc
