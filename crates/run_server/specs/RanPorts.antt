-- What a run of the server comes to, in few words.
use Rattle.std.specs.Prelude.{◌≡◌, ◌⊎◌, ◌+◌, ◌<◌, ◌≤◌, ℕ, List, [], ◌∷◌, ◌++◌, bytes_eq, codes, get_or, if◌then◌else◌, length, map, sum_by, Option}
use Rattle.std.specs.List.{All, list_any}
use Rattle.aid_filings.specs.declared.filing.Filing.{Filing}
use Rattle.aid_stamps.specs.declared.stamp.Stamp.{Stamp}
use Rattle.io_traits.specs.DiskState.{DiskState, EachImage, EachMoment}
use Rattle.log_lock.specs.Passes.{IsOlder}
use Rattle.log_machine.specs.Submits.{with_entry}
use Rattle.log_stamps.specs.declared.entry.StampedEntry.{StampedEntry}
use Rattle.run_claims.specs.Office.{Recovers}
use Rattle.run_server.specs.Exchanged.{Exchanged}
use Rattle.web_session.specs.Ports.{AcceptorState, Closed}
use Rattle.web_workers.specs.AllTold.{sum_below}

-- a connection: the bytes that it brought, what was written on it, and the statuses of its replies
abbrev pub Connection : Type 0
Connection = List ℕ × Closed × List (List ℕ)

-- The connections that a port handed out, in order.
pub record ServedPort (stamp : Stamp) (closed : List (StampedEntry Filing)) (old new : AcceptorState) : Type 0 where
  pub connections : List Connection
  pub brought : old.coming ≡ map (λ c. c.0) connections ++ new.coming
  pub written : new.closed ≡ old.closed ++ map (λ c. c.1) connections
  pub exchanged : All (λ c. Exchanged stamp closed c.0 c.1.text c.2) connections

-- how many of these statuses are among those
abbrev pub times : List (List ℕ) → List (List ℕ) → ℕ
times among [] = 0
times among (status ∷ statuses) = (if list_any (bytes_eq status) among then 1 else 0) + times among statuses

-- how many of all replies on these connections have one of those statuses
abbrev pub all_times : List (List ℕ) → List Connection → ℕ
all_times among connections = sum_by (λ (c : Connection). times among c.2) connections

-- A run over ports, on a file that recovers a history: what joined it, and one filing more that may be undecided at the end. At each moment each image recovers
-- a history on the way there, and at the end all of it, with the undecided one or without. With status 0 each port had so many connections. Where any reply was 507,
-- at least as many as there are ports were 200, 201, 422 or 503.
pub record RanPorts {P : Type 0} (tells : P → AcceptorState) (stamp : Stamp) (sessions : ℕ) (past : List (StampedEntry Filing)) (old new : DiskState) (before after : List P) (status : ℕ) : Type 0 where
  pub added : List (StampedEntry Filing)
  pub undecided : Option (StampedEntry Filing)
  pub stamps : All (λ e. e.stamp ≡ stamp) (with_entry undecided added)
  pub way : EachMoment old new (λ file. (history : List (StampedEntry Filing)) × IsOlder past history × IsOlder history (with_entry undecided (added ++ past)) × Recovers file history)
  pub end : EachImage new (λ file. Recovers file (added ++ past) ⊎ Recovers file (with_entry undecided (added ++ past)))
  pub ports : (k : ℕ) (p : P) → k < length before → ServedPort stamp (added ++ past) (tells (get_or before k p)) (tells (get_or after k p))
  pub all : status ≡ 0 → (k : ℕ) (p : P) (inside : k < length before) → length (ports k p inside).connections ≡ sessions
  pub memory : (p : P) → 0 < sum_below (length before) (λ k inside. all_times (codes "507 Insufficient Storage" ∷ []) (ports k p inside).connections)
      → length before ≤ sum_below (length before) (λ k inside. all_times (codes "200 OK" ∷ codes "201 Created" ∷ codes "422 Unprocessable Entity" ∷ codes "503 Service Unavailable" ∷ []) (ports k p inside).connections)
