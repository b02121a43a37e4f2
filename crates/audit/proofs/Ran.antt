-- What follows from how the answer to an input ends.
use Rattle.std.proofs.Common.{◌≡◌, arith, false, ℕ, ◌≤◌, inl, inr, List, ◌++◌, length, Result, Ok, IsTrue, refl, sym, subst}
use Rattle.std.specs.Prelude.{IfErr, Some}
use Rattle.io_traits.specs.Faults.{Rose}
use Rattle.io_traits.specs.declared.sink.Sink.{Ghosts}
use Rattle.log_session.specs.Edges.{Input}
use Rattle.log_session.specs.declared.stop.ReadStop.TheVariants as reading
use Rattle.log_runs.specs.Counts.{HasCause}
use Rattle.log_runs.specs.Ends.{Ends, Moved, stopped, well}
use Rattle.log_runs.specs.Statuses.{is_disk_fault, is_read_fault, is_write_fault, status_of}
use Rattle.log_runs.specs.declared.stop.RunStop.{RunStop}
use Rattle.log_runs.proofs.EndLaws.{done_at, sink_moved, stood}
use Rattle.log_runs.proofs.Excused.{IsExcused, unread_by}
use Rattle.audit.specs.Answers.{AnswersInput, answered, answers_of, cut, starved, unread}
use Rattle.audit.specs.Runs.{HasAnswered, edges}
use Rattle.audit.specs.Words.{limit_of}
use Rattle.audit.specs.declared.words.AuditCommand.{AuditCommand}

module _ {K : Type 0} (limit : ℕ) (answers : List ℕ → List ℕ → Type 0) (sink : Ghosts K) (input : Input) (old new : K) where
  -- an input within the limit stays without an answer only where an edge failed, or there was no memory
  pub excused_by : (ended : Result Unit RunStop) → AnswersInput limit answers sink input old new ended → IsTrue input.honest → length input.before ≤ limit
      → IfErr ended (λ stop. IsExcused (status_of stop))
  excused_by ended (unread stop is same) honest short = unread_by stop limit input is honest short
  excused_by ended (starved whole same) honest short = inr (inr (inr refl))
  excused_by ended (answered read text whole same is put) honest short = tt
  excused_by ended (cut read text whole same is short_put) honest short = inr (inl refl)

  -- where it ended well, a text that answers the input was written
  pub answered_by : (ended : Result Unit RunStop) → AnswersInput limit answers sink input old new ended → ended ≡ Ok tt → IsTrue input.honest → IsTrue (sink.honest old)
      → (text : List ℕ) × answers input.before text × (sink.text new ≡ sink.text old ++ text)
  answered_by ended (unread stop is same) good honest tells = absurd (let bad : ⊥ = cc in bad)
  answered_by ended (starved whole same) good honest tells = absurd (let bad : ⊥ = cc in bad)
  answered_by ended (answered read text whole same is put) good honest tells = (text, subst (λ (bytes : List ℕ). answers bytes text) (same honest) is, put.written tells)
  answered_by ended (cut read text whole same is short_put) good honest tells = absurd (let bad : ⊥ = cc in bad)

-- a run that ended well leaves the sink as it was behind the text
pub ends_well : {K : Type 0} (sink : Ghosts K) (old new : K) (ended : Result Unit RunStop) (status : ℕ) → Ends sink old new ended status → ended ≡ Ok tt → new ≡ old
ends_well sink old new ended status (well same) good = same
ends_well sink old new ended status (stopped stop _ with) good = absurd (let bad : ⊥ = cc in bad)

pub done_by : {K : Type 0} (command it : AuditCommand) (sink : Ghosts K) (input : Input) (old at new : K) (ended : Result Unit RunStop) (status : ℕ) → Some command ≡ Some it → AnswersInput (limit_of command) (answers_of command) sink input old at ended
    → Ends sink at new ended status → status ≡ 0 → IsTrue input.honest → IsTrue (sink.honest old) → HasAnswered it input.before (sink.text old) (sink.text new)
done_by {K} command it sink input old at new ended status is does ends zero honest tells =
    let good = done_at sink at new ended status ends zero in
    let same : command ≡ it = cc in
    subst (λ (end : K). HasAnswered it input.before (sink.text old) (sink.text end)) (sym (ends_well sink at new ended status ends good))
    (subst (λ (c : AuditCommand). HasAnswered c input.before (sink.text old) (sink.text at)) same (answered_by (limit_of command) (answers_of command) sink input old at ended does good honest tells))

-- no run calls a disk
no_disk : {K : Type 0} (limit : ℕ) (answers : List ℕ → List ℕ → Type 0) (sink : Ghosts K) (input : Input) (old new : K) (ended : Result Unit RunStop) → AnswersInput limit answers sink input old new ended → is_disk_fault ended ≡ false
no_disk limit answers sink input old new ended (unread reading.Read is same) = refl
no_disk limit answers sink input old new ended (unread reading.TooLong is same) = refl
no_disk limit answers sink input old new ended (unread reading.NoMemory is same) = refl
no_disk limit answers sink input old new ended (starved whole same) = refl
no_disk limit answers sink input old new ended (answered read text whole same is put) = refl
no_disk limit answers sink input old new ended (cut read text whole same is short_put) = refl

-- why a run ended as it did
pub caused_by : {K : Type 0} (limit : ℕ) (answers : List ℕ → List ℕ → Type 0) (sink : Ghosts K) (input : Input) (source : ℕ × ℕ) (old at new : K) (ended : Result Unit RunStop) (status : ℕ) → AnswersInput limit answers sink input old at ended
    → Moved (is_read_fault ended) source → sink.faults old ≤ sink.faults at → Moved (is_write_fault ended) (sink.faults old, sink.faults at) → Ends sink at new ended status
    → HasCause (edges source (sink.faults old, sink.faults new)) ended status
caused_by limit answers sink input source old at new ended status does read later wrote ends = record {
  source = read;
  disk = stood (is_disk_fault ended) 0 (no_disk limit answers sink input old at ended does);
  sink = sink_moved sink at new ended status (sink.faults old) later wrote ends;
}

-- a count that is 0 from begin to end didn't rise
pub still : Rose 0 0 → ⊥
still (inl more) = absurd (omega (arith, more))
still (inr last) = absurd (omega (arith, last))

-- what answers the input of a command that is known
pub by_command : {K : Type 0} (command known : AuditCommand) (sink : Ghosts K) (input : Input) (old new : K) (ended : Result Unit RunStop) → command ≡ known
    → AnswersInput (limit_of known) (answers_of known) sink input old new ended → AnswersInput (limit_of command) (answers_of command) sink input old new ended
by_command command known sink input old new ended is does = subst (λ (c : AuditCommand). AnswersInput (limit_of c) (answers_of c) sink input old new ended) (sym is) does

-- words say one command
pub same_command : (command it : AuditCommand) → Some command ≡ Some it → it ≡ command
same_command command it is = let same : command ≡ it = cc in sym same
