-- What the status of a run shows of the counts of faults, and that a run is done whose edges don't fail.
use Rattle.std.proofs.Common.{◌≡◌, ◌⊎◌, ℕ, Bool, Result, subst}
use Rattle.std.proofs.lemmas.Bool.{eq-eqb, true≢false}
use Rattle.std.specs.Prelude.{IfErr}
use Rattle.io_traits.specs.Faults.{Rose}
use Rattle.io_traits.specs.declared.sink.Sink.{Ghosts}
use Rattle.log_runs.specs.Counts.{Counts, HasCause, Shows}
use Rattle.log_runs.specs.Ends.{Ends, Moved, stopped, told, untold, well}
use Rattle.log_runs.specs.Statuses.{status_of}
use Rattle.log_runs.specs.declared.stop.RunStop.{RunStop}
use Rattle.log_runs.proofs.EndLaws.{disk_cause, read_cause, shown}
use Rattle.log_runs.proofs.Excused.{IsExcused, ends_by, unfailed}

pub ends_show : {K : Type 0} (sink : Ghosts K) (old new : K) (counts : Counts) (ended : Result Unit RunStop) (status : ℕ) → HasCause counts ended status → Ends sink old new ended status → Shows counts status
ends_show sink old new counts ended status cause (well same) = record { sink = cause.sink; source = λ other. cause.source; disk = λ other. cause.disk }
ends_show sink old new counts ended status cause (stopped stop _ (told put)) = record {
  sink = cause.sink;
  source = λ other. subst (λ (b : Bool). Moved b counts.source) (shown stop).read cause.source;
  disk = λ other. subst (λ (b : Bool). Moved b counts.disk) (shown stop).disk cause.disk;
}
ends_show sink old new counts ended status cause (stopped stop _ (untold cut)) = record { sink = cause.sink; source = λ other. absurd (true≢false other); disk = λ other. absurd (true≢false other) }

-- where no edge failed, a run whose stop only a failed edge or want of memory excuses is done, or there was no memory
pub ends_done : {K : Type 0} (sink : Ghosts K) (counts : Counts) (at out : K) (ended : Result Unit RunStop) (status : ℕ) → HasCause counts ended status → Ends sink at out ended status
    → IfErr ended (λ stop. IsExcused (status_of stop))
    → (Rose counts.source.0 counts.source.1 → ⊥) → (Rose counts.sink.0 counts.sink.1 → ⊥) → (Rose counts.disk.0 counts.disk.1 → ⊥) → (status ≡ 0) ⊎ (status ≡ 9)
ends_done sink counts at out ended status cause ends excused =
    unfailed status (Rose counts.source.0 counts.source.1) (Rose counts.sink.0 counts.sink.1) (Rose counts.disk.0 counts.disk.1)
    (ends_by sink at out ended status ends excused)
    (λ three. cause.source.rose (read_cause sink at out ended status ends three))
    (λ four. cause.sink.rose (eq-eqb status 4 four))
    (λ five. cause.disk.rose (disk_cause sink at out ended status ends five))
