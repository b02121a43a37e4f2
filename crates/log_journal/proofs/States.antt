-- What the crate above needs of the states of a journal.
use Rattle.std.proofs.Common.{◌≡◌, inl, ℕ, List, ◌∷◌, length, Option, Some, subst, sym, refl}
use Rattle.std.specs.Prelude.{IsSome}
use Rattle.io_traits.specs.DiskState.{IsQuiet, EachImage}
use Rattle.io_traits.specs.declared.disk.Disk.{Ghosts}
use Rattle.io_traits.proofs.Moments.{each_if_quiet}
use Rattle.log_journal.specs.Stands.{Payloads, StandsFor, BeforeOrWith, IsUnborn}
use Rattle.log_journal.specs.Founded.{UnbornOrEmpty}
use Rattle.log_journal.specs.Journal.{MayKeep, HasUndecided}
use Rattle.log_journal.specs.Opening.{HasGiven, HasAll}
use Rattle.log_journal.specs.declared.header.Header.{Header}
use Rattle.log_journal.specs.declared.journal.Journal.{Journal}
use Rattle.log_journal.specs.declared.opening.Opening.{Opening}

is_some : {T : Type 0} (o : Option T) (v : T) → o ≡ Some v → IsSome o
is_some o v is = subst IsSome (sym is) refl

-- with a payload undecided something is undecided
pub has_undecided : {D : Type 0} (disk : Ghosts D) (header : Header) (journal : Journal D disk) (payloads : Payloads) (payload : List ℕ) → MayKeep disk header journal payloads payload → HasUndecided journal
has_undecided disk header journal payloads payload may = is_some journal.undecided (length payload) may.undecided

-- who was given all was given these
pub given_all : {D : Type 0} (disk : Ghosts D) (header : Header) (opening : Opening D disk) (payloads : Payloads) → HasAll disk header opening payloads → HasGiven disk header opening payloads
given_all disk header opening payloads all = record {
  rest = all.stands.gate ∷ all.stands.free;
  whole = all.stands.whole;
  sizes = all.stands.sizes;
  gate = all.gate;
  count = all.count;
}

-- a quiet disk on which nothing was founded
pub quiet_unborn : {D : Type 0} (disk : Ghosts D) (header : Header) (d : D) → IsQuiet (disk.tells d) → IsUnborn (disk.tells d).reads → EachImage (disk.tells d) (UnbornOrEmpty header)
quiet_unborn disk header d quiet unborn = each_if_quiet (disk.tells d) (UnbornOrEmpty header) quiet (inl unborn)

-- a quiet disk that stands for payloads
pub quiet_stands : {D : Type 0} (disk : Ghosts D) (header : Header) (d : D) (payloads : Payloads) → IsQuiet (disk.tells d) → StandsFor header (disk.tells d).reads payloads → EachImage (disk.tells d) (λ file. StandsFor header file payloads)
quiet_stands disk header d payloads quiet stands = each_if_quiet (disk.tells d) (λ file. StandsFor header file payloads) quiet stands

-- where nothing is undecided, the payloads stand before any put
pub before_put : (header : Header) (payloads : Payloads) (payload file : List ℕ) → StandsFor header file payloads → BeforeOrWith header payloads payload file
before_put header payloads payload file stands = inl stands
