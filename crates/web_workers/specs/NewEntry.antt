-- What a docket's replies say over HTTP.
use Rattle.std.specs.Prelude.{◌≡◌, Bool, false, IsTrue}
use Rattle.log_desks.specs.Shares.{wants_memory}
use Rattle.log_machine.specs.Submits.{is_fault}
use Rattle.log_machine.specs.declared.reply.LogReply.{LogReply}
use Rattle.log_machine.specs.declared.reply.LogReply.TheVariants.{Answered, DiskFault, NoMemory}
use Rattle.web_session.specs.Asks.{Scheme}
use Rattle.web_session.specs.declared.status.Status.TheVariants.{NoStorage, Unavailable}

-- 503 is answered just where the disk failed, and 507 just where there was no memory
abbrev pub TellsFaults : {Operation Response : Type 0} → Scheme Operation (LogReply Response) → Type 0
TellsFaults {Response = Response} scheme =
    (reply : LogReply Response) → (scheme.status reply ≡ Unavailable → IsTrue (is_fault reply)) × (IsTrue (is_fault reply) → scheme.status reply ≡ Unavailable)
    × (scheme.status reply ≡ NoStorage → IsTrue (wants_memory reply)) × (IsTrue (wants_memory reply) → scheme.status reply ≡ NoStorage)

-- the reply says that the ask's own entry was added
abbrev pub is_added : {Response : Type 0} → (Response → Bool) → LogReply Response → Bool
is_added adds (Answered response front) = adds response
is_added adds (DiskFault undecided) = false
is_added adds NoMemory = false
