-- What the code finds of the next request.
use Rattle.std.specs.Prelude.{◌≤◌, ◌+◌, ℕ, List, ⊤}
use Rattle.web_session.specs.Exchange.{Told, more, bad, whole, request_at}
use Rattle.web_session.specs.declared.next_request.NextRequest.{NextRequest}
use Rattle.web_session.specs.declared.next_request.NextRequest.TheVariants.{More, Bad, Whole}

abbrev pub told_of : List ℕ → NextRequest → Told
told_of bytes More = more
told_of bytes (Bad status) = bad status
told_of bytes (Whole head end) = whole (request_at bytes end head)

-- a request has no more bytes than have come
abbrev pub RequestFits : ℕ → NextRequest → Type 0
RequestFits n More = ⊤
RequestFits n (Bad status) = ⊤
RequestFits n (Whole head end) = end + head.length ≤ n

abbrev pub IsMore : NextRequest → Type 0
IsMore More = ⊤
IsMore (Bad status) = ⊥
IsMore (Whole head end) = ⊥

abbrev pub IsBad : NextRequest → Type 0
IsBad More = ⊥
IsBad (Bad status) = ⊤
IsBad (Whole head end) = ⊥
