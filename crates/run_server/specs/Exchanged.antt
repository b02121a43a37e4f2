-- What a connection was answered, in few words: over HTTP/1.1 (RFC 9112), in the grammar of `httparse`. Own routes and bodies.
use Rattle.std.specs.Prelude.{◌≡◌, ◌≢◌, ◌⊎◌, ℕ, ◌+◌, Bool, true, false, if◌then◌else◌, List, [], ◌∷◌, ◌++◌, codes, Contains, decimal, length, Some}
use Rattle.std.specs.List.{All}
use Rattle.httparse.specs.Grammar.{ReadsRequest, RequestHead}
use Rattle.aid_types.specs.declared.award.Refusal.{Refusal}
use Rattle.aid_filings.specs.declared.filing.Filing.{Filing}
use Rattle.aid_stamps.specs.declared.stamp.Stamp.{Stamp}
use Rattle.log_lock.specs.Passes.{IsOlder}
use Rattle.log_stamps.specs.Entries.{entries}
use Rattle.log_stamps.specs.declared.entry.StampedEntry.{StampedEntry}
use Rattle.office_history.specs.Answer.{outcome_of}
use Rattle.run_claims.specs.Rules.{may_follow}
use Rattle.web_json.specs.Replies.{filed_body, refused_body}
use Rattle.web_session.specs.Heads.{fields_of, number_said, values}
use Rattle.run_server.specs.Posted.{Posts}

-- how long a body is, by the values of its head's fields Content-Length: none, or one number
abbrev pub IsLength : List (List ℕ) → ℕ → Type 0
IsLength [] n = n ≡ 0
IsLength (text ∷ []) n = number_said text ≡ Some n
IsLength _ n = ⊥

-- bytes begin with a request: its head, a body that is as long as the head says, and the bytes behind it
pub record BeginsWith (bytes : List ℕ) (head : RequestHead) (body rest : List ℕ) : Type 0 where
  pub reads : ReadsRequest bytes head (body ++ rest)
  pub size : IsLength (values (codes "content-length") (fields_of head)) (length body)

-- this is the one filing that the request files, if it files one
abbrev pub PostsAlone : RequestHead → List ℕ → Filing → Type 0
PostsAlone head body f = (g : Filing) → Posts head body g → g ≡ f

-- a response: its status, whether it is the last one, and its body
abbrev pub response : List ℕ → Bool → List ℕ → List ℕ
response status last body =
    codes "HTTP/1.1 " ++ (status ++ (codes "\r\nContent-Length: " ++ (decimal (length body) ++ (codes "\r\nContent-Type: application/json\r\n"
    ++ ((if last then codes "Connection: close\r\n\r\n" else codes "\r\n") ++ body)))))

-- What a request is answered: a status and a body. `closed` is the history at the end, and of an older part of it was answered.
pub data Replied (stamp : Stamp) (closed : List (StampedEntry Filing)) (head : RequestHead) (body : List ℕ) : List ℕ → List ℕ → Type 0 where
  -- its filing joined the history, under this stamp: the position, and what it brought
  accepted : (f : Filing) (past : List (StampedEntry Filing)) → PostsAlone head body f → IsOlder (record { entry = f; stamp = stamp } ∷ past) closed
      → Replied stamp closed head body (codes "201 Created") (filed_body (codes "accepted") (length past + 1) (length past) (outcome_of (entries past) f))
  -- it stood already: where, and what it brought then
  again : (e : StampedEntry Filing) (past newer older : List (StampedEntry Filing)) → PostsAlone head body e.entry → IsOlder past closed → past ≡ newer ++ e ∷ older
      → Replied stamp closed head body (codes "200 OK") (filed_body (codes "again") (length older + 1) (length past) (outcome_of (entries older) e.entry))
  -- it didn't stand, and has another's key or may not follow
  refused : (f : Filing) (refusal : Refusal) (past : List (StampedEntry Filing)) → PostsAlone head body f → IsOlder past closed → All (λ g. g ≢ f) (entries past)
      → (All (λ g. g.key ≢ f.key) (entries past) → may_follow (entries past) f ≡ false) → Replied stamp closed head body (codes "422 Unprocessable Entity") (refused_body refusal (length past))
  -- the disk failed, or there was no memory
  failed : (status text : List ℕ) → (status ≡ codes "503 Service Unavailable") ⊎ (status ≡ codes "507 Insufficient Storage") → Replied stamp closed head body status text
  -- it files nothing
  other : (status text : List ℕ) → ((f : Filing) → Posts head body f → ⊥) → Contains (codes "200 OK" ∷ codes "400 Bad Request" ∷ codes "404 Not Found" ∷ codes "405 Method Not Allowed" ∷ []) status
      → Replied stamp closed head body status text

-- A connection, by the bytes that it brought, the text that was written on it, and the statuses of its replies: a response to each request that came first, and behind them no more than one
-- response, which may be cut short: to the next request, or a rejection of what came.
pub data Exchanged (stamp : Stamp) (closed : List (StampedEntry Filing)) : List ℕ → List ℕ → List (List ℕ) → Type 0 where
  answered : (bytes : List ℕ) (head : RequestHead) (body rest status reply text : List ℕ) (last : Bool) (statuses : List (List ℕ)) → BeginsWith bytes head body rest → Replied stamp closed head body status reply
      → Exchanged stamp closed rest text statuses → Exchanged stamp closed bytes (response status last reply ++ text) (status ∷ statuses)
  stopped : (bytes : List ℕ) (head : RequestHead) (body rest status reply text cut : List ℕ) (last : Bool) → BeginsWith bytes head body rest → Replied stamp closed head body status reply
      → text ++ cut ≡ response status last reply → Exchanged stamp closed bytes text (status ∷ [])
  rejected : (bytes status reply text cut : List ℕ) → Contains (codes "400 Bad Request" ∷ codes "411 Length Required" ∷ codes "413 Payload Too Large" ∷ codes "431 Request Header Fields Too Large" ∷ codes "501 Not Implemented" ∷ []) status
      → text ++ cut ≡ response status true reply → Exchanged stamp closed bytes text []
